-- How the code holds the marks and the entries that wait. Assumes nothing.
--     marks means notes    the mark of each node
--     Waits means es       which entries are among es
--     worth                whether an amount is worth noting
--     Holds, Looking       what holds between two turns, and while the neighbours of a node are looked at
--     LookedAt, LookedRound what a look at one neighbour, and at all, comes to
--     Stays                the same nodes are settled as before
--     SameWork             the same graph, and the notes in their place
--     Traced, Reached      a node was reached, and the notes lead back from it to the start
use Rattle.std.specs.Prelude.{◌≡◌, ℕ, ◌+◌, ◌-◌, ◌*◌, ◌<◌, ◌≤◌, Bool, true, false, not, List, length, Some, Option, slice_index_or}
use Rattle.std.specs.List.{ContainsAt as Has}
use Rattle.costs.specs.declared.amount.Amount.{Ghosts as Amounts}
use Rattle.costs.specs.Amounts.{Sums}
use Rattle.frontier.specs.declared.entry.Entry.{Entry}
use Rattle.frontier.specs.declared.note.Note.{Note}
use Rattle.frontier.specs.declared.note.Note.TheVariants.{Unseen, Waiting, Settled}
use Rattle.frontier.specs.declared.graph.Graph.{Ghosts as Graphs}
use Rattle.frontier.specs.declared.search.Search.{Search as Work}
use Rattle.frontier.specs.Graphs.{Shape}
use Rattle.frontier.specs.Routes.{Search, search_from, LeastCost}
use Rattle.frontier.specs.Ways.{Leads}
use Rattle.frontier.specs.Front.{Mark, unseen, waits, settled, settled_below, Nothing, Frontier, Light, Trail}

abbrev pub mark : {C M : Type 0} → (C → M) → Note C → Mark M
mark means Unseen = unseen
mark means (Waiting a p) = waits (means a) p
mark means (Settled a p) = settled (means a) p

abbrev pub marks : {C M : Type 0} → (C → M) → List (Note C) → ℕ → Mark M
marks means notes v = mark means (slice_index_or notes v Unseen)

-- an entry for the node w, of an amount that means a, is among the entries
abbrev pub Waits : {C M : Type 0} → (C → M) → List (Entry C) → M → ℕ → Type 0
Waits {C} means entries a w = (e : Entry C) × Has entries e × (means e.amount ≡ a) × (e.node ≡ w)

-- whether the amount m is worth noting at a node of that mark
abbrev pub worth : {M : Type 0} → Sums M → Mark M → M → Bool
worth sums unseen m = true
worth sums (waits b p) m = not (sums.leq b m)
worth sums (settled b p) m = false

-- the moves from v to its neighbours from the k-th on
abbrev pub Ahead : (ℕ → ℕ → Option ℕ) → ℕ → ℕ → ℕ → ℕ → Type 0
Ahead next v k u w = (u ≡ v) × (j : ℕ) × (k ≤ j) × (j < 6) × (next v j ≡ Some w)

-- the search stands as its notes and the entries say, and `left` more entries may be put in before the turn ends: each settled
-- node puts in six at most
pub record Holds {C M : Type 0} (g : Search M) (means : C → M) (notes : List (Note C)) (entries : List (Entry C))
    (pending : ℕ → ℕ → Type 0) (left : ℕ) : Type 0 where
  pub front : Frontier g (marks means notes) (Waits means entries) pending
  pub light : Light g (marks means notes)
  pub long : length notes ≡ g.shape.size
  pub tally : length entries + left ≤ 1 + 6 * settled_below (marks means notes) g.shape.size

-- v is settled with the amount a, and its neighbours before the k-th were looked at
pub record Looking {C M : Type 0} (g : Search M) (means : C → M) (v : ℕ) (a : M) (notes : List (Note C))
    (entries : List (Entry C)) (k : ℕ) : Type 0 where
  pub holds : Holds g means notes entries (Ahead g.shape.next v k) (6 - k)
  pub here : (p : ℕ) × (marks means notes v ≡ settled a p)

-- wherever the search started: v is settled with a, and its neighbours before the k-th were looked at, then the
-- k-th is looked at too
abbrev pub LookedAt : {C M : Type 0} → Sums M → (C → M) → Shape → (ℕ → ℕ → M) → ℕ → M → ℕ
    → List (Note C) → List (Entry C) → List (Note C) → List (Entry C) → Type 0
LookedAt sums means shape price v a k notes entries notes' entries' =
    (from : ℕ) → Looking (search_from sums shape price from) means v a notes entries k
    → Looking (search_from sums shape price from) means v a notes' entries' (k + 1)

-- wherever the search started: v is settled with a, then all its neighbours are looked at
abbrev pub LookedRound : {C M : Type 0} → Sums M → (C → M) → Shape → (ℕ → ℕ → M) → ℕ → M
    → List (Note C) → List (Entry C) → List (Note C) → List (Entry C) → Type 0
LookedRound sums means shape price v a notes entries notes' entries' =
    (from : ℕ) → Looking (search_from sums shape price from) means v a notes entries 0
    → Holds (search_from sums shape price from) means notes' entries' Nothing 0

-- the same nodes are settled as before, and at most `more` entries were put in
pub record Stays {C M : Type 0} (size : ℕ) (means : C → M) (notes notes' : List (Note C)) (entries entries' : List (Entry C))
    (more : ℕ) : Type 0 where
  pub same : settled_below (marks means notes') size ≡ settled_below (marks means notes) size
  pub kept : (u : ℕ) (x : M) (p : ℕ) → marks means notes' u ≡ settled x p → marks means notes u ≡ settled x p
  pub few : length entries' ≤ length entries + more

-- the notes lead from t back to the start, by moves that cost a in all, through no node twice
pub record Traced {C M : Type 0} (g : Search M) (means : C → M) (notes : List (Note C)) (t : ℕ) (a : M) : Type 0 where
  pub back : List ℕ
  pub trail : Trail g (marks means notes) t back a
  pub leads : Leads notes g.from t back
  pub few : length back < g.shape.size

-- t was reached: a is the least cost of a route to it, and the notes lead back
pub record Reached {C M : Type 0} (g : Search M) (means : C → M) (notes : List (Note C)) (t : ℕ) (a : M) : Type 0 where
  pub least : LeastCost g t a
  pub traced : Traced g means notes t a

-- the work is on the graph that it was on, and the notes lie where they lay
pub record SameWork {C G : Type 0} {a : Amounts C} {g : Graphs G C} (w w' : Work C G a g) : Type 0 where
  pub graph : w'.graph ≡ w.graph
  pub notes : w'.notes.ghost_name ≡ w.notes.ghost_name
