-- One turn of the search, over the notes and the entries. Assumes nothing.
use Rattle.std.proofs.Common.{◌≡◌, ℕ, ◌+◌, ◌-◌, ◌*◌, ◌<◌, ◌⊎◌, List, [], ◌∷◌, length, get_or, set, sym, refl, ap, ◌∙◌, subst, inl, inr, arith, length-set, get_or-set_other, get_or-set_same}
use Rattle.std.specs.List.Sorted.{IsPermutation}
use Rattle.std.proofs.lemmas.List.{get_or_default}
use Rattle.costs.specs.Amounts.{Laws}
use Rattle.queue.specs.Order.{Least}
use Rattle.frontier.specs.declared.entry.Entry.{Entry}
use Rattle.frontier.specs.declared.note.Note.{Note}
use Rattle.frontier.specs.declared.note.Note.TheVariants.{Unseen, Waiting, Settled}
use Rattle.frontier.specs.Entries.{cheaper}
use Rattle.frontier.specs.Routes.{Search, HasNoRoute}
use Rattle.frontier.specs.Front.{Mark, waits, settled, settled_below, Seen, Nothing, Joined, Frontier}
use Rattle.frontier.specs.Held.{mark, marks, Waits, Ahead, Holds, Looking, Stays, Reached}
use Rattle.frontier.proofs.Count.{count_le}
use Rattle.frontier.proofs.Ends.{Beginning, none_settled, begin, begin_light, found, none_left}
use Rattle.frontier.proofs.Entering.{joined, least_amount, none_waits}
use Rattle.frontier.proofs.Noting.{marked}
use Rattle.frontier.proofs.Relax.{narrow}
use Rattle.frontier.proofs.Settle.{Settling, settle, settle_count, settle_light, drop_stale}
use Rattle.frontier.proofs.Walk.{trail_leads}

mark_waits : {C M : Type 0} (means : C → M) (x : Note C) (b : M) (p : ℕ) → mark means x ≡ waits b p → (a : C) × (x ≡ Waiting a p)
mark_waits means Unseen b p h = let z : ◌≡◌ {A = ℕ} 0 1 = cc in absurd (omega arith)
mark_waits means (Waiting a q) b p h = let f : q ≡ p = cc in (a, ap (Waiting a) f)
mark_waits means (Settled a q) b p h = let z : ◌≡◌ {A = ℕ} 0 1 = cc in absurd (omega arith)

-- a note that the code reads and that does not wait
pub not_waiting : {C M : Type 0} (means : C → M) (notes : List (Note C)) (v : ℕ) (note : Note C) → v < length notes
    → ((b : C) (p : ℕ) → get_or notes v note ≡ Waiting b p → ⊥) → (b : M) (p : ℕ) → marks means notes v ≡ waits b p → ⊥
not_waiting means notes v note l old b p h =
    let k = mark_waits means (get_or notes v Unseen) b p h in
    old k.0 p (get_or_default notes v note Unseen l ∙ k.1)

module _ {C M : Type 0} (g : Search M) (laws : Laws g.sums) (means : C → M) where
  -- the start is noted, and its entry put in
  module _ (notes : List (Note C)) (none : C) (entries : List (Entry C)) (blank : (k : ℕ) → get_or notes k Unseen ≡ Unseen)
      (long : length notes ≡ g.shape.size) (inside : g.from < g.shape.size) (free : means none ≡ g.sums.nothing)
      (put : IsPermutation (record { amount = none; node = g.from } ∷ []) entries) (one : length entries ≡ 1) where
    abbrev f₀ : ℕ → Mark M
    f₀ = marks means (set notes g.from (Waiting none g.from))

    beginning : Beginning g f₀ (Waits means entries)
    beginning =
        let only = joined means (record { amount = none; node = g.from }) [] entries put in
        record {
          before = g.from;
          first = ap (mark means) (get_or-set_same notes g.from (Waiting none g.from) Unseen (omega arith))
              ∙ ap (λ a. waits a g.from) free;
          rest = λ u n. ap (mark means) (get_or-set_other notes g.from u (Waiting none g.from) Unseen n ∙ blank u);
          inside = inside;
          entry = subst (λ a. Waits means entries a g.from) free only.this;
          alone = λ x y h. first_of x y (only.only x y h);
        }
      where
        first_of : (x : M) (y : ℕ) → Waits means [] x y ⊎ ((x ≡ means none) × (y ≡ g.from))
            → (x ≡ g.sums.nothing) × (y ≡ g.from)
        first_of x y (inl h) = absurd (none_waits means x y [] refl h)
        first_of x y (inr h) = (h.0 ∙ free, h.1)

    pub begin_held : Holds g means (set notes g.from (Waiting none g.from)) entries Nothing 0
    begin_held = record {
      front = begin laws beginning;
      light = begin_light laws beginning;
      long = length-set notes g.from (Waiting none g.from) ∙ long;
      tally = omega arith;
    }

    pub begin_open : (t : ℕ) (x : M) (p : ℕ) → marks means (set notes g.from (Waiting none g.from)) t ≡ settled x p → ⊥
    begin_open = none_settled laws beginning

  -- none waits
  pub none_held : (notes : List (Note C)) (entries : List (Entry C)) → Holds g means notes entries Nothing 0 → length entries ≡ 0
      → (t : ℕ) → ((x : M) (p : ℕ) → marks means notes t ≡ settled x p → ⊥) → HasNoRoute g t
  none_held notes entries H empty t open_still =
      none_left laws H.front (λ x y h. none_waits means x y entries empty h) t open_still

-- an entry is taken out between two turns, and no entry is less
pub record Taken {C M : Type 0} (g : Search M) (means : C → M) (notes : List (Note C)) (entries left : List (Entry C))
    (e : Entry C) : Type 0 where
  pub holds : Holds g means notes entries Nothing 0
  pub took : IsPermutation (e ∷ left) entries
  pub less : length left + 1 ≡ length entries
  pub low : Least (cheaper means g.sums) e entries

module _ {C M : Type 0} {g : Search M} (laws : Laws g.sums) {means : C → M} {notes : List (Note C)}
    {entries left : List (Entry C)} {e : Entry C}
    (K : Taken g means notes entries left e) where
  gone : Joined (Waits means left) (Waits means entries) (means e.amount) e.node
  gone = joined means e left entries K.took

  pub turn_node : e.node < g.shape.size
  turn_node =
      let k = K.holds.front.known (means e.amount) e.node gone.this in
      K.holds.front.inside e.node k.0 k.1 k.2

  -- the node of the entry does not wait
  pub turn_stale : ((b : M) (p : ℕ) → marks means notes e.node ≡ waits b p → ⊥) → Holds g means notes left Nothing 0
  turn_stale old = from_seen _ _ (K.holds.front.known (means e.amount) e.node gone.this).2
    where
      from_seen : (x : M) (q : ℕ) → Seen (marks means notes) e.node x q → Holds g means notes left Nothing 0
      from_seen x q (inl wt) = absurd (old x q wt)
      from_seen x q (inr st) = record {
        front = drop_stale K.holds.front st gone;
        light = K.holds.light;
        long = K.holds.long;
        tally = omega (arith, K.holds.tally, K.less);
      }

  -- the node of the entry waits
  module _ {b : M} {p : ℕ} (was : marks means notes e.node ≡ waits b p) where
    abbrev f : ℕ → Mark M
    f = marks means notes

    abbrev f' : ℕ → Mark M
    f' = marks means (set notes e.node (Settled e.amount p))

    settling : Settling g f f' (Waits means entries) (Waits means left) e.node (means e.amount) b p
    settling = record {
      front = K.holds.front;
      waited = was;
      took = gone;
      lowest = least_amount means g.sums e entries K.low;
      marked = marked means notes e.node (Settled e.amount p) (omega (arith, turn_node, K.holds.long));
    }

    settled_front : Frontier g f' (Waits means left) (λ u w. u ≡ e.node)
    settled_front = settle laws settling

    more : settled_below f' g.shape.size ≡ settled_below f g.shape.size + 1
    more = settle_count laws settling

    here : f' e.node ≡ settled (means e.amount) p
    here = settling.marked.here

    pub turn_reached : (t : ℕ) → e.node ≡ t → Reached g means (set notes e.node (Settled e.amount p)) t (means e.amount)
    turn_reached t is =
        let k = settled_front.trail e.node (means e.amount) p here in
        let notes' = set notes e.node (Settled e.amount p) in
        subst (λ u. Reached g means (set notes e.node (Settled e.amount p)) u (means e.amount)) is (record {
          least = found laws settled_front e.node (means e.amount) p here;
          traced = record {
            back = k.0;
            trail = k.1;
            leads = trail_leads g means notes' k.0 e.node (means e.amount) k.1;
            few = omega (arith, k.2, count_le f' g.shape.size);
          };
        })

    pub turn_looking : Looking g means e.node (means e.amount) (set notes e.node (Settled e.amount p)) left 0
    turn_looking = record {
      holds = record {
        front = narrow (Ahead g.shape.next e.node 0) settled_front
            (λ u w x c q fu m is. inl (is, m.way, omega arith, m.six, ap (λ y. g.shape.next y m.way) (sym is) ∙ m.next));
        light = settle_light laws settling K.holds.light;
        long = length-set notes e.node (Settled e.amount p) ∙ K.holds.long;
        tally = omega (arith, K.holds.tally, K.less, more);
      };
      here = (p, here);
    }

    module _ {after : List (Note C)} {entries' : List (Entry C)}
        (same : Stays g.shape.size means (set notes e.node (Settled e.amount p)) after left entries' 6) where
      -- a node other than that of the entry is not settled by the turn
      pub turn_open : (t : ℕ) → (e.node ≡ t → ⊥) → ((x : M) (q : ℕ) → marks means notes t ≡ settled x q → ⊥)
          → (x : M) (q : ℕ) → marks means after t ≡ settled x q → ⊥
      turn_open t ne open_still x q st =
          open_still x q (sym (settling.marked.others t (λ k. ne (sym k))) ∙ same.kept t x q st)

      -- what the turns count down
      pub turn_wanes : length entries' + 6 * (g.shape.size - settled_below (marks means after) g.shape.size)
          < length entries + 6 * (g.shape.size - settled_below (marks means notes) g.shape.size)
      turn_wanes = omega (arith, same.same, same.few, more, K.less, count_le (marks means after) g.shape.size)
