-- The way that notes lead back. Assumes nothing.
--     before_of notes v        the node before v, if v is settled
--     Leads notes from u back  following the notes from u leads by way of `back` to the start
--     Way, Counted             how many nodes the way has
--     Wrote, Written           the nodes of the way stand first in a list
use Rattle.std.specs.Prelude.{◌≡◌, ℕ, ◌+◌, ◌<◌, ◌≤◌, List, [], ◌∷◌, ◌++◌, reverse, length, drop, Some, None, Option, MatchOption, ◌≢◌, slice_index_or}
use Rattle.frontier.specs.declared.note.Note.{Note}
use Rattle.frontier.specs.declared.note.Note.TheVariants.{Unseen, Waiting, Settled}

abbrev pub previous_node : {C : Type 0} → Note C → Option ℕ
previous_node Unseen = None
previous_node (Waiting a p) = None
previous_node (Settled a p) = Some p

abbrev pub before_of : {C : Type 0} → List (Note C) → ℕ → Option ℕ
before_of notes v = previous_node (slice_index_or notes v Unseen)

-- only the last node of the way is the start
abbrev pub Leads : {C : Type 0} → List (Note C) → ℕ → ℕ → List ℕ → Type 0
Leads notes from u [] = u ≡ from
Leads {C} notes from u (p ∷ back) = (u ≢ from) × (a : C) × (slice_index_or notes u Unseen ≡ Settled a p) × Leads notes from p back

-- the way from `to` has n nodes, `to` and those back to the start
pub record Way {C : Type 0} (notes : List (Note C)) (from to n : ℕ) : Type 0 where
  pub back : List ℕ
  pub leads : Leads notes from to back
  pub count : n ≡ length back + 1

-- absent only if no way has as few nodes as there are notes
abbrev pub Counted : {C : Type 0} → List (Note C) → ℕ → ℕ → Option ℕ → Type 0
Counted notes from to r = MatchOption r ((back : List ℕ) → Leads notes from to back → length notes ≤ length back) (Way notes from to)

-- the first n of ys are the nodes of the way from the start on, and the others are as those of xs
pub record Wrote {C : Type 0} (notes : List (Note C)) (from to : ℕ) (xs ys : List ℕ) (n : ℕ) : Type 0 where
  pub way : Way notes from to n
  pub whole : ys ≡ reverse (to ∷ way.back) ++ drop n xs

-- absent only if no way has as few nodes as there are notes and places
abbrev pub Written : {C : Type 0} → List (Note C) → ℕ → ℕ → List ℕ → List ℕ → Option ℕ → Type 0
Written notes from to xs ys r = MatchOption r
    ((back : List ℕ) → Leads notes from to back → length back < length notes → length xs ≤ length back)
    (Wrote notes from to xs ys)
