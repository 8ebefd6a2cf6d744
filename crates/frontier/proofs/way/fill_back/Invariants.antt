-- The places before this one hold the beginning of the way back.
use Rattle.std.proofs.Common.{◌≡◌, ℕ, ◌+◌, List, ◌∷◌, length}
use Rattle.frontier.specs.Ways.{Leads}
use Rattle.frontier.proofs.Filling.{Filling}
use Rattle.frontier.proofs.way.fill_back.Given as goal

abbrev pub invariant-loop-slot : goal.invariant-loop-slot
invariant-loop-slot g l =
    (from : ℕ) (back : List ℕ) → Leads l.notes from l.to back → length l.initial.way ≡ length back + 1
    → Filling l.notes from l.node l.slot-index l.way (l.to ∷ back)
