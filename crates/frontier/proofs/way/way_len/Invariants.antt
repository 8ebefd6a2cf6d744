-- The nodes so far, and those on a way from the node that was come to, are a way from the target.
use Rattle.std.proofs.Common.{◌≡◌, ℕ, ◌+◌, List, length}
use Rattle.frontier.specs.Ways.{Leads}
use Rattle.frontier.proofs.way.way_len.Given as goal

abbrev pub invariant-loop-count : goal.invariant-loop-count
invariant-loop-count g l =
    ((back : List ℕ) → Leads l.notes l.from l.to back
    → (rest : List ℕ) × Leads l.notes l.from l.node rest × (length rest + l.count ≡ length back + 1))
    × ((rest : List ℕ) → Leads l.notes l.from l.node rest
    → (back : List ℕ) × Leads l.notes l.from l.to back × (length rest + l.count ≡ length back + 1))
