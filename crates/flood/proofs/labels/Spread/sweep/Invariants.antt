use Rattle.std.proofs.Common.{length}
use Rattle.flood.specs.Orders.{GivesBelow}
use Rattle.flood.specs.Places.{SameSteps}
use Rattle.flood.proofs.labels.Spread.sweep.Given as goal

-- the places to come are places of nodes, whose steps are as they were
abbrev pub invariant-loop-i : goal.invariant-loop-i
invariant-loop-i g l =
    let it = goal.iterator-loop-i g in
    it.can_next l.i-iterator × it.is_finite l.i-iterator × GivesBelow it.next_gives l.i-iterator (length l.initial.nodes)
    × SameSteps l.initial.nodes l.nodes
