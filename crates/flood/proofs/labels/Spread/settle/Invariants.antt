use Rattle.flood.specs.Places.{SameSteps}
use Rattle.flood.proofs.labels.Spread.settle.Given as goal

abbrev pub invariant-loop-turn : goal.invariant-loop-turn
invariant-loop-turn g l = SameSteps l.initial.nodes l.nodes
