use Rattle.std.proofs.Common.{take}
use Rattle.panel.proofs.Driving.{SoFar}
use Rattle.panel.proofs.run.run_calls.Given as goal

-- The calls so far, with their answers, are a run, and leave the panel as it is.
abbrev pub invariant-loop-call : goal.invariant-loop-call
invariant-loop-call g l = SoFar l.initial.panel (take l.call-index l.calls) l.answers.items l.panel
