use Rattle.std.proofs.Common.{◌≡◌, ◌+◌, ◌++◌}
use Rattle.job.specs.declared.setup.Setup.{Setup}
use Rattle.job.specs.declared.setup.Stage.TheVariants.{Start}
use Rattle.job.specs.Text.{lines}
use Rattle.job.specs.Reading.{lines_left}
use Rattle.job.specs.Said.{said, Told}
use Rattle.job.proofs.script.read_job.Given as goal

-- What all lines come to is what those so far came to, and what is left does.
abbrev pub invariant-loop-i : goal.invariant-loop-i
invariant-loop-i l =
    (said Start 1 (lines l.job) ≡ l.said.items ++ said l.setup.stage (l.i-iterator.count + 1) (lines_left l.i-iterator.iter))
    × ((t : Setup) → Told l.setup (lines_left l.i-iterator.iter) t → Told l.initial.setup (lines l.job) t)
