use Rattle.std.proofs.Common.{length}
use Rattle.queue.specs.Waiting.{waiting}
use Rattle.queue_check.proofs.drain.drain.Given as goal

abbrev pub decreases-loop-x : goal.decreases-loop-x
decreases-loop-x g l = length (waiting l.queue)
