-- There is a slot for each of the elements, and so many wait as were put in.
use Rattle.std.proofs.Common.{◌≡◌, ◌≤◌, length}
use Rattle.queue.specs.Waiting.{waiting, room, size}
use Rattle.queue_check.proofs.comparisons.count_comparisons.Given as goal

abbrev pub invariant-loop : goal.invariant-loop
invariant-loop l = (size l.queue ≡ l.counter) × (l.n ≤ room l.queue)

abbrev pub decreases-loop-queue : goal.decreases-loop-queue
decreases-loop-queue l = length (waiting l.queue)
