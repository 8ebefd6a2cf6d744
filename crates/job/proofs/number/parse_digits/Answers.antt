use Rattle.std.proofs.Common.{arith}
use Rattle.job.proofs.Digits.{below_million}
use Rattle.job.proofs.number.parse_digits.Goals as goal

pub overflow_mul-value : goal.overflow_mul-value
overflow_mul-value c = omega (arith, below_million c.loop-b.value c.loop-b.b-index c.loop-b.invariant.0 (omega arith))

pub overflow_add-value : goal.overflow_add-value
overflow_add-value c = omega (arith, below_million c.loop-b.value c.loop-b.b-index c.loop-b.invariant.0 (omega arith))
