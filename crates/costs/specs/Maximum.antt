-- The greater of two numbers as their sum: it keeps the laws of amounts, and neither cancels nor grows. Assumes nothing.
use Rattle.std.specs.Prelude.{ℕ, max, nat_le}
use Rattle.costs.specs.Amounts.{Sums}

abbrev pub maximum : Sums ℕ
maximum = record { nothing = 0; plus = max; leq = nat_le; bulk = λ n. n }
