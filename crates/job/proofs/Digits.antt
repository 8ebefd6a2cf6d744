-- Digits, one by one.
use Rattle.std.proofs.Common.{ℕ, ◌^◌, ◌<◌, ◌≤◌, arith, lit<}
use native.Mathlib.Nat.{pow-le-pow_right}

-- what up to six digits make up
pub below_million : (v i : ℕ) → v < 10 ^ i → i ≤ 6 → v < 1000000
below_million v i h k = let p : 10 ^ i ≤ 10 ^ 6 = pow-le-pow_right (lit< tt) k in omega arith
