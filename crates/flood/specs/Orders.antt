-- Orders in which places are swept. Assumes nothing.
use Rattle.std.specs.Prelude.{ℕ, ◌<◌, Option, All}
use Rattle.std.specs.Iterator.{HoldsAlong}

-- what an iterator that is at s has yet to give are numbers below n
pub record GivesBelow {S : Type 0} (steps : S → Option ℕ → S → Type 0) (s : S) (n : ℕ) : Type 0 where
  pub along : HoldsAlong steps s (All (λ i. i < n))
