-- What a graph is to a search. Assumes nothing.
--     Shape             the nodes, their neighbours, and which moves between neighbours are free
--     Bounded shape     neighbours are nodes, and the prices along any way are small enough to be added exactly
--     Toward .. r       r is the k-th neighbour and the price of the move to it, or absent if there is none
use Rattle.std.specs.Prelude.{◌≡◌, ℕ, ◌*◌, ◌^◌, ◌<◌, ◌≤◌, Bool, Some, None, Option, MatchOption}
use Rattle.costs.specs.Amounts.{Sums}

pub record Shape : Type 0 where
  -- the nodes are the numbers below it
  pub size : ℕ
  -- the neighbours of a node, some of the 0th to the 5th
  pub next : ℕ → ℕ → Option ℕ
  -- whether the move from a node to a neighbour may be made
  pub free : ℕ → ℕ → Bool
  -- no move's price has a larger bulk
  pub dearest : ℕ

pub record Bounded (shape : Shape) : Type 0 where
  pub inside : (u k w : ℕ) → u < shape.size → k < 6 → shape.next u k ≡ Some w → w < shape.size
  pub small : shape.dearest * shape.size < 2 ^ 62

-- `step` has the k-th neighbour of u, and an amount that means the price of the move
pub record Priced {C M : Type 0} (sums : Sums M) (means : C → M) (shape : Shape) (price : ℕ → ℕ → M) (u k : ℕ)
    (step : ℕ × C) : Type 0 where
  pub next : shape.next u k ≡ Some step.0
  pub exact : means step.1 ≡ price u step.0
  pub light : sums.bulk (means step.1) ≤ shape.dearest

abbrev pub Toward : {C M : Type 0} → Sums M → (C → M) → Shape → (ℕ → ℕ → M) → ℕ → ℕ → Option (ℕ × C) → Type 0
Toward sums means shape price u k r = MatchOption r (shape.next u k ≡ None) (Priced sums means shape price u k)
