-- Worked comparisons of pairs of vias and money, as rows under one statement. Assumes nothing.
use Rattle.std.specs.Prelude.{◌≡◌, ℕ, Bool, true, false, not, List, [], ◌∷◌}
use Rattle.std.specs.List.{AllByRecursion}
use Rattle.costs.specs.Amounts.{Sums}
use Rattle.costs.specs.Vias.{pairs}

-- the second is not at most the first
abbrev pub less : {M : Type 0} → Sums M → M → M → Bool
less s a b = not (s.leq b a)

-- two pairs of vias and money, and whether the first is less than the second
pub record Comparison : Type 0 where
  pub first : ℕ × ℕ
  pub second : ℕ × ℕ
  pub answer : Bool

abbrev row : ℕ × ℕ → ℕ × ℕ → Bool → Comparison
row a b r = record { first = a; second = b; answer = r }

abbrev pub comparisons : List Comparison
comparisons =
    row (0, 290) (2, 124) true ∷
    row (2, 124) (0, 290) false ∷
    row (2, 123) (2, 124) true ∷
    row (2, 124) (2, 123) false ∷
    row (2, 124) (2, 124) false ∷
    row (0, 0) (0, 0) false ∷
    row (0, 0) (0, 1) true ∷
    row (0, 65535) (1, 0) true ∷
    []

-- what is said of each row
abbrev pub Holds : Comparison → Type 0
Holds c = less pairs c.first c.second ≡ c.answer

abbrev pub WorkedComparisons : Type 0
WorkedComparisons = AllByRecursion Holds comparisons
