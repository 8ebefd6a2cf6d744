-- Checks of a call, and what it is to be refused by the first that finds its cause. Assumes nothing.
use Rattle.std.specs.Prelude.{◌≡◌, ℕ, ◌⊎◌, List, [], ◌∷◌}
use Rattle.panel.specs.declared.refusal.Refusal.{Refusal}
use Rattle.panel.specs.Refusals.{shown_of_call}

-- A check: the number that it refuses by, its cause, and what may be returned then. The checks of a call stand in a list in the
-- order in which they are made.
pub record Check : Type 1 where
  pub number : ℕ
  pub cause : Type 0
  pub returns : ℕ → Type 0

-- a check that returns 0, and one that returns a certain number
abbrev pub check : ℕ → Type 0 → Check
check n cause = record { number = n; cause = cause; returns = λ v. v ≡ 0 }

abbrev pub check_with : ℕ → Type 0 → ℕ → Check
check_with n cause value = record { number = n; cause = cause; returns = λ v. v ≡ value }

-- The check of the number n is the first that finds its cause, and v is returned.
abbrev pub FirstCause : List Check → ℕ → ℕ → Type 0
FirstCause [] n v = ⊥
FirstCause (c ∷ cs) n v = ((n ≡ c.number) × c.cause × c.returns v) ⊎ ((c.cause → ⊥) × FirstCause cs n v)

-- No check finds its cause.
abbrev pub NoCause : List Check → Type 0
NoCause [] = Unit {0}
NoCause (c ∷ cs) = (c.cause → ⊥) × NoCause cs

-- The refusal is that of the first check that finds its cause.
abbrev pub RefusedBy : List Check → Refusal → Type 0
RefusedBy cs e = FirstCause cs (shown_of_call e).number (shown_of_call e).returned
