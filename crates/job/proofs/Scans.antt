-- How many bytes stand before the first that is looked for.
use Rattle.std.proofs.Common.{◌≡◌, ℕ, ◌+◌, ◌≤◌, cond, eqb, ltb, List, [], ◌∷◌, length, refl, ap, ◌∙◌, Bool, true, false, inl, inr, add-one, arith}
use Rattle.std.specs.Option.{unwrap_or}
use Rattle.std.specs.List.{position, position_or_len}
use Rattle.std.proofs.lemmas.Bool.{cases_lt, cond-true, cond-false, lt-ltb, le-ltb}
use Rattle.std.proofs.lemmas.List.Recursion.{is_position_or_len}
use Rattle.job.specs.Text.{before}

before_is : (b : ℕ) (bs : List ℕ) → before b bs ≡ position_or_len (λ x. eqb x b) bs
before_is b = is_position_or_len (before b) (λ x. eqb x b) refl (λ x xs. ap (cond (eqb x b) 0) (omega arith))

before_step : (n k : ℕ) (here : Bool) → n ≤ k → cond here 0 (n + 1) ≤ k + 1
before_step n k true h = omega arith
before_step n k false h = omega arith

before_within : (b : ℕ) (bs : List ℕ) → before b bs ≤ length bs
before_within b [] = omega arith
before_within b (x ∷ xs) = rw (← add-one (length xs)) (before_step (before b xs) (length xs) (eqb x b) (before_within b xs))

-- the place of the first, or all of them where there is none
pub before_found : (b : ℕ) (bs : List ℕ) → unwrap_or (position (λ x. eqb x b) bs) (length bs) ≡ before b bs
before_found b bs = rw (← before_is b bs) (elim (cases_lt (before b bs) (length bs)) [
  | inl h ↦ ap (λ o. unwrap_or o (length bs)) (cond-true (ltb (before b bs) (length bs)) _ _ (lt-ltb (before b bs) (length bs) h))
  | inr h ↦
      let within : before b bs ≤ length bs = before_within b bs in
      ap (λ o. unwrap_or o (length bs)) (cond-false (ltb (before b bs) (length bs)) _ _ (le-ltb (before b bs) (length bs) h)) ∙ omega arith
])
