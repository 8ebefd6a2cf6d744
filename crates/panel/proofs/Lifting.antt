-- What a lift answers and leaves, as no piece of its job stands or some do. Assumes nothing.
use Rattle.std.proofs.Common.{◌≡◌, ℕ, ◌≤◌, Bool, not, T, List, [], ◌∷◌, length, filter, refl, sym, subst, arith, nat_lt, Ok, Err}
use Rattle.geometry.specs.Clearance.{in_order}
use Rattle.geometry.specs.Lists.{any_of}
use Rattle.geometry.specs.declared.piece.Piece.{Piece}
use Rattle.registers.specs.Standing.{of_job, without_job, count_of_job, count_and_rest}
use Rattle.panel.specs.Standing.{Standing}
use Rattle.panel.specs.Calls.{LiftAnswer}
use Rattle.panel.specs.declared.refusal.Refusal.TheVariants.{NoSuchJob}
use Rattle.panel.proofs.Orders.{kept_in_order}

any_counted : {X : Type 0} (test : X → Bool) (xs : List X) → any_of test xs ≡ nat_lt 0 (length (filter test xs))
any_counted test [] = refl
any_counted test (x ∷ xs) = grind (arith, any_counted test xs)

pub none_out : {X : Type 0} (test : X → Bool) (xs : List X) → length (filter test xs) ≡ 0 → filter (λ x. not (test x)) xs ≡ xs
none_out test [] e = refl
none_out test (x ∷ xs) e = grind (arith, none_out test xs)

pub none_lifted : (st : Standing) (job : ℕ) → count_of_job job st.pieces ≡ 0 → LiftAnswer st job (Err NoSuchJob)
none_lifted st job none = grind (arith, any_counted (of_job job) st.pieces)

pub some_lifted : (st : Standing) (job : ℕ) → (count_of_job job st.pieces ≡ 0 → ⊥) → LiftAnswer st job (Ok (count_of_job job st.pieces))
some_lifted st job some = grind (arith, any_counted (of_job job) st.pieces)

-- no more go than stand
pub few_lifted : (job count : ℕ) (ps : List Piece) → count ≡ count_of_job job ps → length ps ≤ 4096 → count ≤ 4096
few_lifted job count ps e few = omega (arith, e, few, count_and_rest job ps)

pub without_none : (job : ℕ) (ps : List Piece) → count_of_job job ps ≡ 0 → without_job job ps ≡ ps
without_none job ps none = none_out (of_job job) ps none

pub without_in_order : (job : ℕ) (before after : List Piece) → after ≡ without_job job before → T (in_order before) → T (in_order after)
without_in_order job before after e h = subst (λ ps. T (in_order ps)) (sym e) (kept_in_order (λ p. not (of_job job p)) before h)

-- what the call of lift stands on
pub ruleset lifting_laws = (none_lifted, some_lifted, without_none, without_in_order)
