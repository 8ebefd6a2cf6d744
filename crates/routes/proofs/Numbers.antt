-- Lines as lists of numbers: the last one below a number, and one between two. Assumes nothing.
use Rattle.std.proofs.Common.{◌≡◌, ℕ, zero, suc, ◌<◌, ◌≤◌, cond, T, eqb, ◌⊎◌, List, [], ◌∷◌, subst, inl, inr, arith}
use lib.Dec.{eqb_refl}
use Rattle.std.proofs.lemmas.Bool.{cases_eq, cond-true, cond-false, eq-eqb, ne_eqb}
use Rattle.geometry.specs.Lists.{mem}
use Rattle.routes.specs.Lines.{between, none_between}
use Rattle.routes.proofs.Bools.{both, first, second, decide, refute}

-- no line from a on and below b
abbrev pub NoLine : List ℕ → ℕ → ℕ → Type 0
NoLine qs a b = (q : ℕ) → T (mem q qs) → a ≤ q → q < b → ⊥

-- what is no line is apart from each line
pub line_apart : (qs : List ℕ) (k : ℕ) → (T (mem k qs) → ⊥) → (q : ℕ) → T (mem q qs) → q ≡ k → ⊥
line_apart qs k off q m e = off (subst (λ i. T (mem i qs)) e m)

-- the last line below k, if there is one
pub line_below : (qs : List ℕ) (k : ℕ) → ((p : ℕ) × (p < k) × T (mem p qs) × NoLine qs (suc p) k) ⊎ NoLine qs zero k
line_below qs zero = inr (λ q h a b. omega arith)
line_below qs (suc k) = elim (decide (mem k qs)) [
  | inl h ↦ inl (k, omega arith, h, λ q m a b. omega arith)
  | inr off ↦ elim (line_below qs k) [
    | inl found ↦ inl (found.0, omega (arith, found.1), found.2, λ q m a b. not_k off q m (found.3 q m a) b)
    | inr empty ↦ inr (λ q m a b. not_k off q m (empty q m a) b)
  ]
]
  where
    not_k : (T (mem k qs) → ⊥) → (q : ℕ) → T (mem q qs) → (q < k → ⊥) → q < suc k → ⊥
    not_k off q m below b =
        elim (cases_eq q k) [ inl e ↦ line_apart qs k off q m e | inr ne ↦ below (omega arith) ]

-- a line strictly between a and b, if there is one
pub line_between : (qs : List ℕ) (a b : ℕ) → ((q : ℕ) × T (mem q qs) × T (between a b q)) ⊎ T (none_between qs a b)
line_between [] a b = inr tt
line_between (q ∷ qs) a b = elim (decide (between a b q)) [
  | inl h ↦ inl (q, first _ _ (eqb_refl q), h)
  | inr off ↦ elim (line_between qs a b) [
    | inl found ↦ inl (found.0, second _ _ found.1, found.2)
    | inr empty ↦ inr (both _ _ (refute _ off) empty)
  ]
]

-- k goes to v, and any other number stays
abbrev pub put : ℕ → ℕ → ℕ → ℕ
put k v x = cond (eqb x k) v x

pub put_same : (k v x : ℕ) → x ≡ k → put k v x ≡ v
put_same k v x e = cond-true _ _ _ (eq-eqb x k e)

pub put_other : (k v x : ℕ) → (x ≡ k → ⊥) → put k v x ≡ x
put_other k v x ne = cond-false _ _ _ (ne_eqb x k ne)
