-- The last place of a chain among the first n. Assumes nothing.
use Rattle.std.proofs.Common.{◌≡◌, ℕ, zero, suc, ◌+◌, ◌<◌, ◌≤◌, cond, eqb, Some, None, Option, sym, ap, refl, ◌∙◌, subst, inl, inr, add-one, arith}
use Rattle.std.specs.Option.{unwrap_or}
use Rattle.std.proofs.lemmas.Option.{none-some, same_Some}
use Rattle.std.proofs.lemmas.Bool.{cases_Bool, eqb-true, eqb-false, eq-eqb, ne_eqb, cond-true, cond-false, cases_eq}
use Rattle.registers.specs.Chainings.{place_of, last_in}

-- how many places there are up to one
abbrev pub upto : Option ℕ → ℕ
upto None = 0
upto (Some k) = suc k

-- where a link leads that was written
pub place_of_link : (k : Option ℕ) → upto k ≤ 65535 → place_of (unwrap_or k 65535) ≡ k
place_of_link None h = refl
place_of_link (Some k) h = cond-false (eqb k 65535) None (Some k) (ne_eqb k 65535 (λ e. omega arith))

pub last_same : (f : ℕ → ℕ) (s n : ℕ) → f n ≡ s → last_in f s (n + 1) ≡ Some n
last_same f s n e = rw add-one (cond-true (eqb (f n) s) (Some n) (last_in f s n) (eq-eqb _ _ e))

pub last_other : (f : ℕ → ℕ) (s n : ℕ) → (f n ≡ s → ⊥) → last_in f s (n + 1) ≡ last_in f s n
last_other f s n ne = rw add-one (cond-false (eqb (f n) s) (Some n) (last_in f s n) (ne_eqb _ _ ne))

-- what is known of the last place v of chain s among the first n
pub record Last (f : ℕ → ℕ) (s n : ℕ) (v : Option ℕ) : Type 0 where
  pub within : upto v ≤ n
  pub here : (i : ℕ) → v ≡ Some i → f i ≡ s
  pub past : (k : ℕ) → upto v ≤ k → k < n → f k ≡ s → ⊥

pub last_is : (f : ℕ → ℕ) (s n : ℕ) → Last f s n (last_in f s n)
last_is f s zero =
    record {
      within = omega arith;
      here = λ i e. absurd (none-some i e);
      past = λ k _ h _. omega arith;
    }
last_is f s (suc n) =
    elim (cases_Bool (eqb (f n) s)) [
      | inl t ↦
          subst (Last f s (suc n)) (sym (cond-true _ _ _ t)) (record {
            within = omega arith;
            here = λ i i-is. ap f (sym (same_Some n i i-is)) ∙ eqb-true _ _ t;
            past = λ k low high _. omega arith;
          })
      | inr t ↦
          let l : Last f s n (last_in f s n) = last_is f s n in
          subst (Last f s (suc n)) (sym (cond-false _ _ _ t)) (record {
            within = omega (arith, l.within);
            here = l.here;
            past = λ k low high in-s. elim (cases_eq k n) [
              | inl same ↦ eqb-false _ _ t (ap f (sym same) ∙ in-s)
              | inr ne ↦ l.past k low (omega arith) in-s
            ];
          })
    ]

-- only the places below n matter
pub last_alike : (f g : ℕ → ℕ) (s n : ℕ) → ((k : ℕ) → k < n → f k ≡ g k) → last_in f s n ≡ last_in g s n
last_alike f g s zero same = refl
last_alike f g s (suc n) same =
    ap (λ v. cond (eqb v s) (Some n) (last_in f s n)) (same n (omega arith))
    ∙ ap (λ v. cond (eqb (g n) s) (Some n) v) (last_alike f g s n (λ k h. same k (omega arith)))
