-- How many nodes are settled, and how a step changes that. Assumes nothing.
use Rattle.std.proofs.Common.{◌≡◌, ℕ, zero, suc, ◌+◌, ◌<◌, ◌≤◌, sym, refl, ap, subst, ap₂, arith}
use native.Mathlib.Decide.{ℕ_discrete}
use Rattle.frontier.specs.Front.{Mark, unseen, waits, settled, once, settled_below}

once_le : {M : Type 0} (m : Mark M) → once m ≤ 1
once_le unseen = omega arith
once_le (waits a p) = omega arith
once_le (settled a p) = omega arith

pub count_le : {M : Type 0} (f : ℕ → Mark M) (k : ℕ) → settled_below f k ≤ k
count_le f zero = omega arith
count_le f (suc k) = omega (arith, count_le f k, once_le (f k))

pub count_same : {M : Type 0} (f f' : ℕ → Mark M) (k : ℕ)
    → ((u : ℕ) → u < k → once (f' u) ≡ once (f u)) → settled_below f' k ≡ settled_below f k
count_same f f' zero h = refl
count_same f f' (suc k) h = ap₂ ◌+◌ (count_same f f' k (λ u l. h u (omega arith))) (h k (omega arith))

module _ {M : Type 0} (f f' : ℕ → Mark M) (v : ℕ) (before : once (f v) ≡ 0) (after : once (f' v) ≡ 1)
    (others : (u : ℕ) → (u ≡ v → ⊥) → f' u ≡ f u) where
  count_at : settled_below f' (suc v) ≡ settled_below f (suc v) + 1
  count_at =
      let below : settled_below f' v ≡ settled_below f v = count_same f f' v (λ u l. ap once (others u (omega arith))) in
      omega arith

  -- one node more is settled
  pub count_more : (k : ℕ) → v < k → settled_below f' k ≡ settled_below f k + 1
  count_more zero h = absurd (omega arith)
  count_more (suc k) h = step (count_more k) (ℕ_discrete k v)
    where
      step : (v < k → settled_below f' k ≡ settled_below f k + 1) → Dec (k ≡ v)
          → settled_below f' (suc k) ≡ settled_below f (suc k) + 1
      step below (yes e) = subst (λ x. settled_below f' (suc x) ≡ settled_below f (suc x) + 1) (sym e) count_at
      step below (no ne) =
          let same : once (f' k) ≡ once (f k) = ap once (others k ne) in
          let apart : k ≡ v → ⊥ = ne in
          let down : settled_below f' k ≡ settled_below f k + 1 = below (omega arith) in
          omega arith
