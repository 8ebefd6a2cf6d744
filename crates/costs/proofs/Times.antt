-- What the laws of amounts give of a meaning taken many times. Assumes nothing.
use Rattle.std.proofs.Common.{◌≡◌, ℕ, zero, suc, ◌+◌, ◌-◌, ◌*◌, ◌≤◌, T, sym, refl, ap, ◌∙◌, subst, suc-mul, suc-add, zero-add, zero-mul, arith}
use Rattle.costs.specs.Amounts.{Sums, Laws, times}
use Rattle.costs.proofs.Order.{nothing_plus, leq_refl, plus_mono_both, leq_plus}

module _ {M : Type 0} {s : Sums M} (laws : Laws s) where
  pub times_add : (j k : ℕ) (a : M) → times s (j + k) a ≡ s.plus (times s j a) (times s k a)
  times_add zero k a = rw zero-add (sym (nothing_plus laws (times s k a)))
  times_add (suc j) k a = rw suc-add (ap (s.plus a) (times_add j k a) ∙ sym (laws.assoc a (times s j a) (times s k a)))

  pub times_mul : (j k : ℕ) (a : M) → times s (j * k) a ≡ times s j (times s k a)
  times_mul zero k a = rw zero-mul
  times_mul (suc j) k a =
      rw suc-mul (times_add (j * k) k a ∙ laws.comm (times s (j * k) a) (times s k a) ∙ ap (s.plus (times s k a)) (times_mul j k a))

  pub times_nothing : (k : ℕ) → times s k s.nothing ≡ s.nothing
  times_nothing zero = refl
  times_nothing (suc k) = nothing_plus laws (times s k s.nothing) ∙ times_nothing k

  pub times_plus : (k : ℕ) (a b : M) → times s k (s.plus a b) ≡ s.plus (times s k a) (times s k b)
  times_plus zero a b = sym (nothing_plus laws s.nothing)
  times_plus (suc k) a b = ap (s.plus (s.plus a b)) (times_plus k a b) ∙ simp (laws.assoc, laws.comm)

  pub bulk_times : (k : ℕ) (a : M) → s.bulk (times s k a) ≤ k * s.bulk a
  bulk_times zero a = omega (arith, laws.bulk_nothing)
  bulk_times (suc k) a = omega (arith, laws.bulk_plus a (times s k a), bulk_times k a, suc-mul k (s.bulk a))

  pub times_mono : (k : ℕ) (a b : M) → T (s.leq a b) → T (s.leq (times s k a) (times s k b))
  times_mono zero a b h = leq_refl laws s.nothing
  times_mono (suc k) a b h = plus_mono_both laws a b (times s k a) (times s k b) h (times_mono k a b h)

  -- more times is no less
  pub times_more : (j k : ℕ) (a : M) → j ≤ k → T (s.leq (times s j a) (times s k a))
  times_more j k a h =
      let split : k ≡ j + (k - j) = omega arith in
      let sum : times s k a ≡ s.plus (times s j a) (times s (k - j) a) = ap (λ i. times s i a) split ∙ times_add j (k - j) a in
      subst (λ c. T (s.leq (times s j a) c)) (sym sum) (leq_plus laws (times s j a) (times s (k - j) a))
