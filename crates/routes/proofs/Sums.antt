-- What the laws of amounts give of sums. Assumes nothing.
use Rattle.std.proofs.lemmas.Bool.Decides.{nat_tests}
use Rattle.std.proofs.Common.{◌≡◌, ℕ, zero, suc, ◌+◌, ◌-◌, ◌*◌, ◌≤◌, true, T, ◌⊎◌, sym, refl, ap, ◌∙◌, subst, inl, inr, suc-mul, suc-add, zero-add, zero-mul, arith}
use Rattle.costs.specs.Amounts.{Sums, Laws, Tariff, times}

-- The laws, with the order as a relation that shows its two sides.
pub record Ordered {M : Type 0} (s : Sums M) (leq : M → M → Type 0) : Type 0 where
  pub assoc : (a b c : M) → s.plus (s.plus a b) c ≡ s.plus a (s.plus b c)
  pub comm : (a b : M) → s.plus a b ≡ s.plus b a
  pub neutral : (a : M) → s.plus a s.nothing ≡ a
  pub total : (a b : M) → leq a b ⊎ leq b a
  pub trans : {a b c : M} → leq a b → leq b c → leq a c
  pub least : (a : M) → leq s.nothing a
  pub mono : {a b : M} (c : M) → leq a b → leq (s.plus a c) (s.plus b c)

pub ordered : {M : Type 0} {s : Sums M} → Laws s → Ordered s (λ a b. T (s.leq a b))
ordered laws = grind (arith, nat_tests)

module _ {M : Type 0} {s : Sums M} {leq : M → M → Type 0} (laws : Ordered s leq) where
  pub nothing_plus : (a : M) → s.plus s.nothing a ≡ a
  nothing_plus a = laws.comm s.nothing a ∙ laws.neutral a

  pub plus_left_comm : (a b c : M) → s.plus a (s.plus b c) ≡ s.plus b (s.plus a c)
  plus_left_comm a b c = grind (arith, nat_tests)

  pub leq_refl : (a : M) → leq a a
  leq_refl a = elim (laws.total a a) [ inl h ↦ h | inr h ↦ h ]

  pub mono_right : {a b : M} (c : M) → leq a b → leq (s.plus c a) (s.plus c b)
  mono_right {a} {b} c h = rw (laws.comm c a, laws.comm c b) (laws.mono c h)

  pub mono_both : {a b c d : M} → leq a b → leq c d → leq (s.plus a c) (s.plus b d)
  mono_both {b = b} {c = c} h k = laws.trans (laws.mono c h) (mono_right b k)

  pub times_add : (m n : ℕ) (u : M) → times s (m + n) u ≡ s.plus (times s m u) (times s n u)
  times_add zero n u = rw zero-add (sym (nothing_plus _))
  times_add (suc m) n u = rw suc-add (ap (s.plus u) (times_add m n u) ∙ sym (laws.assoc u _ _))

  pub times_mul : (m n : ℕ) (u : M) → times s (m * n) u ≡ times s m (times s n u)
  times_mul zero n u = rw zero-mul
  times_mul (suc m) n u =
      rw suc-mul (times_add (m * n) n u ∙ laws.comm _ _ ∙ ap (s.plus (times s n u)) (times_mul m n u))

  pub times_nothing : (m : ℕ) → times s m s.nothing ≡ s.nothing
  times_nothing zero = refl
  times_nothing (suc m) = nothing_plus _ ∙ times_nothing m

  pub times_plus : (m : ℕ) (a b : M) → times s m (s.plus a b) ≡ s.plus (times s m a) (times s m b)
  times_plus zero a b = sym (nothing_plus s.nothing)
  times_plus (suc m) a b = ap (s.plus (s.plus a b)) (times_plus m a b) ∙ simp (laws.assoc, laws.comm)

  pub times_mono : (m : ℕ) {a b : M} → leq a b → leq (times s m a) (times s m b)
  times_mono zero h = leq_refl s.nothing
  times_mono (suc m) h = mono_both h (times_mono m h)

  pub times_more : (m n : ℕ) (u : M) → m ≤ n → leq (times s m u) (times s n u)
  times_more m n u h =
      let longer : n ≡ m + (n - m) = omega arith in
      let sum : times s n u ≡ s.plus (times s m u) (times s (n - m) u) =
      ap (λ i. times s i u) longer ∙ times_add m (n - m) u in
      subst (leq (times s m u)) (sym sum)
      (subst (λ a. leq a (s.plus (times s m u) (times s (n - m) u))) (laws.neutral _)
      (mono_right (times s m u) (laws.least (times s (n - m) u))))

-- where nothing costs anything
abbrev pub no_tariff : Tariff (Unit {0})
no_tariff = record {
  sums = record { nothing = tt; plus = λ a b. tt; leq = λ a b. true; bulk = λ a. 0 };
  prices = record { x = λ l. tt; y = λ l. tt; via = λ l. tt };
}

pub no_tariff_laws : Laws no_tariff.sums
no_tariff_laws = grind (arith, nat_tests)
