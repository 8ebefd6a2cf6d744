-- What the laws of amounts give of sums and of the order. Assumes nothing.
use Rattle.std.proofs.Common.{◌≡◌, false, T, sym, ap, ◌∙◌, subst, inl, inr}
use Rattle.costs.specs.Amounts.{Sums, Laws}

module _ {M : Type 0} {s : Sums M} (laws : Laws s) where
  pub nothing_plus : (a : M) → s.plus s.nothing a ≡ a
  nothing_plus a = laws.comm s.nothing a ∙ laws.neutral a

  pub plus_left_comm : (a b c : M) → s.plus a (s.plus b c) ≡ s.plus b (s.plus a c)
  plus_left_comm a b c = sym (laws.assoc a b c) ∙ ap (λ d. s.plus d c) (laws.comm a b) ∙ laws.assoc b a c

  pub leq_refl : (a : M) → T (s.leq a a)
  leq_refl a = elim (laws.total a a) [ inl h ↦ h | inr h ↦ h ]

  pub leq_of_eq : (a b : M) → a ≡ b → T (s.leq a b)
  leq_of_eq a b e = subst (λ c. T (s.leq a c)) e (leq_refl a)

  -- where the test fails, the order is the other way
  pub leq_of_not : (a b : M) → s.leq a b ≡ false → T (s.leq b a)
  leq_of_not a b e = elim (laws.total a b) [ inl h ↦ absurd (subst T e h) | inr h ↦ h ]

  pub plus_mono_right : (a b c : M) → T (s.leq a b) → T (s.leq (s.plus c a) (s.plus c b))
  plus_mono_right a b c h = rw (laws.comm c a, laws.comm c b) (laws.mono a b c h)

  pub plus_mono_both : (a b c d : M) → T (s.leq a b) → T (s.leq c d) → T (s.leq (s.plus a c) (s.plus b d))
  plus_mono_both a b c d h k = laws.trans _ _ _ (laws.mono a b c h) (plus_mono_right c d b k)

  pub leq_plus : (a b : M) → T (s.leq a (s.plus a b))
  leq_plus a b = subst (λ c. T (s.leq c (s.plus a b))) (laws.neutral a) (plus_mono_right s.nothing b a (laws.least b))
