-- Three costs of which the first is never the least. Assumes nothing.
use Rattle.std.proofs.Common.{◌≡◌, ℕ, suc, ◌+◌, ◌*◌, ◌⊎◌, inl, inr}
use Rattle.costs.specs.Amounts.{Sums, times}
use Rattle.routes.proofs.Sums.{Ordered, plus_left_comm, mono_right, times_add, times_mul, times_nothing, times_plus, times_mono}

-- The costs a, b and c of a route as it is, and with what lies at a coordinate moved to the left or to the right: beside a
-- rest that stays, a has j times the cost of the gap on the left and once that of the gap on the right, b has only gaps on
-- the right, and c only gaps on the left.
pub record Balance {M : Type 0} (s : Sums M) (j : ℕ) (a b c : M) : Type 0 where
  pub rest : M
  pub on_left : M
  pub on_right : M
  pub a_is : a ≡ s.plus rest (s.plus (times s j on_left) on_right)
  pub b_is : b ≡ s.plus rest (times s (suc j) on_right)
  pub c_is : c ≡ s.plus rest (times s (suc j) on_left)

module _ {M : Type 0} {s : Sums M} {leq : M → M → Type 0} (laws : Ordered s leq) (j : ℕ) where
  pub balance_leq : {a b c : M} → Balance s j a b c → leq b a ⊎ leq c a
  balance_leq w = elim (laws.total w.on_right w.on_left) [
    | inl h ↦ inl (rw (w.a_is, w.b_is) (mono_right laws w.rest
        (rw (laws.comm w.on_right (times s j w.on_right)) (laws.mono w.on_right (times_mono laws j h)))))
    | inr h ↦ inr (rw (w.a_is, w.c_is) (mono_right laws w.rest
        (rw (laws.comm w.on_left (times s j w.on_left)) (mono_right laws (times s j w.on_left) h))))
  ]

  -- what does not change
  pub balance_same : (a : M) → Balance s j a a a
  balance_same a = record {
    rest = a;
    on_left = s.nothing;
    on_right = s.nothing;
    a_is = simp (times_nothing laws, laws.neutral);
    b_is = simp (times_nothing laws, laws.neutral);
    c_is = simp (times_nothing laws, laws.neutral);
  }

  pub balance_plus : {a b c a' b' c' : M} → Balance s j a b c → Balance s j a' b' c'
      → Balance s j (s.plus a a') (s.plus b b') (s.plus c c')
  balance_plus w v = record {
    rest = s.plus w.rest v.rest;
    on_left = s.plus w.on_left v.on_left;
    on_right = s.plus w.on_right v.on_right;
    a_is = simp (w.a_is, v.a_is, times_plus laws, laws.assoc, laws.comm, plus_left_comm laws);
    b_is = simp (w.b_is, v.b_is, times_plus laws, laws.assoc, laws.comm, plus_left_comm laws);
    c_is = simp (w.c_is, v.c_is, times_plus laws, laws.assoc, laws.comm, plus_left_comm laws);
  }

  -- the same of distances gives it of their costs
  pub balance_times : (u : M) (a b c rest l r : ℕ) → a ≡ rest + (j * l + r) → b ≡ rest + suc j * r → c ≡ rest + suc j * l
      → Balance s j (times s a u) (times s b u) (times s c u)
  balance_times u a b c rest l r p q o = record {
    rest = times s rest u;
    on_left = times s l u;
    on_right = times s r u;
    a_is = rw (p, times_add laws rest (j * l + r) u, times_add laws (j * l) r u, times_mul laws j l u);
    b_is = rw (q, times_add laws rest (suc j * r) u, times_mul laws (suc j) r u);
    c_is = rw (o, times_add laws rest (suc j * l) u, times_mul laws (suc j) l u);
  }
