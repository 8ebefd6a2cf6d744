-- Coordinates from k on, and lines below it: what becomes of them as all that is at k goes elsewhere. Assumes nothing.
use Rattle.std.proofs.lemmas.Bool.Decides.{nat_tests}
use Rattle.std.proofs.Common.{◌≡◌, ℕ, zero, suc, ◌+◌, ◌-◌, ◌<◌, ◌≤◌, T, ◌⊎◌, List, inl, inr, arith}
use Rattle.std.proofs.lemmas.Bool.{cases_eq}
use Rattle.geometry.specs.Lists.{mem}
use Rattle.routes.specs.Routes.{gap}
use Rattle.routes.proofs.Numbers.{NoLine, put, put_same, put_other}
use Rattle.routes.proofs.Shift.{Safe, Parts}

-- x is within the size, and is a line if it is below k
abbrev pub Kept : List ℕ → ℕ → ℕ → ℕ → Type 0
Kept qs size k x = (T (mem x qs) ⊎ (k ≤ x)) × (x ≤ size)

-- x against k, and p below it; with k moved to p it is f, and with k moved up by one it is g
pub data Spot (k p x f g : ℕ) : Type 0 where
  low : x ≤ p → f ≡ x → g ≡ x → Spot k p x f g
  at : x ≡ k → f ≡ p → g ≡ suc k → Spot k p x f g
  high : k < x → f ≡ x → g ≡ x → Spot k p x f g

-- a move from a to b has the gap from p to k as a whole or not at all, and so the one from k to k + 1
pub spot_parts : (k p a f g b f' g' : ℕ) → p < k → Spot k p a f g → Spot k p b f' g'
    → Parts (k - p) (gap a b) (gap f f') (gap g g')
spot_parts k p a f g b f' g' below (low u v w) (low u' v' w') = (gap a b, 0, 0, omega arith, omega arith, omega arith)
spot_parts k p a f g b f' g' below (low u v w) (at u' v' w') = (gap a p, 1, 0, omega arith, omega arith, omega arith)
spot_parts k p a f g b f' g' below (low u v w) (high u' v' w') =
    (gap a p + (b - suc k), 1, 1, omega arith, omega arith, omega arith)
spot_parts k p a f g b f' g' below (at u v w) (low u' v' w') = (gap p b, 1, 0, omega arith, omega arith, omega arith)
spot_parts k p a f g b f' g' below (at u v w) (at u' v' w') = (0, 0, 0, omega arith, omega arith, omega arith)
spot_parts k p a f g b f' g' below (at u v w) (high u' v' w') = (b - suc k, 0, 1, omega arith, omega arith, omega arith)
spot_parts k p a f g b f' g' below (high u v w) (low u' v' w') =
    (gap p b + (a - suc k), 1, 1, omega arith, omega arith, omega arith)
spot_parts k p a f g b f' g' below (high u v w) (at u' v' w') = (a - suc k, 0, 1, omega arith, omega arith, omega arith)
spot_parts k p a f g b f' g' below (high u v w) (high u' v' w') = (gap a b, 0, 0, omega arith, omega arith, omega arith)

module _ (qs : List ℕ) (size k : ℕ) where
  pub put_safe : (v : ℕ) → v ≤ size → NoLine qs k v → NoLine qs (suc v) (suc k) → (x : ℕ) → Kept qs size k x
      → Safe qs size (put k v) x
  put_safe v fits up down x h = grind (arith, nat_tests)

  pub put_kept : (v : ℕ) → Kept qs size (suc k) v → (x : ℕ) → Kept qs size k x → Kept qs size (suc k) (put k v x)
  put_kept v w x h = grind (arith, nat_tests)

  -- where v is between k and all else, no distance grows
  pub put_shrinks : (v : ℕ) → ((x : ℕ) → Kept qs size k x → (x ≡ k → ⊥) → ((x ≤ v) × (v ≤ k)) ⊎ ((k ≤ v) × (v ≤ x)))
      → (a b : ℕ) → Kept qs size k a → Kept qs size k b → gap (put k v a) (put k v b) ≤ gap a b
  put_shrinks v mid a b ha hb = elim (cases_eq a k) [
    | inl e ↦
        let fa : put k v a ≡ v = put_same k v a e in
        elim (cases_eq b k) [
          | inl e' ↦ let fb : put k v b ≡ v = put_same k v b e' in omega arith
          | inr ne' ↦ let fb : put k v b ≡ b = put_other k v b ne' in omega (arith, mid b hb ne')
        ]
    | inr ne ↦
        let fa : put k v a ≡ a = put_other k v a ne in
        elim (cases_eq b k) [
          | inl e' ↦ let fb : put k v b ≡ v = put_same k v b e' in omega (arith, mid a ha ne)
          | inr ne' ↦ let fb : put k v b ≡ b = put_other k v b ne' in omega arith
        ]
  ]

  -- nothing is between k and the last line p below it
  pub up_to_line : (p : ℕ) → NoLine qs (suc p) k → (x : ℕ) → Kept qs size k x → x < k → x ≤ p
  up_to_line p clear x h lt = grind (arith, nat_tests)

  -- with no line below k, nothing is below k
  pub past_all : NoLine qs zero k → (x : ℕ) → Kept qs size k x → (x ≡ k → ⊥) → k < x
  past_all empty x h ne = grind (arith, nat_tests)

  -- where x stands, if p is the last line below k
  pub spot : (p : ℕ) → p < k → NoLine qs (suc p) k → (x : ℕ) → Kept qs size k x → Spot k p x (put k p x) (put k (suc k) x)
  spot p below clear x h = grind (arith, nat_tests)
