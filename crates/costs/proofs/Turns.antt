-- What one turn of doubling keeps. Assumes nothing.
use Rattle.std.proofs.Common.{◌≡◌, ℕ, zero, suc, ◌+◌, ◌*◌, ◌/◌, ◌%◌, ◌^◌, ◌<◌, ◌≤◌, sym, refl, ap, ◌∙◌, mul-le-mul_right, suc-mul, add-mul, mul-le-mul_left, zero-mul, mul-add, arith}
use Rattle.costs.specs.Amounts.{Sums, Laws, times}
use Rattle.costs.proofs.Times.{times_add, times_plus}

-- t is at hand, and x is to be added k times more to make the whole
abbrev pub Stands : {M : Type 0} → Sums M → M → M → ℕ → M → ℕ → Type 0
Stands s t x k whole size = (s.plus t (times s k x) ≡ whole) × (s.bulk t + k * s.bulk x ≤ size) × (k ≡ 0 → t ≡ whole)

module _ {M : Type 0} {s : Sums M} (laws : Laws s) where
  -- with nothing more to add, t is the whole
  ended : (t x : M) (k : ℕ) (whole : M) → s.plus t (times s k x) ≡ whole → k ≡ 0 → t ≡ whole
  ended t x k whole e none = sym (laws.neutral t) ∙ ap (λ n. s.plus t (times s n x)) (sym none) ∙ e

  pub stands : (t x : M) (k : ℕ) (whole : M) (size : ℕ)
      → s.plus t (times s k x) ≡ whole → s.bulk t + k * s.bulk x ≤ size → Stands s t x k whole size
  stands t x k whole size e b = (e, b, ended t x k whole e)

  -- y need be twice x only where it is added at all
  twice_times : (h : ℕ) (x y : M) → (0 < h → y ≡ s.plus x x) → times s h y ≡ times s (h + h) x
  twice_times zero x y e = refl
  twice_times (suc h) x y e =
      ap (times s (suc h)) (e (omega arith)) ∙ times_plus laws (suc h) x x ∙ sym (times_add laws (suc h) (suc h) x)

  twice_bulk : (h : ℕ) (x y : M) → (0 < h → y ≡ s.plus x x) → h * s.bulk y ≤ (h + h) * s.bulk x
  twice_bulk zero x y e = omega (arith, zero-mul (s.bulk y))
  twice_bulk (suc h) x y e =
      let b : s.bulk y ≤ s.bulk x + s.bulk x = rw (e (omega arith)) (laws.bulk_plus x x) in
      omega (arith, mul-le-mul_left (suc h) b, mul-add (suc h) (s.bulk x) (s.bulk x), add-mul (suc h) (suc h) (s.bulk x))

  -- x is small enough to be added, and to be doubled where two more are to be added
  one_of : (t x : M) (k : ℕ) (size : ℕ) → 0 < k → s.bulk t + k * s.bulk x ≤ size → s.bulk t + s.bulk x ≤ size
  one_of t x k size h b = omega (arith, mul-le-mul_right {m = 1} {n = k} (s.bulk x) h)

  two_of : (t x : M) (k : ℕ) (size : ℕ) → 1 < k → s.bulk t + k * s.bulk x ≤ size → s.bulk x + s.bulk x ≤ size
  two_of t x k size h b = omega (arith, mul-le-mul_right {m = 2} {n = k} (s.bulk x) h)

  pub even_turn : (t x u y : M) (k : ℕ) (whole : M) (size : ℕ) → k % 2 ≡ 0 → size < 2 ^ 62 → u ≡ t
      → (s.bulk x + s.bulk x < 2 ^ 62 → y ≡ s.plus x x) → Stands s t x k whole size → Stands s u y (k / 2) whole size
  even_turn t x u y k whole size even small e f held =
      let h = k / 2 in
      let double : k ≡ h + h = omega arith in
      let f' : 0 < h → y ≡ s.plus x x = λ more. f (omega (arith, two_of t x k size (omega arith) held.1)) in
      stands u y h whole size
      (ap (λ v. s.plus v (times s h y)) e ∙ ap (s.plus t) (twice_times h x y f' ∙ ap (λ n. times s n x) (sym double)) ∙ held.0)
      (omega (arith, held.1, ap s.bulk e, twice_bulk h x y f', ap (λ n. n * s.bulk x) double))

  pub odd_turn : (t x u y : M) (k : ℕ) (whole : M) (size : ℕ) → k % 2 ≡ 1 → size < 2 ^ 62
      → (s.bulk t + s.bulk x < 2 ^ 62 → u ≡ s.plus t x)
      → (s.bulk x + s.bulk x < 2 ^ 62 → y ≡ s.plus x x) → Stands s t x k whole size → Stands s u y (k / 2) whole size
  odd_turn t x u y k whole size odd small e f held =
      let h = k / 2 in
      let double : k ≡ suc (h + h) = omega arith in
      let e' : u ≡ s.plus t x = e (omega (arith, one_of t x k size (omega arith) held.1)) in
      let f' : 0 < h → y ≡ s.plus x x = λ more. f (omega (arith, two_of t x k size (omega arith) held.1)) in
      stands u y h whole size
      (ap (λ v. s.plus v (times s h y)) e' ∙ laws.assoc t x (times s h y)
      ∙ ap (λ v. s.plus t (s.plus x v)) (twice_times h x y f') ∙ ap (λ n. s.plus t (times s n x)) (sym double) ∙ held.0)
      (let one : k * s.bulk x ≡ (h + h) * s.bulk x + s.bulk x = ap (λ n. n * s.bulk x) double ∙ suc-mul (h + h) (s.bulk x) in
      omega (arith, held.1, ap s.bulk e', laws.bulk_plus t x, twice_bulk h x y f'))
