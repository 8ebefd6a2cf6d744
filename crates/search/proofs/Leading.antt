-- The way that the notes of a search lead back, turned round, visits no point twice. Assumes nothing.
use Rattle.std.proofs.Common.{◌≡◌, ℕ, ◌<◌, not, ◌&&◌, T, false, eqb, List, [], ◌∷◌, map, reverse, sym, ap, inl, inr, eqb→eq, ne_eqb}
use mathlib.Core.List.{reverse_aux}
use borrow.Author.Tests.{eqb-false}
use Rattle.std.specs.Cmp.{nat_eq_equiv}
use Rattle.std.specs.List.{AllByRecursion, IsDistinct}
use Rattle.std.proofs.ByRecursion.{All-weaker}
use Rattle.std.proofs.lemmas.List.Sorted.{IsPermutation-reverse}
use Rattle.std.proofs.lemmas.Map.Keys.{IsDistinct-IsPermutation}
use Rattle.frontier.specs.Front.{Mark, Trail}
use Rattle.frontier.specs.Routes.{Search}
use Rattle.frontier.proofs.Trails.{turned}
use Rattle.geometry.specs.declared.point.Point.{Point}
use Rattle.geometry.specs.Lists.{any_of}
use Rattle.routes.specs.Turns.{same_point, none_twice}
use Rattle.routes.proofs.Bools.{left, right, both, either, refute}

module _ {M : Type 0} (g : Search M) (f : ℕ → Mark M) where
  pub trail_apart : (back : List ℕ) (u : ℕ) (a : M) → Trail g f u back a → IsDistinct eqb (u ∷ back)
  unfolding IsDistinct
  trail_apart [] u a r = (tt, tt)
  trail_apart (p ∷ back) u a r = (
    All-weaker (λ x. x ≡ u → ⊥) (λ x. eqb u x ≡ false) (λ x h. ne_eqb u x (λ e. h (sym e))) (p ∷ back) r.6,
    trail_apart back p r.0 r.3,
  )

  pub turned_apart : (back : List ℕ) (u : ℕ) (a : M) → Trail g f u back a → IsDistinct eqb (reverse (u ∷ back))
  turned_apart back u a r =
      IsDistinct-IsPermutation eqb nat_eq_equiv.symm (u ∷ back) (reverse (u ∷ back)) (IsPermutation-reverse (u ∷ back)) (trail_apart back u a r)

  -- turned round, the way begins at the start
  pub trail_turned : (back : List ℕ) (u : ℕ) (a : M) (after : List ℕ) → Trail g f u back a
      → reverse_aux back (u ∷ after) ≡ g.from ∷ turned u back after
  trail_turned [] u a after r = ap (λ v. v ∷ after) r.2
  trail_turned (p ∷ back) u a after r = trail_turned back p r.0 (u ∷ after) r.3

-- nodes, each once, lie at points, each once

same_says : (p q : Point) → T (same_point p q) → p ≡ q
same_says p q h =
    let a = eqb p.layer q.layer in
    let b = eqb p.x q.x in
    let c = eqb p.y q.y in
    let layer = eqb→eq p.layer q.layer (left a (b && c) h) in
    let x = eqb→eq p.x q.x (left b c (right a (b && c) h)) in
    let y = eqb→eq p.y q.y (right b c (right a (b && c) h)) in
    λ i. record { layer = layer i; x = x i; y = y i }

module _ (pt : ℕ → Point) (size : ℕ) (one : (u w : ℕ) → u < size → w < size → pt u ≡ pt w → u ≡ w) where
  nowhere : (n : ℕ) (ns : List ℕ) → n < size → AllByRecursion (λ v. v < size) ns → AllByRecursion (λ x. eqb n x ≡ false) ns
      → T (any_of (same_point (pt n)) (map pt ns)) → ⊥
  nowhere n [] h a b t = t
  nowhere n (m ∷ ns) h a b t = elim (either (same_point (pt n) (pt m)) (any_of (same_point (pt n)) (map pt ns)) t) [
    | inl e ↦ eqb-false n m b.0 (one n m h a.0 (same_says (pt n) (pt m) e))
    | inr r ↦ nowhere n ns h a.1 b.1 r
  ]

  pub points_apart : (ns : List ℕ) → AllByRecursion (λ v. v < size) ns → IsDistinct eqb ns → T (none_twice (map pt ns))
  unfolding IsDistinct
  points_apart [] a b = tt
  points_apart (n ∷ ns) a b =
      both (not (any_of (same_point (pt n)) (map pt ns))) (none_twice (map pt ns))
      (refute (any_of (same_point (pt n)) (map pt ns)) (nowhere n ns a.0 a.1 b.0)) (points_apart ns a.1 b.1)
