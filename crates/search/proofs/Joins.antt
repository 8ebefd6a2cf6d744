-- The moves that join points, and what a run costs. Assumes nothing.
use Rattle.std.proofs.Common.{◌≡◌, ℕ, ◌*◌, ◌^◌, ◌<◌, ◌≤◌, cond, eqb, sym, ap, ◌∙◌, subst, mul-le-mul, arith, eq-eqb, ne_eqb}
use Rattle.geometry.specs.declared.axis.Axis.{Axis}
use Rattle.geometry.specs.declared.axis.Axis.TheVariants.{X, Y}
use Rattle.geometry.specs.declared.point.Point.{Point}
use Rattle.geometry.specs.Axes.{coordinate_of}
use Rattle.costs.specs.Amounts.{Sums, Laws, times}
use Rattle.costs.proofs.Times.{bulk_times}
use Rattle.routes.specs.Routes.{along_x, along_y, to_layer}
use Rattle.search.specs.Grids.{join, InReach}

pub join_x : (p q : Point) → p.layer ≡ q.layer → p.y ≡ q.y → join p q ≡ along_x q.x
join_x p q e f =
    ap (λ b. cond b (cond (eqb p.y q.y) (along_x q.x) (along_y q.y)) (to_layer q.layer)) (eq-eqb p.layer q.layer e)
    ∙ ap (λ b. cond b (along_x q.x) (along_y q.y)) (eq-eqb p.y q.y f)

pub join_y : (p q : Point) → p.layer ≡ q.layer → (p.y ≡ q.y → ⊥) → join p q ≡ along_y q.y
join_y p q e f =
    ap (λ b. cond b (cond (eqb p.y q.y) (along_x q.x) (along_y q.y)) (to_layer q.layer)) (eq-eqb p.layer q.layer e)
    ∙ ap (λ b. cond b (along_x q.x) (along_y q.y)) (ne_eqb p.y q.y f)

pub join_via : (p q : Point) → (p.layer ≡ q.layer → ⊥) → join p q ≡ to_layer q.layer
join_via p q e =
    ap (λ b. cond b (cond (eqb p.y q.y) (along_x q.x) (along_y q.y)) (to_layer q.layer)) (ne_eqb p.layer q.layer e)

-- a run of at most 60,000 units at the price of a unit
module _ {M : Type 0} (s : Sums M) (laws : Laws s) (k : ℕ) (unit r : M) (far : k ≤ 60000) (small : s.bulk unit ≤ 65535)
    (is : k * s.bulk unit < 2 ^ 62 → r ≡ times s k unit) where
  whole : k * s.bulk unit ≤ 3932100000
  whole = mul-le-mul {n₁ = k} {m₁ = s.bulk unit} {n₂ = 60000} {m₂ = 65535} far small

  pub run_exact : r ≡ times s k unit
  run_exact = is (omega (arith, whole))

  pub run_light : s.bulk r ≤ 3932100000
  run_light = subst (λ v. s.bulk v ≤ 3932100000) (sym run_exact) (omega (arith, whole, bulk_times laws k unit))

pub reach_along : (a : Axis) (p : Point) → InReach p → coordinate_of a p ≤ 60000
reach_along X p h = h.right
reach_along Y p h = h.top
