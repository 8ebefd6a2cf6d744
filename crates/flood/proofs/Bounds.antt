-- Places are few, and each is the place of a point on the panel. Assumes nothing.
use Rattle.std.proofs.Common.{◌≡◌, ℕ, ◌+◌, ◌-◌, ◌*◌, ◌/◌, ◌<◌, ◌≤◌, true, ◌&&◌, T, leb, [], subst, div-lt_iff_lt-mul, mul-le-mul, arith, leb→le}
use lib.Arith.{digits_lt}
use Rattle.geometry.specs.declared.point.Point.{Point}
use Rattle.geometry.specs.Ranges.{ranges}
use Rattle.routes.specs.Routes.{inside}
use Rattle.routes.proofs.Bools.{left, right}
use Rattle.flood.specs.declared.ground.Ground.{Ground}
use Rattle.flood.specs.Grounds.{ground_rules}
use Rattle.flood.specs.Places.{ground_size, place_of, point_at}

lines_few : (g : Ground) → g.size.layers * (g.size.height + 1) ≤ 8008
lines_few g = mul-le-mul {n₁ = g.size.layers} {m₁ = g.size.height + 1} {n₂ = 8} {m₂ = 1001} g.flat (omega (arith, g.low))

pub size_few : (g : Ground) → ground_size g ≤ 8016008
size_few g =
    mul-le-mul {n₁ = g.size.layers * (g.size.height + 1)} {m₁ = g.size.width + 1} {n₂ = 8008} {m₂ = 1001} (lines_few g) (omega (arith, g.narrow))

place_on : (g : Ground) (p : Point) → 1 ≤ p.layer → p.layer ≤ g.size.layers → p.x ≤ g.size.width → p.y ≤ g.size.height
    → place_of g p < ground_size g
place_on g p one layers wide high =
    let level : p.layer - 1 < g.size.layers = omega arith in
    let row : p.y < g.size.height + 1 = omega arith in
    let column : p.x < g.size.width + 1 = omega arith in
    digits_lt (digits_lt level row) column

-- the place of a point on the panel is one of the places
pub place_inside : (g : Ground) (p : Point) → true ≡ inside (ground_rules g []) p → place_of g p < ground_size g
place_inside g p e =
    let h : T (inside (ground_rules g []) p) = subst T e tt in
    let l = ranges 1 g.size.layers p.layer in
    let a = leb p.x g.size.width in
    let b = leb p.y g.size.height in
    let layers = left l (a && b) h in
    let both = right l (a && b) h in
    let one = leb 1 p.layer in
    let top = leb p.layer g.size.layers in
    place_on g p (leb→le 1 p.layer (left one top layers)) (leb→le p.layer g.size.layers (right one top layers))
    (leb→le p.x g.size.width (left a b both)) (leb→le p.y g.size.height (right a b both))

-- the point at a place is on one of the layers
pub layer_at : (g : Ground) (i : ℕ) → i < ground_size g → (point_at g i).layer ≤ g.size.layers
layer_at g i h =
    let w : 0 < g.size.width + 1 = omega arith in
    let t : 0 < g.size.height + 1 = omega arith in
    let line = (div-lt_iff_lt-mul {k = g.size.width + 1} {x = i} {y = g.size.layers * (g.size.height + 1)} w).1 h in
    let level = (div-lt_iff_lt-mul {k = g.size.height + 1} {x = i / (g.size.width + 1)} {y = g.size.layers} t).1 line in
    omega (arith, level)
