-- The size of a panel, its layers and its points. Assumes nothing.
--     within side layers s     no side is longer, and there are no more layers
--     has_layer s l            a panel of this size has a layer of this number, counted from 1
--     covers s x y             it reaches to x and y; both edges belong to it
--     has s p                  it has a point
use Rattle.std.specs.Prelude.{ℕ, Bool, ◌&&◌, nat_le}
use Rattle.geometry.specs.declared.point.Point.{Point}
use Rattle.geometry.specs.declared.size.Size.{Size}
use Rattle.geometry.specs.Ranges.{ranges}

abbrev pub within : ℕ → ℕ → Size → Bool
within side layers s = nat_le s.width side && (nat_le s.height side && nat_le s.layers layers)

abbrev pub has_layer : Size → ℕ → Bool
has_layer s l = ranges 1 s.layers l

abbrev pub covers : Size → ℕ → ℕ → Bool
covers s x y = nat_le x s.width && nat_le y s.height

abbrev pub has : Size → Point → Bool
has s p = has_layer s p.layer && covers s p.x p.y
