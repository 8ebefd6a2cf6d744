-- Closed spans and boxes between two. Assumes nothing.
--     span a b             the closed span between two coordinates
--     box p q              the closed box from a point to another
--     as_border n          the nearest coordinate that is a border; HasBorders p, a point whose coordinates are
--     clamped_box p q      the box between the borders nearest to two points
use Rattle.std.specs.Prelude.{ℕ, ◌-◌, ◌^◌, ◌<◌, min, max, pos}
use Rattle.geometry.specs.declared.point.Point.{Point}
use Rattle.geometry.specs.declared.rect.Span.{Span}
use Rattle.geometry.specs.declared.rect.Rect.{Rect}

-- in either order
abbrev pub span : ℕ → ℕ → Span
span a b = record { low = pos (min a b); high = pos (max a b) }

abbrev pub box : Point → Point → Rect
box p q = record { x = span p.x q.x; y = span p.y q.y }

-- borders are 32 bits wide with a sign, so the greatest is 2 ^ 31 - 1
abbrev pub as_border : ℕ → ℕ
as_border n = min n (2 ^ 31 - 1)

abbrev pub HasBorders : Point → Type 0
HasBorders p = (p.x < 2 ^ 31) × (p.y < 2 ^ 31)

abbrev pub clamped_box : Point → Point → Rect
clamped_box p q = record { x = span (as_border p.x) (as_border q.x); y = span (as_border p.y) (as_border q.y) }
