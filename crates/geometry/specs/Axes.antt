-- Rectangles and points along an axis. Assumes nothing.
--     axis_of a r           the borders of a rectangle along an axis
--     coordinate_of a p     the coordinate of a point along an axis
use Rattle.std.specs.Prelude.{ℕ}
use Rattle.geometry.specs.declared.axis.Axis.{Axis}
use Rattle.geometry.specs.declared.axis.Axis.TheVariants.{X, Y}
use Rattle.geometry.specs.declared.point.Point.{Point}
use Rattle.geometry.specs.declared.rect.Span.{Span}
use Rattle.geometry.specs.declared.rect.Rect.{Rect}

abbrev pub axis_of : Axis → Rect → Span
axis_of X r = r.x
axis_of Y r = r.y

abbrev pub coordinate_of : Axis → Point → ℕ
coordinate_of X p = p.x
coordinate_of Y p = p.y
