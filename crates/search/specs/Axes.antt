-- A request along an axis of its panel. Assumes nothing.
--     extent_coordinates e ps         the coordinates of the lines of a request along one axis
--     extent_lines e ps               its lines
use Rattle.std.specs.Prelude.{ℕ, List}
use Rattle.geometry.specs.declared.piece.Piece.{Piece}
use Rattle.geometry.specs.Axes.{axis_of}
use Rattle.routes.specs.Lines.{coordinates, lines}
use Rattle.search.specs.declared.request.Extent.{Extent}

abbrev pub extent_coordinates : Extent → List Piece → List ℕ
extent_coordinates e pieces = coordinates (axis_of e.axis) e.size e.class e.net pieces e.first e.second

abbrev pub extent_lines : Extent → List Piece → List ℕ
extent_lines e pieces = lines (axis_of e.axis) e.size e.class e.net pieces e.first e.second
