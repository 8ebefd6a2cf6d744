-- What a request asks for, and when it is refused. Assumes nothing.
--     proper q                  its sizes are in range and its terminals on the panel
--     extent q a                the request along an axis
--     request_rules q ps        what the panel allows to it where these pieces stand
--     request_lines q a ps      its lines along an axis
--     lists_short m j k k'      the list of coordinates or one of lines is too short, where m pieces stand
--     many_lines q ps           there are more than 1,024 lines on an axis
--     request_nodes q ps        how many nodes there are
--     nodes_short n j k         the list of notes or the frontier's is too short for n nodes
use Rattle.std.specs.Prelude.{ℕ, ◌+◌, ◌*◌, min, Bool, ◌&&◌, ◌||◌, List, length, nat_lt}
use Rattle.geometry.specs.declared.axis.Axis.{Axis}
use Rattle.geometry.specs.declared.axis.Axis.TheVariants.{X, Y}
use Rattle.geometry.specs.declared.piece.Piece.{Piece}
use Rattle.geometry.specs.declared.size.Size.{Size}
use Rattle.geometry.specs.Axes.{coordinate_of}
use Rattle.geometry.specs.Sizes.{within, has}
use Rattle.routes.specs.Lines.{node_count}
use Rattle.routes.specs.Routes.{Rules}
use Rattle.routes.specs.Rules.{rules_of}
use Rattle.search.specs.declared.request.Extent.{Extent}
use Rattle.search.specs.declared.request.Request.{Request}
use Rattle.search.specs.Axes.{extent_lines}
use Rattle.search.specs.Drawing.{short_lists}

abbrev pub sized : Request → Bool
sized q = within 60000 8 q.size

abbrev pub proper : Request → Bool
proper q = sized q && (has q.size q.first && has q.size q.second)

-- the size of a panel along an axis
abbrev pub side : Axis → Size → ℕ
side X s = s.width
side Y s = s.height

abbrev pub extent : Request → Axis → Extent
extent q a = record {
  axis = a;
  size = side a q.size;
  class = q.class;
  net = q.net;
  first = coordinate_of a q.first;
  second = coordinate_of a q.second;
}

abbrev pub request_rules : Request → List Piece → Rules
request_rules q pieces = rules_of q.size.width q.size.height q.size.layers q.class q.net pieces

abbrev pub request_lines : Request → Axis → List Piece → List ℕ
request_lines q a pieces = extent_lines (extent q a) pieces

abbrev pub lists_short : ℕ → ℕ → ℕ → ℕ → Bool
lists_short m coordinates xs ys = short_lists m coordinates (min xs ys)

abbrev pub many_lines : Request → List Piece → Bool
many_lines q pieces = nat_lt 1024 (length (request_lines q X pieces)) || nat_lt 1024 (length (request_lines q Y pieces))

abbrev pub request_nodes : Request → List Piece → ℕ
request_nodes q pieces = node_count (request_lines q X pieces) (request_lines q Y pieces) q.size.layers

abbrev pub nodes_short : ℕ → ℕ → ℕ → Bool
nodes_short n notes entries = nat_lt notes n || nat_lt entries (6 * n + 1)
