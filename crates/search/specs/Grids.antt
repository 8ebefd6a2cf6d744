-- The grid of a request: where its nodes lie, which moves between them are free and what they cost. Assumes nothing.
--     point_of l xs ys n       the point of a node
--     join p q, joins ps       the move that joins two points; the moves that join points, one behind the other
--     run_axis p q             the axis along which two points of a layer are joined
--     grid_shape ps g          the grid as a graph, where these pieces stand
--     grid_price prices .. g   the price of the move from a node to another
use Rattle.std.specs.Prelude.{◌≡◌, ℕ, ◌+◌, ◌≤◌, true, false, cond, List, [], ◌∷◌, Some, None, Option, ◌==◌, nat_eq, nat_lt, slice_index}
use Rattle.costs.specs.Amounts.{Sums, Prices, tariff}
use Rattle.frontier.specs.Graphs.{Shape}
use Rattle.geometry.specs.declared.axis.Axis.{Axis}
use Rattle.geometry.specs.declared.axis.Axis.TheVariants.{X, Y}
use Rattle.geometry.specs.declared.piece.Piece.{Piece}
use Rattle.geometry.specs.declared.point.Point.{Point}
use Rattle.routes.specs.Routes.{Move, along_x, along_y, to_layer, gap, Rules, on_free_ground, price}
use Rattle.routes.specs.Rules.{rules_of}
use Rattle.search.specs.declared.grid.Grid.{Grid}
use Rattle.search.specs.declared.lattice.Lattice.{Lattice}
use Rattle.search.specs.Nodes.{node_total, crossing_at, next_of}

abbrev pub point_of : Lattice → List ℕ → List ℕ → ℕ → Point
point_of l xs ys n =
    record { layer = (crossing_at l n).level + 1; x = slice_index xs (crossing_at l n).column; y = slice_index ys (crossing_at l n).row }

abbrev pub grid_points : {K P : Type 0} → Grid K P → ℕ → Option Point
grid_points g n = cond (nat_lt n (node_total g.lattice)) (Some (point_of g.lattice g.xs.now g.ys.now n)) None

abbrev pub join : Point → Point → Move
join p q = cond (p.layer == q.layer) (cond (p.y == q.y) (along_x q.x) (along_y q.y)) (to_layer q.layer)

abbrev pub run_axis : Point → Point → Axis
run_axis p q = cond (p.y == q.y) X Y

-- the moves that join a point and those that follow
abbrev pub joins_from : Point → List Point → List Move
joins_from p [] = []
joins_from p (q ∷ qs) = join p q ∷ joins_from q qs

abbrev pub joins : List Point → List Move
joins [] = []
joins (p ∷ ps) = joins_from p ps

-- whether a point is on a layer from 1 to 8, and on the largest panel
pub record InReach (p : Point) : Type 0 where
  pub lowest : 1 ≤ p.layer
  pub highest : p.layer ≤ 8
  pub right : p.x ≤ 60000
  pub top : p.y ≤ 60000

-- Two points are on one layer and in line, or one above the other.
pub record Adjoin (p q : Point) : Type 0 where
  pub wire : nat_eq p.layer q.layer ≡ true → (p.y == q.y) ≡ false → p.x ≡ q.x
  pub via : nat_eq p.layer q.layer ≡ false → (gap p.layer q.layer == 1) ≡ true

module _ {K P : Type 0} where
  abbrev pub grid_point : Grid K P → ℕ → Point
  grid_point g = point_of g.lattice g.xs.now g.ys.now

  abbrev pub grid_rules : List Piece → Grid K P → Rules
  grid_rules pieces g = rules_of g.request.size.width g.request.size.height g.lattice.layers g.request.class g.request.net pieces

  -- no move is dearer than one over 60,000 units at 65,535
  abbrev pub grid_shape : List Piece → Grid K P → Shape
  grid_shape pieces g = record {
    size = node_total g.lattice;
    next = next_of g.lattice;
    free = λ u w. on_free_ground (grid_rules pieces g) (grid_point g u) (join (grid_point g u) (grid_point g w));
    dearest = 3932100000;
  }

  abbrev pub grid_price : {C M : Type 0} → Prices C → Sums M → (C → M) → Grid K P → ℕ → ℕ → M
  grid_price prices sums means g u w = price (tariff sums means prices) (grid_point g u) (join (grid_point g u) (grid_point g w))
