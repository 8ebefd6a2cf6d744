-- A grid is bounded as a search asks. Assumes nothing.
use Rattle.std.specs.Prelude.{◌*◌, ◌^◌, ◌<◌, List}
use Rattle.std.proofs.Common.{arith}
use Rattle.frontier.specs.Graphs.{Bounded}
use Rattle.geometry.specs.declared.piece.Piece.{Piece}
use Rattle.search.specs.declared.grid.Grid.{Grid}
use Rattle.search.specs.Grids.{grid_shape}
use Rattle.search.specs.Nodes.{node_total}
use Rattle.search.specs.Lattices.{total_few, next_inside}

pub grid_bounded : {K P : Type 0} (pieces : List Piece) (g : Grid K P) → Bounded (grid_shape pieces g)
grid_bounded pieces g = record {
  inside = λ u k w h six e. next_inside g.lattice u k w h e;
  small =
      let few : 3932100000 * node_total g.lattice < 2 ^ 62 = omega (arith, total_few g.lattice) in few;
}
