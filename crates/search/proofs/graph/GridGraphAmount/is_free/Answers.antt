use Rattle.search.specs.Grids.{grid_rules, grid_point}
use Rattle.search.specs.Lattices.{next_inside}
use Rattle.search.proofs.Points.{known_point, present_point, known_in_reach, next_adjoins, free_known}
use Rattle.search.proofs.graph.GridGraphAmount.is_free.Goals as goal

pub returns-in_default : goal.returns-in_default
returns-in_default g c k h six e =
    let grid = c.args.self.now in
    absurd (present_point grid c.args.neighbour c.in_default.ensures' (next_inside grid.lattice c.args.node k c.args.neighbour h e))

pub may_move-requires : goal.may_move-requires
may_move-requires g c = (
  known_in_reach c.args.self.now c.args.node c.in-Some-Some.p c.in-Some-Some.ensures,
  known_in_reach c.args.self.now c.args.neighbour c.in-Some-Some.q c.in-Some-Some.ensures',
)

pub returns : goal.returns
returns g c k h six e =
    let grid = c.args.self.now in
    let p = known_point grid c.args.node c.in-Some-Some.p c.in-Some-Some.ensures in
    let q = known_point grid c.args.neighbour c.in-Some-Some.q c.in-Some-Some.ensures' in
    free_known (grid_rules (g.P.Pieces.pieces grid.register.now) grid) c.in-Some-Some.p c.in-Some-Some.q
    (grid_point grid c.args.node) (grid_point grid c.args.neighbour) c.may_move.result p.1 q.1
    (next_adjoins grid c.args.node k c.args.neighbour h e) c.may_move.ensures
