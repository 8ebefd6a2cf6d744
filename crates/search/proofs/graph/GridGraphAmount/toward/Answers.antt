use Rattle.std.proofs.Common.{sym}
use Rattle.search.specs.Lattices.{next_inside}
use Rattle.search.proofs.Points.{present_point, known_in_reach}
use Rattle.search.proofs.graph.GridGraphAmount.toward.Goals as goal

pub returns-in_err-q : goal.returns-in_err-q
returns-in_err-q g c h six =
    let grid = c.args.self.now in
    let inside = next_inside grid.lattice c.args.node c.args.k c.in_ok-next.next h (sym (c.in_ok-next.ensures h)) in
    absurd (present_point grid c.in_ok-next.next c.in_err-q.ensures inside)

pub price-requires : goal.price-requires
price-requires g c = (
  known_in_reach c.args.self.now c.args.node c.in_ok-p.p c.in_ok-p.ensures,
  known_in_reach c.args.self.now c.in_ok-next.next c.in_ok-q.q c.in_ok-q.ensures,
)
