use Rattle.routes.specs.Rules.{ask}
use Rattle.search.proofs.Ways.{told_free}
use Rattle.search.proofs.grid.Grid.is_clear.Goals as goal

pub returns : goal.returns
returns g c =
    let grid = c.args.self.now in
    told_free (ask grid.request.net c.args.reach grid.request.class.space c.args.layer c.args.area.now)
    (g.P.Pieces.pieces grid.register.now) c.in_the_way.result c.is_none.result c.in_the_way.ensures c.is_none.ensures
