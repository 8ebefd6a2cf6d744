use Rattle.routes.proofs.Paths.{line_routes_are_unit_routes}
use Rattle.routes.proofs.steps.line_routes_are_unit_routes.Goals as goal

pub returns : goal.returns
returns g c = line_routes_are_unit_routes g.C.Amount.sums g.C.Amount.laws
