use Rattle.routes.proofs.Paths.{routes_are_paths}
use Rattle.routes.proofs.steps.routes_are_paths.Goals as goal

pub returns : goal.returns
returns g c = routes_are_paths g.C.Amount.sums g.C.Amount.laws
