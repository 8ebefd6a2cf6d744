use Rattle.routes.proofs.Suffice.{least_on_lines_is_least}
use Rattle.routes.proofs.lines.least_on_lines_is_least.Goals as goal

pub returns : goal.returns
returns g c = least_on_lines_is_least g.C.Amount.sums g.C.Amount.laws
