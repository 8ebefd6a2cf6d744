use Rattle.costs.specs.Lawful.{maximum_laws}
use Rattle.costs.specs.Maximum.{maximum}
use Rattle.routes.proofs.Suffice.{lines_suffice}
use Rattle.routes.proofs.amounts.lines_suffice_for_maximum.Goals as goal

pub returns : goal.returns
returns c = lines_suffice maximum maximum_laws
