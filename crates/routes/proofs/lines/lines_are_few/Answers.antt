use Rattle.routes.proofs.Few.{lines_are_few}
use Rattle.routes.proofs.lines.lines_are_few.Goals as goal

pub returns : goal.returns
returns c = lines_are_few
