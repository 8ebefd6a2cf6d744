use Rattle.panel.proofs.Lifting.{few_lifted}
use Rattle.panel.proofs.panel.Panel.lift.Goals as goal

pub returns-clause-few : goal.returns-clause-few
returns-clause-few g c =
    let register = c.self.inside.register in
    few_lifted _ _ (g.R.Pieces.pieces register) c.take_out-count.ensures.answer (g.R.Pieces.few register)
