use Rattle.std.proofs.Common.{refl, rules}
use Rattle.panel.proofs.sheet.Sheet.set_class.Goals as goal

pub returns-clause-sheet : goal.returns-clause-sheet
returns-clause-sheet c = record {
  size_is = refl;
  class = c.in_ok-class.class;
  measures_is = search rules;
  classes_is = refl;
}
