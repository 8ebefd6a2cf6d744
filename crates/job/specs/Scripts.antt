-- What a job says as a whole. Assumes nothing.
use Rattle.std.specs.Prelude.{◌≡◌, ℕ, List}
use Rattle.costs.specs.Rows.{blank_list}
use Rattle.panel.specs.Sheets.{Blank}
use Rattle.job.specs.declared.forms.CostChoice.TheVariants.{Money}
use Rattle.job.specs.declared.forms.RegisterChoice.TheVariants.{Plain}
use Rattle.job.specs.declared.setup.Setup.{Setup}
use Rattle.job.specs.declared.setup.Stage.TheVariants.{Start}
use Rattle.job.specs.declared.script.Script.{Script}
use Rattle.job.specs.Text.{lines}
use Rattle.job.specs.Said.{said, Told}

-- before the first line
pub record Unset (s : Setup) : Type 0 where
  pub stage_is : s.stage ≡ Start
  pub sheet_is : Blank s.sheet
  pub prices_is : s.prices ≡ blank_list
  pub cost_is : s.cost ≡ Money
  pub register_is : s.register ≡ Plain

pub record Read (job : List ℕ) (s : Script) : Type 0 where
  pub unset : Setup
  pub unset_is : Unset unset
  pub told : Told unset (lines job) s.setup
  pub said_is : s.said.items ≡ said Start 1 (lines job)
