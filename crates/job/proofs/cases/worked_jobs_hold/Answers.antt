use Rattle.std.proofs.Common.{refl}
use Rattle.std.specs.Fmt.{digits}
use Rattle.job.proofs.cases.worked_jobs_hold.Goals as goal

pub returns : goal.returns
unfolding digits
returns c = record { hold = refl; rows = refl; sixteen = refl }
