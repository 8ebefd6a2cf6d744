-- What is shown of the refusal of a line. Assumes nothing.
use Rattle.panel.specs.Refusals.{row, shown_of_call, shown_of_sheet}
use Rattle.panel.specs.declared.refusal.Shown.{Shown}
use Rattle.panel.specs.declared.refusal.Level.TheVariants.{Job}
use Rattle.job.specs.declared.refused.Refused.{Refused}
use Rattle.job.specs.declared.refused.Refused.TheVariants.{ByJob, BySheet, ByPanel}

-- A line that cannot be read returns the place; it is the job's own refusal, of the number 16.
abbrev pub shown : Refused → Shown
shown (ByJob e) = row 16 Job e.place
shown (BySheet e) = shown_of_sheet e
shown (ByPanel e) = shown_of_call e
