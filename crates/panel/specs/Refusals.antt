-- The number, the level and the returned number of each refusal of a call and of a setting. Assumes nothing.
use Rattle.std.specs.Prelude.{ℕ}
use Rattle.panel.specs.declared.refusal.Refusal.{Refusal}
use Rattle.panel.specs.declared.refusal.Refusal.TheVariants.{LayerRange, ClassUnset, NetRange, OffPanel, SamePoint, TooFewPlaces, InTheWay, NoSuchJob, ShortCoordinates, TooManyLines, ShortNodes, NoPath, ShortPath, JobsUsedUp}
use Rattle.panel.specs.declared.refusal.SheetRefusal.{SheetRefusal}
use Rattle.panel.specs.declared.refusal.SheetRefusal.TheVariants as sheet
use Rattle.panel.specs.declared.refusal.Level.{Level}
use Rattle.panel.specs.declared.refusal.Level.TheVariants as level
use Rattle.panel.specs.declared.refusal.Shown.{Shown}

abbrev pub row : ℕ → Level → ℕ → Shown
row n l v = record { number = n; level = l; returned = v }

abbrev pub shown_of_call : Refusal → Shown
shown_of_call LayerRange = row 2 level.Panel 0
shown_of_call ClassUnset = row 3 level.Panel 0
shown_of_call NetRange = row 4 level.Panel 0
shown_of_call OffPanel = row 5 level.Panel 0
shown_of_call SamePoint = row 6 level.Panel 0
shown_of_call (TooFewPlaces pieces) = row 7 level.Panel pieces
shown_of_call (InTheWay job) = row 8 level.Panel job
shown_of_call NoSuchJob = row 9 level.Panel 0
shown_of_call (ShortCoordinates needed) = row 10 level.Panel needed
shown_of_call TooManyLines = row 11 level.Panel 0
shown_of_call (ShortNodes nodes) = row 12 level.Panel nodes
shown_of_call NoPath = row 13 level.Panel 0
shown_of_call (ShortPath points) = row 14 level.Panel points
shown_of_call JobsUsedUp = row 15 level.Panel 0

abbrev pub shown_of_sheet : SheetRefusal → Shown
shown_of_sheet sheet.Size = row 1 level.Sheet 0
shown_of_sheet (sheet.Prices e) = row 2 level.Sheet 0
shown_of_sheet sheet.Class = row 3 level.Sheet 0
