-- What a sheet holds, and what its settings answer and leave. Assumes nothing.
--     Blank                                nothing is set
--     size_answer, class_answer            what setting the size or a class answers
--     Resized, Reclassed                   the sheet once the size or a class was set
use Rattle.std.specs.Prelude.{◌≡◌, ℕ, ◌-◌, cond, ◌&&◌, replicate, Some, None, Ok, Err, Result, slice_set}
use Rattle.geometry.specs.Ranges.{ranges, class_measures}
use Rattle.geometry.specs.Classes.{HasMeasures}
use Rattle.geometry.specs.declared.class.Class.{Class}
use Rattle.geometry.specs.declared.measures.Measures.{Measures}
use Rattle.geometry.specs.declared.size.Size.{Size}
use Rattle.panel.specs.declared.sheet.Sheet.{Sheet}
use Rattle.panel.specs.declared.refusal.SheetRefusal.{SheetRefusal}
use Rattle.panel.specs.declared.refusal.SheetRefusal.TheVariants as refusal
use Rattle.panel.specs.Sizes.{panel_size}

pub record Blank (s : Sheet) : Type 0 where
  pub size_is : s.size ≡ record { width = 1; height = 1; layers = 1 }
  pub classes_is : s.classes ≡ replicate 16 None

abbrev pub size_answer : Size → Result (Unit {0}) SheetRefusal
size_answer size = cond (panel_size size) (Ok tt) (Err refusal.Size)

pub record Resized (before : Sheet) (size : Size) (after : Sheet) : Type 0 where
  pub size_is : after.size ≡ size
  pub classes_is : after.classes ≡ before.classes

abbrev pub class_answer : ℕ → Measures → Result (Unit {0}) SheetRefusal
class_answer number m = cond (ranges 1 16 number && class_measures m.half m.space m.pad) (Ok tt) (Err refusal.Class)

-- The class of the number 1 stands first.
pub record Reclassed (before : Sheet) (number : ℕ) (m : Measures) (after : Sheet) : Type 0 where
  pub size_is : after.size ≡ before.size
  pub class : Class
  pub measures_is : HasMeasures m.half m.space m.pad class
  pub classes_is : after.classes ≡ slice_set before.classes (number - 1) (Some class)
