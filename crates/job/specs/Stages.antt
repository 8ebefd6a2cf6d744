-- Which line is in turn at which stage of a job, what it comes to and which stage follows. Assumes nothing.
--     in_turn stage verb       lines of this kind are in turn
--     line_says verb ..        what the words behind the first one come to: nothing more, a call, or a refusal
--     answer_of stage bytes    what a line comes to at a stage
--     stage_after stage bytes  the stage behind it
use Rattle.std.specs.Prelude.{ℕ, Bool, cond, List, [], ◌∷◌, length, Some, None, Ok, Err, Option, Result, ◌==◌, nat_lt}
use Rattle.costs.specs.Rows.{row_answer}
use Rattle.costs.specs.declared.prices.RowRefusal.{RowRefusal}
use Rattle.panel.specs.Sheets.{size_answer, class_answer}
use Rattle.panel.specs.declared.calls.Call.{Call}
use Rattle.panel.specs.declared.calls.Call.TheVariants as calls
use Rattle.panel.specs.declared.refusal.SheetRefusal.{SheetRefusal}
use Rattle.panel.specs.declared.refusal.SheetRefusal.TheVariants.{Prices}
use Rattle.job.specs.declared.reader.Unreadable.{Unreadable}
use Rattle.job.specs.declared.forms.Verb.{Verb}
use Rattle.job.specs.declared.forms.Verb.TheVariants as verbs
use Rattle.job.specs.declared.setup.Stage.{Stage}
use Rattle.job.specs.declared.setup.Stage.TheVariants as stages
use Rattle.job.specs.declared.refused.Refused.{Refused}
use Rattle.job.specs.declared.refused.Refused.TheVariants.{ByJob, BySheet}
use Rattle.job.specs.Text.{WordAt, words}
use Rattle.job.specs.Reading.{unreadable, read_end}
use Rattle.job.specs.Forms.{verb, at_end, panel_line, layer_line, class_line, place_line, lift_line}

abbrev pub rank : Stage → ℕ
rank stages.Start = 0
rank stages.Setup = 1
rank stages.Open = 2

-- the stage at which lines of a kind are in turn
abbrev pub stage_of : Verb → Stage
stage_of verbs.Panel = stages.Start
stage_of verbs.Layer = stages.Setup
stage_of verbs.Class = stages.Setup
stage_of verbs.Open = stages.Setup
stage_of verbs.Place = stages.Open
stage_of verbs.Lift = stages.Open
stage_of verbs.Quote = stages.Open
stage_of verbs.Connect = stages.Open

abbrev pub in_turn : Stage → Verb → Bool
in_turn s v = rank s == rank (stage_of v)

-- a line that cannot be read, or is out of turn
abbrev pub refused_at : {X : Type 0} → ℕ → Result X Refused
refused_at place = Err (ByJob (unreadable place))

-- A setting comes to nothing more, unless the line cannot be read or the sheet turns it down.
abbrev pub settled : Result (Unit {0}) SheetRefusal → Result (Option Call) Refused
settled (Ok u) = Ok None
settled (Err e) = Err (BySheet e)

abbrev pub setting : {X : Type 0} → Result X Unreadable → (X → Result (Unit {0}) SheetRefusal) → Result (Option Call) Refused
setting (Ok x) answer = settled (answer x)
setting (Err e) answer = Err (ByJob e)

-- the refusal of a price row is one of the sheet
abbrev pub by_prices : Result (Unit {0}) RowRefusal → Result (Unit {0}) SheetRefusal
by_prices (Ok u) = Ok u
by_prices (Err e) = Err (Prices e)

abbrev pub calling : {X : Type 0} → Result X Unreadable → (X → Call) → Result (Option Call) Refused
calling (Ok x) call = Ok (Some (call x))
calling (Err e) call = Err (ByJob e)

abbrev pub line_says : Verb → ℕ → List WordAt → Result (Option Call) Refused
line_says verbs.Panel end ws = setting (panel_line end ws) (λ l. size_answer l.size)
line_says verbs.Layer end ws = setting (layer_line end ws) (λ l. by_prices (row_answer l.layer l.u l.v l.t))
line_says verbs.Class end ws = setting (class_line end ws) (λ l. class_answer l.number l.measures)
line_says verbs.Open end ws = setting (at_end (read_end ws) tt) (λ u. Ok u)
line_says verbs.Place end ws = calling (place_line end ws) calls.Place
line_says verbs.Lift end ws = calling (lift_line end ws) calls.Lift
line_says verbs.Quote end ws = refused_at 0
line_says verbs.Connect end ws = refused_at 0

-- A line out of turn, and one with no such first word, does not fit from its beginning on.
abbrev pub by_verb : Stage → Option Verb → ℕ → List WordAt → Result (Option Call) Refused
by_verb s None end ws = refused_at 0
by_verb s (Some v) end ws = cond (in_turn s v) (line_says v end ws) (refused_at 0)

abbrev pub by_words : Stage → ℕ → List WordAt → Result (Option Call) Refused
by_words s end [] = refused_at 0
by_words s end (w ∷ ws) = by_verb s (verb w.bytes) end ws

-- A line of more than 80 bytes is refused whatever it says.
abbrev pub answer_of : Stage → List ℕ → Result (Option Call) Refused
answer_of s bytes = cond (nat_lt 80 (length bytes)) (refused_at 80) (by_words s (length bytes) (words 0 bytes))

-- An accepted panel line and an accepted open line lead on to the next stage.
abbrev pub led_on : Stage → Verb → Stage
led_on s verbs.Panel = stages.Setup
led_on s verbs.Layer = s
led_on s verbs.Class = s
led_on s verbs.Open = stages.Open
led_on s verbs.Place = s
led_on s verbs.Lift = s
led_on s verbs.Quote = s
led_on s verbs.Connect = s

abbrev pub led_on_by : Stage → List WordAt → Stage
led_on_by s [] = s
led_on_by s (w ∷ ws) = elim (verb w.bytes) [ None ↦ s | Some v ↦ led_on s v ]

abbrev pub led_on_if : Stage → List WordAt → Result (Option Call) Refused → Stage
led_on_if s ws (Ok o) = led_on_by s ws
led_on_if s ws (Err e) = s

abbrev pub stage_after : Stage → List ℕ → Stage
stage_after s bytes = led_on_if s (words 0 bytes) (answer_of s bytes)
