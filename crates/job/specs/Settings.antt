-- What an accepted line of a job sets. Assumes nothing.
use Rattle.std.specs.Prelude.{◌≡◌, ℕ, List, [], ◌∷◌, length, IfOk, Option, Result, MatchOption, MatchResult, OnOk}
use Rattle.costs.specs.Rows.{rows_after}
use Rattle.panel.specs.Sheets.{Resized, Reclassed}
use Rattle.panel.specs.declared.calls.Call.{Call}
use Rattle.job.specs.declared.refused.Refused.{Refused}
use Rattle.job.specs.declared.forms.Verb.{Verb}
use Rattle.job.specs.declared.forms.Verb.TheVariants as verbs
use Rattle.job.specs.declared.forms.PanelLine.{PanelLine}
use Rattle.job.specs.declared.forms.LayerLine.{LayerLine}
use Rattle.job.specs.declared.forms.ClassLine.{ClassLine}
use Rattle.job.specs.declared.reader.WordReader.{WordReader}
use Rattle.job.specs.declared.setup.Setup.{Setup}
use Rattle.job.specs.Text.{WordAt, words}
use Rattle.job.specs.Reading.{left, of_words}
use Rattle.job.specs.Forms.{verb, panel_line, layer_line, class_line}
use Rattle.job.specs.Stages.{led_on}

-- all but the stage
pub record SettingsStay (before after : Setup) : Type 0 where
  pub sheet_is : after.sheet ≡ before.sheet
  pub prices_is : after.prices ≡ before.prices
  pub cost_is : after.cost ≡ before.cost
  pub register_is : after.register ≡ before.register

pub record PanelSet (before : Setup) (l : PanelLine) (after : Setup) : Type 0 where
  pub sheet_is : Resized before.sheet l.size after.sheet
  pub prices_is : after.prices ≡ before.prices
  pub cost_is : after.cost ≡ l.cost
  pub register_is : after.register ≡ l.register

pub record LayerSet (before : Setup) (l : LayerLine) (after : Setup) : Type 0 where
  pub sheet_is : after.sheet ≡ before.sheet
  pub prices_is : after.prices ≡ rows_after before.prices l.layer l.u l.v l.t
  pub cost_is : after.cost ≡ before.cost
  pub register_is : after.register ≡ before.register

pub record ClassSet (before : Setup) (l : ClassLine) (after : Setup) : Type 0 where
  pub sheet_is : Reclassed before.sheet l.number l.measures after.sheet
  pub prices_is : after.prices ≡ before.prices
  pub cost_is : after.cost ≡ before.cost
  pub register_is : after.register ≡ before.register

-- what the words behind the first one set, where the line is accepted
abbrev pub LineSet : Verb → ℕ → List WordAt → Setup → Setup → Type 0
LineSet verbs.Panel end ws s t = IfOk (panel_line end ws) (λ l. PanelSet s l t)
LineSet verbs.Layer end ws s t = IfOk (layer_line end ws) (λ l. LayerSet s l t)
LineSet verbs.Class end ws s t = IfOk (class_line end ws) (λ l. ClassSet s l t)
LineSet verbs.Open end ws s t = SettingsStay s t
LineSet verbs.Place end ws s t = SettingsStay s t
LineSet verbs.Lift end ws s t = SettingsStay s t
LineSet verbs.Quote end ws s t = SettingsStay s t
LineSet verbs.Connect end ws s t = SettingsStay s t

-- What a line answered with r sets, by the words that a reader has left behind the first. A refusal changes nothing.
abbrev pub Sets : {X Y : Type 0} → Verb → WordReader → Result X Y → Setup → Setup → Type 0
Sets v w r s t = MatchResult r (λ _. LineSet v (length w.line.now) (left w) s t) (λ _. t ≡ s)

-- What taking a line of the kind v comes to, by the words behind the first: what `says` makes of them, what is set, and the stage
-- that an accepted line leads on to.
pub record Taken (says : ℕ → List WordAt → Result (Option Call) Refused) (v : Verb) (w : WordReader) (r : Result (Option Call) Refused) (s t : Setup) : Type 0 where
  pub answer_is : r ≡ of_words says w
  pub set_is : Sets v w r s t
  pub stage_is : OnOk r (t.stage ≡ led_on s.stage v)

-- what is set, by all words of the line
abbrev pub WordsSet : ℕ → List WordAt → Setup → Setup → Type 0
WordsSet end [] s t = ⊥
WordsSet end (w ∷ ws) s t = MatchOption (verb w.bytes) ⊥ (λ v. LineSet v end ws s t)

abbrev pub SetBy : List ℕ → Setup → Setup → Type 0
SetBy bytes = WordsSet (length bytes) (words 0 bytes)
