-- What the lines of a job say: their first words, and what the words behind it are read as. Assumes nothing.
--     verb bytes               the kind of a line, by its first word
--     read_all k end words     k numbers and no word behind them
--     ..-line end words        what the words behind the first one say, or the place of what does not fit
use Rattle.std.specs.Prelude.{ℕ, cond, List, drop, Some, None, Ok, Err, codes, Option, Result, slice_index}
use Rattle.std.specs.Str.{bytes_eq}
use Rattle.panel.specs.declared.calls.Placement.{Placement}
use Rattle.job.specs.declared.reader.Unreadable.{Unreadable}
use Rattle.job.specs.declared.forms.Verb.{Verb}
use Rattle.job.specs.declared.forms.Verb.TheVariants.{Panel, Layer, Class, Open, Place, Lift, Quote, Connect}
use Rattle.job.specs.declared.forms.CostChoice.{CostChoice}
use Rattle.job.specs.declared.forms.CostChoice.TheVariants.{Money, Vias}
use Rattle.job.specs.declared.forms.RegisterChoice.{RegisterChoice}
use Rattle.job.specs.declared.forms.RegisterChoice.TheVariants.{Plain, Strips}
use Rattle.job.specs.declared.forms.PanelLine.{PanelLine}
use Rattle.job.specs.declared.forms.LayerLine.{LayerLine}
use Rattle.job.specs.declared.forms.ClassLine.{ClassLine}
use Rattle.job.specs.Text.{WordAt}
use Rattle.job.specs.Reading.{read_by, then_read, read_numbers, read_end}

-- a value, if the bytes are its word; else what they name among the others
abbrev pub named : {X : Type 0} → List ℕ → List ℕ → X → Option X → Option X
named bs word x others = cond (bytes_eq bs word) (Some x) others

abbrev pub verb : List ℕ → Option Verb
verb bs =
    named bs (codes "panel") Panel (named bs (codes "layer") Layer (named bs (codes "class") Class (named bs (codes "open") Open
    (named bs (codes "place") Place (named bs (codes "lift") Lift (named bs (codes "quote") Quote (named bs (codes "connect") Connect None)))))))

-- the letters of the kinds of cost, and those of the registers
abbrev pub cost_choice : List ℕ → Option CostChoice
cost_choice bs = named bs (codes "m") Money (named bs (codes "v") Vias None)

abbrev pub register_choice : List ℕ → Option RegisterChoice
register_choice bs = named bs (codes "p") Plain (named bs (codes "s") Strips None)

-- a value, where no word is left
abbrev pub at_end : {X : Type 0} → Option Unreadable → X → Result X Unreadable
at_end None x = Ok x
at_end (Some e) x = Err e

abbrev pub read_all : ℕ → ℕ → List WordAt → Result (List ℕ) Unreadable
read_all k end ws = then_read (read_numbers k end ws) (λ ns. at_end (read_end (drop k ws)) ns)

abbrev pub panel_line : ℕ → List WordAt → Result PanelLine Unreadable
panel_line end ws =
    then_read (read_numbers 3 end ws) (λ ns.
    then_read (read_by cost_choice end (drop 3 ws)) (λ c.
    then_read (read_by register_choice end (drop 4 ws)) (λ r.
    at_end (read_end (drop 5 ws))
    (record { size = record { width = slice_index ns 0; height = slice_index ns 1; layers = slice_index ns 2 }; cost = c; register = r }))))

abbrev pub layer_line : ℕ → List WordAt → Result LayerLine Unreadable
layer_line end ws =
    then_read (read_all 4 end ws) (λ ns. Ok (record { layer = slice_index ns 0; u = slice_index ns 1; v = slice_index ns 2; t = slice_index ns 3 }))

abbrev pub class_line : ℕ → List WordAt → Result ClassLine Unreadable
class_line end ws =
    then_read (read_all 4 end ws) (λ ns. Ok (record { number = slice_index ns 0; measures = record { half = slice_index ns 1; space = slice_index ns 2; pad = slice_index ns 3 } }))

abbrev pub place_line : ℕ → List WordAt → Result Placement Unreadable
place_line end ws =
    then_read (read_all 7 end ws) (λ ns. Ok (record {
      layer = slice_index ns 0;
      x1 = slice_index ns 1;
      y1 = slice_index ns 2;
      x2 = slice_index ns 3;
      y2 = slice_index ns 4;
      net = slice_index ns 5;
      space = slice_index ns 6;
    }))

abbrev pub lift_line : ℕ → List WordAt → Result ℕ Unreadable
lift_line end ws = then_read (read_all 1 end ws) (λ ns. Ok (slice_index ns 0))
