-- Runs of calls on one panel, what stands after them, and what is promised of each run. Assumes nothing.
--     Event                a call with its answer
--     told events          what stands after a run, told by the calls and their answers alone
--     Run events           each answer is right where that stands which the events before it tell
--     Promise events       different nets keep their clearance, from the opening on
--     Driven               the calls that were made, with the answers given, are such a run
use Rattle.std.specs.Prelude.{◌≡◌, ℕ, T, List, [], ◌∷◌, map, Result, fold}
use Rattle.std.specs.Result.{result_map_both}
use Rattle.geometry.specs.Clearance.{clear}
use Rattle.panel.specs.declared.sheet.Sheet.{Sheet}
use Rattle.panel.specs.declared.calls.Placement.{Placement}
use Rattle.panel.specs.declared.calls.Call.{Call}
use Rattle.panel.specs.declared.calls.Call.TheVariants.{Place, Lift}
use Rattle.panel.specs.declared.calls.Done.{Done}
use Rattle.panel.specs.declared.calls.Done.TheVariants.{Placed, Lifted}
use Rattle.panel.specs.declared.refusal.Refusal.{Refusal}
use Rattle.panel.specs.Standing.{Standing, nothing_stands, after_place, after_lift}
use Rattle.panel.specs.Panels.{PanelState, leaving}
use Rattle.panel.specs.Calls.{PlaceAnswer, LiftAnswer}

pub data Event : Type 0 where
  placing : Placement → Result ℕ Refusal → Event
  lifting : ℕ → Result ℕ Refusal → Event

-- what stands after an event
abbrev pub next : Standing → Event → Standing
next st (placing a answer) = after_place st a answer
next st (lifting job answer) = after_lift st job answer

abbrev pub told_from : Standing → List Event → Standing
told_from = fold next

-- from the opening on
abbrev pub told : List Event → Standing
told = told_from nothing_stands

-- The answer of an event is right where st stands, on a panel of this sheet with so many places.
abbrev pub Answered : Sheet → ℕ → Standing → Event → Type 0
Answered s places st (placing a answer) = PlaceAnswer s places st a answer
Answered s places st (lifting job answer) = LiftAnswer st job answer

abbrev pub RunFrom : Sheet → ℕ → Standing → List Event → Type 0
RunFrom s places st [] = Unit {0}
RunFrom s places st (e ∷ es) = Answered s places st e × RunFrom s places (next st e) es

abbrev pub Run : Sheet → ℕ → List Event → Type 0
Run s places = RunFrom s places nothing_stands

-- Two standing pieces of different nets on one layer, at least one of them laid, lie apart by the larger of their spaces: before
-- each event and after the last one.
abbrev pub PromiseFrom : Standing → List Event → Type 0
PromiseFrom st [] = T (clear st.pieces)
PromiseFrom st (e ∷ es) = T (clear st.pieces) × PromiseFrom (next st e) es

abbrev pub Promise : List Event → Type 0
Promise = PromiseFrom nothing_stands

-- Every run keeps the promise.
abbrev pub RunsKeepThePromise : ℕ → Type 0
RunsKeepThePromise places = (s : Sheet) (es : List Event) → Run s places es → Promise es

-- ---- A run that a driver makes

abbrev pub call_of : Event → Call
call_of (placing a answer) = Place a
call_of (lifting job answer) = Lift job

abbrev pub answer_of : Event → Result Done Refusal
answer_of (placing a answer) = result_map_both Placed (λ e. e) answer
answer_of (lifting job answer) = result_map_both Lifted (λ e. e) answer

-- One call was made on a panel, with this answer, and leaves it as it is after.
pub record Made {K : Type 0} (before : PanelState K) (call : Call) (answer : Result Done Refusal) (after : PanelState K) : Type 0 where
  pub event : Event
  pub of_call : call_of event ≡ call
  pub of_answer : answer_of event ≡ answer
  pub is_right : Answered before.sheet before.places before.standing event
  pub leaves : after ≡ leaving (next before.standing event) before

pub record Driven (s : Sheet) (places : ℕ) (calls : List Call) (answers : List (Result Done Refusal)) : Type 0 where
  pub events : List Event
  pub of_calls : map call_of events ≡ calls
  pub of_answers : map answer_of events ≡ answers
  pub run : Run s places events
  pub promise : Promise events
