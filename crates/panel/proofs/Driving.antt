-- A run that is made call by call. Assumes nothing.
use Rattle.std.proofs.Common.{◌≡◌, ℕ, List, [], ◌∷◌, ◌++◌, map, sym, refl, ap, ◌∙◌, subst, Result, Ok, Err, MatchResult}
use Rattle.std.specs.Result.{IsOkAnd, result_map_both}
use Rattle.std.proofs.lemmas.List.{map_push}
use Rattle.std.proofs.lemmas.List.Sums.{fold_push}
use Rattle.panel.specs.declared.sheet.Sheet.{Sheet}
use Rattle.panel.specs.declared.calls.Call.{Call}
use Rattle.panel.specs.declared.calls.Done.{Done}
use Rattle.panel.specs.declared.refusal.Refusal.{Refusal}
use Rattle.panel.specs.Panels.{PanelState, opened, leaving}
use Rattle.panel.specs.Runs.{Event, next, told_from, RunFrom, call_of, answer_of, Made, Driven}
use Rattle.panel.proofs.Keeping.{run_more, runs_keep}

-- what is made of a call's answer
pub mapped :
    (done : ℕ → Done) (r : Result ℕ Refusal) (b : Result Done Refusal)
    → MatchResult r (λ n. IsOkAnd b (λ d. d ≡ done n)) (λ e. b ≡ Err e) → result_map_both done (λ e. e) r ≡ b
mapped done (Ok n) (Ok d) h = sym (ap Ok h)
mapped done (Ok n) (Err e) h = absurd h
mapped done (Err e) b h = sym h

-- the calls that were made on a panel from first on, and what it is then
pub record SoFar {K : Type 0} (first : PanelState K) (calls : List Call) (answers : List (Result Done Refusal)) (now : PanelState K) : Type 0 where
  pub events : List Event
  pub of_calls : map call_of events ≡ calls
  pub of_answers : map answer_of events ≡ answers
  pub run : RunFrom first.sheet first.places first.standing events
  pub leaves : now ≡ leaving (told_from first.standing events) first

module _ {K : Type 0} where
  pub none_so_far : (first : PanelState K) → SoFar first [] [] first
  none_so_far first = record { events = []; of_calls = refl; of_answers = refl; run = tt; leaves = refl }

  pub so_far_more :
      {first now then : PanelState K} {calls : List Call} {answers : List (Result Done Refusal)} {call : Call} {answer : Result Done Refusal}
      → SoFar first calls answers now → Made now call answer then
      → SoFar first (calls ++ (call ∷ [])) (answers ++ (answer ∷ [])) then
  so_far_more {first} {now} {then} {calls} {answers} {call} {answer} f made =
      let m : Made (leaving (told_from first.standing f.events) first) call answer then =
      subst (λ p. Made p call answer then) f.leaves made in
      record {
        events = f.events ++ (m.event ∷ []);
        of_calls = map_push call_of f.events m.event ∙ (ap (λ cs. cs ++ (call_of m.event ∷ [])) f.of_calls ∙ ap (λ c. calls ++ (c ∷ [])) m.of_call);
        of_answers = map_push answer_of f.events m.event ∙ (ap (λ bs. bs ++ (answer_of m.event ∷ [])) f.of_answers ∙ ap (λ a. answers ++ (a ∷ [])) m.of_answer);
        run = run_more first.sheet first.places first.standing f.events m.event f.run m.is_right;
        leaves = m.leaves ∙ ap (λ st. leaving st first) (sym (fold_push next first.standing f.events m.event));
      }

  pub driven_by :
      {s : Sheet} {kind : K} {places : ℕ} {calls : List Call} {answers : List (Result Done Refusal)} {first now : PanelState K}
      → first ≡ opened s kind places → SoFar first calls answers now → Driven s places calls answers
  driven_by {s} {kind} {places} {calls} {answers} {first} {now} e so_far =
      let f : SoFar (opened s kind places) calls answers now = subst (λ p. SoFar p calls answers now) e so_far in
      record {
        events = f.events;
        of_calls = f.of_calls;
        of_answers = f.of_answers;
        run = f.run;
        promise = runs_keep places s f.events f.run;
      }
