-- How the answers of a job are written. Assumes nothing.
use Rattle.std.specs.Prelude.{ℕ, List, [], ◌∷◌, ◌++◌, drop, Some, None, Ok, Err, Option, Result, codes, decimal}
use Rattle.std.specs.Result.{result_map_both}
use Rattle.panel.specs.declared.refusal.Level.{Level}
use Rattle.panel.specs.declared.refusal.Level.TheVariants.{Job, Sheet, Panel}
use Rattle.panel.specs.declared.refusal.Shown.{Shown}
use Rattle.panel.specs.declared.calls.Call.{Call}
use Rattle.panel.specs.declared.calls.Done.{Done}
use Rattle.panel.specs.declared.calls.Done.TheVariants.{Placed, Lifted}
use Rattle.panel.specs.declared.refusal.Refusal.{Refusal}
use Rattle.job.specs.declared.refused.Refused.{Refused}
use Rattle.job.specs.declared.refused.Refused.TheVariants.{ByPanel}
use Rattle.job.specs.declared.said.Said.{Said}
use Rattle.job.specs.Refused.{shown}

abbrev pub level_word : Level → List ℕ
level_word Job = codes "job"
level_word Sheet = codes "sheet"
level_word Panel = codes "panel"

-- "no", the refusal's number, the number of the line, the level and the returned number
abbrev pub refusal_text : ℕ → Shown → List ℕ
refusal_text line s =
    codes "no " ++ (decimal s.number ++ (codes " " ++ (decimal line ++ (codes " " ++ (level_word s.level ++ (codes " "
    ++ (decimal s.returned ++ codes "\n")))))))

-- "ok" and one number
abbrev pub number_text : ℕ → List ℕ
number_text n = codes "ok " ++ (decimal n ++ codes "\n")

-- the line that tells what a call did, or why a line or its call is refused
abbrev pub outcome_text : ℕ → Result Done Refused → List ℕ
outcome_text line (Ok (Placed job)) = number_text job
outcome_text line (Ok (Lifted count)) = number_text count
outcome_text line (Err e) = refusal_text line (shown e)

-- What one line comes to, where these are the answers of the calls from here on; its text; and the answers behind it.
abbrev pub outcome : Result Call Refused → List (Result Done Refusal) → Option (Result Done Refused)
outcome (Err e) left = Some (Err e)
outcome (Ok call) [] = None
outcome (Ok call) (a ∷ left) = Some (result_map_both (λ done. done) ByPanel a)

abbrev pub reply_text : ℕ → Result Call Refused → List (Result Done Refusal) → List ℕ
reply_text line r left = elim (outcome r left) [ None ↦ [] | Some o ↦ outcome_text line o ]

abbrev pub answers_left : Result Call Refused → List (Result Done Refusal) → List (Result Done Refusal)
answers_left (Err e) left = left
answers_left (Ok call) left = drop 1 left

-- what all lines are answered with, line for line
abbrev pub text_of : List Said → List (Result Done Refusal) → List ℕ
text_of [] left = []
text_of (s ∷ rest) left = reply_text s.line s.reply left ++ text_of rest (answers_left s.reply left)

-- A job of more than 65,536 bytes is answered with one line.
abbrev pub long_text : List ℕ
long_text = codes "no 16 0 job 65536\n"
