-- What the lines of a job come to, one behind the other. Assumes nothing.
--     said stage n lines     what each line that is answered comes to, where the first has the number n
--     calls_in saids         the calls among that
--     Told s lines t         the lines, from the settings s on, lead to the settings t
use Rattle.std.specs.Prelude.{◌≡◌, ℕ, ◌+◌, List, [], ◌∷◌, ◌++◌, Some, None, Ok, Err, Option, Result, MatchResult}
use Rattle.std.specs.List.{filter_map}
use Rattle.std.specs.Result.{result_ok}
use Rattle.panel.specs.declared.calls.Call.{Call}
use Rattle.job.specs.declared.refused.Refused.{Refused}
use Rattle.job.specs.declared.said.Said.{Said}
use Rattle.job.specs.declared.setup.Stage.{Stage}
use Rattle.job.specs.declared.setup.Setup.{Setup}
use Rattle.job.specs.Stages.{answer_of, stage_after}
use Rattle.job.specs.Settings.{SetBy}

-- An accepted setting is not answered.
abbrev pub replied : ℕ → Result (Option Call) Refused → List Said
replied n (Ok None) = []
replied n (Ok (Some call)) = record { line = n; reply = Ok call } ∷ []
replied n (Err e) = record { line = n; reply = Err e } ∷ []

abbrev pub said : Stage → ℕ → List (List ℕ) → List Said
said s n [] = []
said s n (l ∷ ls) = replied n (answer_of s l) ++ said (stage_after s l) (n + 1) ls

abbrev pub calls_in : List Said → List Call
calls_in = filter_map (λ s. result_ok s.reply)

-- what one line does to the settings
pub record LineTold (s : Setup) (l : List ℕ) (t : Setup) : Type 0 where
  pub stage_is : t.stage ≡ stage_after s.stage l
  pub set_is : MatchResult (answer_of s.stage l) (λ _. SetBy l s t) (λ _. t ≡ s)

abbrev pub Told : Setup → List (List ℕ) → Setup → Type 0
Told s [] t = t ≡ s
Told s (l ∷ ls) t = (u : Setup) × LineTold s l u × Told u ls t
