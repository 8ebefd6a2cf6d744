-- What a job is answered with. Assumes nothing.
use Rattle.std.specs.Prelude.{◌≡◌, ℕ, List, length, Result, MatchBool, nat_lt}
use Rattle.panel.specs.declared.calls.Done.{Done}
use Rattle.panel.specs.declared.refusal.Refusal.{Refusal}
use Rattle.panel.specs.Runs.{Driven}
use Rattle.job.specs.declared.setup.Setup.{Setup}
use Rattle.job.specs.declared.setup.Stage.TheVariants.{Start}
use Rattle.job.specs.Text.{lines}
use Rattle.job.specs.Said.{said, calls_in, Told}
use Rattle.job.specs.Scripts.{Unset}
use Rattle.job.specs.Written.{text_of, long_text}

-- The text is, line for line, what the lines of the job are answered with, where the calls among them and their answers are a run
-- on a panel of 256 places, opened from what the lines before it set.
pub record Transcript (job text : List ℕ) : Type 0 where
  pub unset : Setup
  pub unset_is : Unset unset
  pub setup : Setup
  pub told : Told unset (lines job) setup
  pub answers : List (Result Done Refusal)
  pub driven : Driven setup.sheet 256 (calls_in (said Start 1 (lines job))) answers
  pub text_is : text ≡ text_of (said Start 1 (lines job)) answers

-- A long job is not read.
abbrev pub JobAnswered : List ℕ → List ℕ → Type 0
JobAnswered job text = MatchBool (nat_lt 65536 (length job)) (text ≡ long_text) (Transcript job text)
