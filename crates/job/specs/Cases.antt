-- Short jobs and what they are answered with, as rows. Assumes nothing.
use Rattle.std.specs.Prelude.{◌≡◌, ℕ, Bool, true, List, [], ◌∷◌, ◌++◌, Ok, Err, Result, codes}
use Rattle.std.specs.Str.{bytes_eq}
use Rattle.geometry.specs.Lists.{all_of}
use Rattle.panel.specs.declared.calls.Done.{Done}
use Rattle.panel.specs.declared.calls.Done.TheVariants.{Placed, Lifted}
use Rattle.panel.specs.declared.refusal.Refusal.{Refusal}
use Rattle.panel.specs.declared.refusal.Refusal.TheVariants.{OffPanel, NoSuchJob}
use Rattle.job.specs.declared.setup.Stage.TheVariants.{Start}
use Rattle.job.specs.Text.{lines}
use Rattle.job.specs.Said.{said}
use Rattle.job.specs.Written.{text_of}

-- A row: a job, the answers of its calls, and the text that it is answered with.
pub record Row : Type 0 where
  pub job : List ℕ
  pub answers : List (Result Done Refusal)
  pub text : List ℕ

abbrev row : List ℕ → List (Result Done Refusal) → List ℕ → Row
row job answers text = record { job = job; answers = answers; text = text }

-- a job that opens a panel, and goes on so
abbrev opened : List ℕ → List ℕ
opened more = codes "panel 9 9 1 m p\nopen\n" ++ more

abbrev pub rows : List Row
rows =
    -- no line, an empty line, a line without a newline
    row [] [] []
    ∷ row (codes "\n") [] (codes "no 16 1 job 0\n")
    ∷ row (codes "open") [] (codes "no 16 1 job 0\n")
    -- out of turn, and in turn once a panel line is accepted; an accepted setting is not answered
    ∷ row (codes "layer 1 1 1 1\npanel 9 9 1 m p\nlayer 1 1 1 1\n") [] (codes "no 16 1 job 0\n")
    ∷ row (codes "panel 9 9 1 m p\npanel 9 9 1 m p\n") [] (codes "no 16 2 job 0\n")
    -- the place of what does not fit: a letter, a needless zero, eight digits, an empty word, a word too many
    ∷ row (codes "panel 9 9 1 x p\n") [] (codes "no 16 1 job 12\n")
    ∷ row (codes "panel 9 09 1 m p\n") [] (codes "no 16 1 job 8\n")
    ∷ row (codes "panel 12345678 9 1 m p\n") [] (codes "no 16 1 job 6\n")
    ∷ row (codes "panel  9 9 1 m p\n") [] (codes "no 16 1 job 6\n")
    ∷ row (codes "panel 9 9 1 m p \n") [] (codes "no 16 1 job 16\n")
    -- a missing word has the line's length as its place
    ∷ row (codes "panel 9 9 1 m\n") [] (codes "no 16 1 job 13\n")
    -- a number out of range is refused by the sheet, unless a later word does not fit
    ∷ row (codes "panel 0 9 1 m p\n") [] (codes "no 1 1 sheet 0\n")
    ∷ row (codes "panel 0 9 1 m p 1\n") [] (codes "no 16 1 job 16\n")
    ∷ row (codes "panel 9 9 1 v s\nlayer 9 0 0 0\nclass 1 0 0 0\n") [] (codes "no 2 2 sheet 0\nno 3 3 sheet 0\n")
    -- calls and their answers, with a line that cannot be read among them
    ∷ row (opened (codes "place 1 1 1 5 5 0 0\nplaces\nlift 1\nlift 1")) (Ok (Placed 1) ∷ Ok (Lifted 1) ∷ Err NoSuchJob ∷ [])
    (codes "ok 1\nno 16 4 job 0\nok 1\nno 9 6 panel 0\n")
    ∷ row (opened (codes "place 1 1 1 10 5 0 0\nopen\n")) (Err OffPanel ∷ []) (codes "no 5 3 panel 0\nno 16 4 job 0\n")
    ∷ []

abbrev pub holds : Row → Bool
holds w = bytes_eq (text_of (said Start 1 (lines w.job)) w.answers) w.text

abbrev pub WorkedJobs : Type 0
WorkedJobs = all_of holds rows ≡ true
