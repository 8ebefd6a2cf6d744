-- What a reader of lines and a reader of words hand out, and what a line's words are read as, one behind the other. Assumes nothing.
--     lines_left r             the lines that a reader of lines has still to hand out
--     NextLine r line r'       the next of them, with its place in the job
--     left w                   the words that a reader of words has still to hand out
--     NextWord w word w'       the next of them
--     of_words f w             what f makes of the line's length and these words
--     read-.. end words        what the first of some words is read as, or the place of what does not fit; `end` is the line's
--                              length, which is the place of a word that is missing
use Rattle.std.specs.Prelude.{◌≡◌, ℕ, zero, suc, ◌+◌, ◌<◌, ◌≤◌, min, Bool, true, false, cond, List, [], ◌∷◌, ◌++◌, length, drop, Some, None, Ok, Err, Option, Result, MatchOption, OnSome}
use Rattle.std.specs.Str.{bytes_eq}
use Rattle.std.specs.Fn.{FnOnceReturnsAt}
use Rattle.std.specs.Option.{ok_or}
use denote.Param.Members.{Once}
use denote.Ref.{Bor}
use Rattle.job.specs.declared.reader.WordReader.{WordReader}
use Rattle.job.specs.declared.reader.Unreadable.{Unreadable}
use Rattle.job.specs.declared.reader.Part.{Part}
use Rattle.job.specs.declared.lines.LineReader.{LineReader}
use Rattle.job.specs.Text.{lines, WordAt, word_at, words}
use Rattle.job.specs.Numbers.{number}

abbrev pub lines_left : LineReader → List (List ℕ)
lines_left r = lines (drop r.next r.job.now)

-- The next line is handed out, and the one behind it begins behind its newline; none is handed out where none is left.
pub record NextLine (r : LineReader) (line : Option Part) (r' : LineReader) : Type 0 where
  pub lines_is : MatchOption line (lines_left r ≡ []) (λ l. lines_left r ≡ l.text.now ∷ lines_left r')
  pub place_is : MatchOption line (r'.next ≡ r.next) (λ l. (l.place ≡ r.next) × (r'.next ≡ min (l.place + length l.text.now + 1) (length r.job.now)))
  pub further : OnSome line ((r.next < r'.next) × (r'.next ≤ length r.job.now))
  pub job_is : r'.job.now ≡ r.job.now

-- the words of a line from a place on, if there is one
abbrev pub words_from : List ℕ → Option ℕ → List WordAt
words_from line None = []
words_from line (Some place) = words place (drop place line)

abbrev pub left : WordReader → List WordAt
left w = words_from w.line.now w.next

-- The next word is handed out, with its place; none is where none is left.
pub record NextWord (w : WordReader) (word : Option Part) (w' : WordReader) : Type 0 where
  pub words_is : MatchOption word ((left w ≡ []) × (left w' ≡ [])) (λ found. left w ≡ word_at found.place found.text.now ∷ left w')
  pub line_is : w'.line.now ≡ w.line.now

-- what is made of a line's length and the words that a reader has left
abbrev pub of_words : {X : Type 0} → (ℕ → List WordAt → X) → WordReader → X
of_words f w = f (length w.line.now) (left w)

abbrev pub unreadable : ℕ → Unreadable
unreadable n = record { place = n }

-- What a call of f answers at a word is what `value` says.
abbrev pub Computes : {F X : Type 0} → Once F (Bor (List ℕ) × Unit {0}) (Option X) → F → (List ℕ → Option X) → Type 0
Computes g f value = (word : List ℕ) (x : Option _) → FnOnceReturnsAt g f word x → x ≡ value word

-- what the first word is, by what its bytes stand for
abbrev pub read_by : {X : Type 0} → (List ℕ → Option X) → ℕ → List WordAt → Result X Unreadable
read_by value end [] = Err (unreadable end)
read_by value end (w ∷ ws) = ok_or (value w.bytes) (unreadable w.place)

-- what is read further on, where what stands before it fits
abbrev pub then_read : {X Y : Type 0} → Result X Unreadable → (X → Result Y Unreadable) → Result Y Unreadable
then_read (Ok x) more = more x
then_read (Err e) more = Err e

-- some numbers in front of what is read behind them, unless that does not fit
abbrev pub behind : List ℕ → Result (List ℕ) Unreadable → Result (List ℕ) Unreadable
behind ns (Ok ms) = Ok (ns ++ ms)
behind ns (Err e) = Err e

-- as many numbers as are asked for
abbrev pub read_numbers : ℕ → ℕ → List WordAt → Result (List ℕ) Unreadable
read_numbers zero end ws = Ok []
read_numbers (suc k) end ws = then_read (read_by number end ws) (λ n. behind (n ∷ []) (read_numbers k end (drop 1 ws)))

-- one of two letters: whether it is the first
abbrev pub letter : ℕ → ℕ → List ℕ → Option Bool
letter one other bs = cond (bytes_eq bs (one ∷ [])) (Some true) (cond (bytes_eq bs (other ∷ [])) (Some false) None)

-- no word is left
abbrev pub read_end : List WordAt → Option Unreadable
read_end [] = None
read_end (w ∷ ws) = Some (unreadable w.place)
