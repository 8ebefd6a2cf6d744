use Rattle.std.proofs.Common.{◌≡◌, ℕ, ◌-◌, ◌<◌, ◌≤◌, List, ◌∷◌, length, take, drop, refl, ap, ◌∙◌, arith}
use Rattle.std.proofs.lemmas.List.{take_rest, length-drop}
use Rattle.job.specs.Text.{word_at, before}
use Rattle.job.specs.Reading.{left, words_from}
use Rattle.job.proofs.Cuts.{words_from_more, words_from_last}
use Rattle.job.proofs.words.WordReaderIterator.next.Goals as goal
use Rattle.job.proofs.words.WordReaderIterator.next.Goals.{then-end-rest, else-end-rest}

pub returns : goal.returns
returns c =
    let line : List ℕ = c.args.self.now.line.now in
    let at : ℕ = c.in_ok-place.place in
    let n : ℕ = c.find-end.result in
    let whole : take (length line - at) (drop at line) ≡ drop at line = take_rest line at in
    let is : n ≡ before 32 (drop at line) = c.find-end.ensures.value ∙ ap (before 32) whole in
    let long : length (take (length line - at) (drop at line)) ≡ length line - at = ap length whole ∙ length-drop at line in
    let words : left c.args.self.now ≡ word_at at (take n (take (length line - at) (drop at line))) ∷ words_from line c.if-end-rest.self =
    rw (whole, c.in_ok-place.was) (elim c.if-end-rest.branch [
      | then-end-rest w ↦
          let more : n < length line - at = omega (arith, w.if-end-rest.true, long) in
          rw w.self-is (words_from_more line at n is more)
      | else-end-rest w ↦
          let last : length line - at ≤ n = omega (arith, w.if-end-rest.false, long) in
          rw w.self-is (words_from_last line at n is last)
    ]) in
    let fewer : length (words_from line c.if-end-rest.self) < length (left c.args.self.now) = omega (arith, ap length words) in
    record {
      steps = record { words_is = words; line_is = refl };
      goes = record { on = λ f. (tt, tt, fewer); keeps = tt; rests = λ f. tt };
    }
