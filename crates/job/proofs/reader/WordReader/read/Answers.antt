use Rattle.std.proofs.Common.{◌≡◌, Some, refl}
use Rattle.job.proofs.reader.WordReader.read.Goals as goal

pub returns-clause-answer : goal.returns-clause-answer
returns-clause-answer g c = λ value gives.
    let some : c.next.result ≡ Some c.in_ok-word.word = c.in_ok-word.ensures.ok_part in
    let words = rw some at c.next.ensures.steps.words_is in
    let is : c.parse.result ≡ value c.in_ok-word.word.text.now = gives _ _ (c.in_ok-word.word.text, c.parse.ensures, refl) in
    rw (c.ok_or-2.ensures.value, is, words) refl
