use Rattle.std.proofs.Common.{rules, ◌≡◌, ℕ, false, List, length, Ok, Err, ltb, sym, ◌∙◌, arith}
use Rattle.std.proofs.lemmas.Bool.{le-ltb}
use Rattle.std.proofs.lemmas.Result.{err_from_is_err_and, MatchResult-weaker}
use Rattle.job.specs.Text.{words}
use Rattle.job.specs.Reading.{of_words, read_by}
use Rattle.job.specs.Forms.{verb}
use Rattle.job.proofs.Firsts.{first_unknown, first_answers, first_sets, first_leads}
use Rattle.job.proofs.setup.Setup.line.Goals as goal

pub returns-in_err-verb-clause-answer : goal.returns-in_err-verb-clause-answer
returns-in_err-verb-clause-answer c =
    let p = err_from_is_err_and c.from_residual.result c.from_residual.ensures.1 in
    let bytes : List ℕ = c.args.text.now in
    let short : ltb 80 (length bytes) ≡ false = le-ltb 80 (length bytes) (omega arith) in
    let read : c.read.result ≡ of_words (read_by verb) c.new-words.result = c.read.ensures.answer verb (λ word x r. search rules) in
    let is : read_by verb (length bytes) (words 0 bytes) ≡ Err c.in_err-verb.field-0.0 = rw (← c.new-words.ensures.words, ← c.new-words.ensures.line) (sym read ∙ c.in_err-verb.was) in
    rw (p.1, p.2, short) (sym (first_unknown (length bytes) bytes c.args.self.now.stage _ is))

pub returns : goal.returns
returns c =
    let bytes : List ℕ = c.args.text.now in
    let short : ltb 80 (length bytes) ≡ false = le-ltb 80 (length bytes) (omega arith) in
    let read : c.read.result ≡ of_words (read_by verb) c.new-words.result = c.read.ensures.answer verb (λ word x r. search rules) in
    let is : read_by verb (length bytes) (words 0 bytes) ≡ Ok c.in_ok-verb.verb = rw (← c.new-words.ensures.words, ← c.new-words.ensures.line) (sym read ∙ c.in_ok-verb.was) in
    let answer = rw (c.read.ensures.words, c.read.ensures.line, c.new-words.ensures.words, c.new-words.ensures.line) at c.take_line.ensures.answer_is in
    let set = rw (c.read.ensures.words, c.read.ensures.line, c.new-words.ensures.words, c.new-words.ensures.line) at c.take_line.ensures.set_is in
    record {
      answer = rw short (answer ∙ first_answers (length bytes) bytes _ is c.args.self.now.stage);
      set = MatchResult-weaker c.take_line.result set (λ x set. first_sets (length bytes) bytes _ is _ _ set) (λ e stays. stays);
      stage = rw (← first_leads (length bytes) bytes _ is c.args.self.now.stage) c.take_line.ensures.stage_is;
    }
