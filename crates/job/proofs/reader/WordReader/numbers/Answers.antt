use Rattle.std.proofs.Common.{◌≡◌, ℕ, ◌<◌, List, length, take, drop, Ok, Err, sym, ap, ◌∙◌, arith, length-set}
use Rattle.std.proofs.lemmas.List.{take_more_set, drop-drop, take_all}
use Rattle.std.proofs.lemmas.Result.{err_from_is_err_and}
use Rattle.job.specs.Text.{WordAt}
use Rattle.job.specs.Numbers.{number}
use Rattle.job.specs.Reading.{left, of_words, read_by}
use Rattle.job.proofs.Numbered.{read_goes_on, read_stops, read_ends}
use Rattle.job.proofs.reader.WordReader.numbers.Goals as goal

pub returns-in_err-value-clause-answer : goal.returns-in_err-value-clause-answer
returns-in_err-value-clause-answer g c =
    let p = err_from_is_err_and c.from_residual.result c.from_residual.ensures.1 in
    let end : ℕ = length c.args.self.now.line.now in
    let ws : List WordAt = left c.loop-value.self in
    let read : c.number.result ≡ of_words (read_by number) c.loop-value.self = c.number.ensures.answer in
    let stop : read_by number end ws ≡ Err c.in_err-value.field-0.0 =
    ap (λ l. read_by number (length l) ws) (sym c.loop-value.invariant.2) ∙ (sym read ∙ c.in_err-value.was) in
    rw (p.1, p.2) (sym (c.loop-value.invariant.0 ∙ read_stops (take c.loop-value.value-index c.loop-value.value-items) g.row.N c.loop-value.value-index end ws _ c.loop-value-test.true stop))

pub loop-value-preserved : goal.loop-value-preserved
loop-value-preserved g c =
    let i : ℕ = c.loop-value.value-index in
    let n : ℕ = c.in_ok-value.field-0 in
    let end : ℕ = length c.args.self.now.line.now in
    let ws : List WordAt = left c.loop-value.self in
    let read : c.number.result ≡ of_words (read_by number) c.loop-value.self = c.number.ensures.answer in
    let goes : read_by number end ws ≡ Ok n =
    ap (λ l. read_by number (length l) ws) (sym c.loop-value.invariant.2) ∙ (sym read ∙ c.in_ok-value.was) in
    let within : i < length c.loop-value.value-items = omega (arith, c.loop-value.invariant.3, c.loop-value-test.true) in (
      c.loop-value.invariant.0 ∙ (read_goes_on (take i c.loop-value.value-items) g.row.N i end ws n c.loop-value-test.true goes
          ∙ rw (take_more_set c.loop-value.value-items i n within, c.number.ensures.words)),
      c.number.ensures.words ∙ (ap (drop 1) c.loop-value.invariant.1 ∙ drop-drop 1 i (left c.args.self.now)),
      c.number.ensures.line ∙ c.loop-value.invariant.2,
      length-set c.loop-value.value-items i n ∙ c.loop-value.invariant.3,
    )

pub returns-clause-answer : goal.returns-clause-answer
returns-clause-answer g c =
    let i : ℕ = c.loop-value.value-index in
    let end : ℕ = length c.args.self.now.line.now in
    sym (c.loop-value.invariant.0 ∙ (read_ends (take i c.loop-value.value-items) g.row.N i end (left c.loop-value.self) c.loop-value-test.false
    ∙ ap Ok (take_all i c.loop-value.value-items (omega (arith, c.loop-value.invariant.3)))))
