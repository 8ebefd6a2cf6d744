use Rattle.std.proofs.Common.{◌≡◌, List, ℕ, [], sym, refl, ◌∙◌, subst, append-nil}
use Rattle.job.specs.declared.setup.Setup.{Setup}
use Rattle.job.specs.Reading.{lines_left}
use Rattle.job.specs.Said.{LineTold, Told}
use Rattle.job.proofs.Tellings.{line_told, said_more, told_more}
use Rattle.job.proofs.script.read_job.Goals as goal

pub loop-i-preserved : goal.loop-i-preserved
loop-i-preserved c =
    let line : List ℕ = c.in-Some.line.text.now in
    let s : Setup = c.loop-i.setup in
    let t : Setup = c.line-answer.new.self in
    let steps = c.in-Some.ensures.steps in
    let told : LineTold s line t = line_told s t line _ c.line-answer.ensures.answer c.line-answer.ensures.set c.line-answer.ensures.stage in (
      rw (c.in_ok-note.ensures, steps.1, steps.2) (c.loop-i.invariant.0
          ∙ said_more c.loop-i.said.items s t c.loop-i.i-iterator.count line _ _ _ steps.0.lines_is c.line-answer.ensures.answer told),
      λ u rest. c.loop-i.invariant.1 u (told_more s t u line _ _ steps.0.lines_is told rest),
    )

pub returns : goal.returns
returns c =
    let none : lines_left c.loop-i.i-iterator.iter ≡ [] = c.in-None.ensures.steps.0.lines_is in
    let P : List (List ℕ) → Type 0 = λ ls. Told c.loop-i.setup ls c.loop-i.setup in
    record {
      unset = c.new-setup.result;
      unset_is = c.new-setup.ensures;
      told = c.loop-i.invariant.1 c.loop-i.setup (subst P (sym none) refl);
      said_is = sym (c.loop-i.invariant.0 ∙ rw none (append-nil c.loop-i.said.items));
    }
