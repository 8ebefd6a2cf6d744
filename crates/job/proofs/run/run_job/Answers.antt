use Rattle.std.proofs.Common.{◌≡◌, ℕ, List, length, ltb, false, Result, ap, ◌∙◌}
use Rattle.std.proofs.lemmas.Result.{IfOk-weaker}
use Rattle.std.proofs.lemmas.Bool.{le-ltb}
use Rattle.panel.specs.declared.calls.Done.{Done}
use Rattle.panel.specs.declared.refusal.Refusal.{Refusal}
use Rattle.job.specs.declared.script.Script.{Script}
use Rattle.job.specs.declared.setup.Stage.TheVariants.{Start}
use Rattle.job.specs.Text.{lines}
use Rattle.job.specs.Said.{said, calls_in}
use Rattle.job.specs.Scripts.{Read}
use Rattle.job.proofs.run.run_job.Goals as goal

pub returns : goal.returns
returns c =
    let job : List ℕ = c.args.job.now in
    let script : Script = c.in_ok-script.script in
    let read : Read job script = c.in_ok-script.ensures in
    let answers : List (Result Done Refusal) = c.in_ok-answers.answers.items in
    let calls : c.as_slice.result.now ≡ calls_in (said Start 1 (lines job)) =
    c.as_slice.ensures.value ∙ (c.in_ok-calls.ensures ∙ ap calls_in read.said_is) in
    let replies : c.as_slice-2.result.now ≡ said Start 1 (lines job) = c.as_slice-2.ensures.value ∙ read.said_is in
    let short : ltb 65536 (length job) ≡ false = le-ltb 65536 (length job) c.if-job-gt-JOB_BYTES.false in
    IfOk-weaker c.write_all.result _ _
    (λ text e. rw short record {
      unset = read.unset;
      unset_is = read.unset_is;
      setup = script.setup;
      told = read.told;
      answers = answers;
      driven = rw (← calls) c.in_ok-answers.ensures;
      text_is = rw (replies, c.as_slice-3.ensures.value) at e;
    })
    c.write_all.ensures
