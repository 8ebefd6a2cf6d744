use Rattle.std.proofs.Common.{◌≡◌, ℕ, ◌-◌, ◌≤◌, List, length, take, drop, refl, ap, ◌∙◌, arith}
use Rattle.std.proofs.lemmas.List.{take_rest, length-take, length-drop}
use Rattle.job.specs.Text.{before}
use Rattle.job.proofs.Cuts.{lines_from}
use Rattle.job.proofs.lines.LineReaderIterator.next.Goals as goal

pub returns-clause-steps : goal.returns-clause-steps
returns-clause-steps c =
    let job : List ℕ = c.args.self.now.job.now in
    let at : ℕ = c.args.self.now.next in
    let n : ℕ = c.find-end.result in
    let whole : take (length job - at) (drop at job) ≡ drop at job = take_rest job at in
    let text : take n (take (length job - at) (drop at job)) ≡ take n (drop at job) = ap (take n) whole in
    let is : n ≡ before 10 (drop at job) = c.find-end.ensures.value ∙ ap (before 10) whole in
    let fits : n ≤ length job - at = omega (arith, c.find-end.ensures.bound, ap length whole, length-drop at job) in
    let long : length (take n (take (length job - at) (drop at job))) ≡ n =
    ap length text ∙ omega (arith, length-take n (drop at job), length-drop at job) in
    record {
      lines_is = rw (text, c.min-self.ensures) (lines_from job at n c.if-place-self.false is);
      place_is = (refl, omega (arith, long, c.min-self.ensures));
      further = (omega (arith, c.min-self.ensures), omega (arith, c.min-self.ensures));
      job_is = refl;
    }
