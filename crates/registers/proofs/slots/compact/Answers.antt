use Rattle.std.proofs.Common.{◌≡◌, ◌<◌, length, take, get_or, ap, ◌∙◌, arith, length-take}
use Rattle.std.proofs.lemmas.List.Filters.{FiltersInPlace-more_no, FiltersInPlace-more_set}
use Rattle.std.proofs.lemmas.List.{get_or_default}
use Rattle.std.proofs.lemmas.Bool.Decides.{nat_tests}
use Rattle.registers.specs.Standing.{without_job, count_and_rest, no_piece}
use Rattle.registers.proofs.slots.compact.Goals as goal
use Rattle.registers.proofs.slots.compact.Goals.{then-p-job, else-p-job}

pub loop-i-preserved : goal.loop-i-preserved
loop-i-preserved c =
    let xs = c.loop-i.slots in
    let i = c.loop-i.i in
    let inside : i < length xs = omega arith in
    elim c.if-p-job.branch [
      | then-p-job w ↦ rw (w.slots-is, w.kept-is) (FiltersInPlace-more_set c.loop-i.invariant inside (grind (arith, nat_tests)) (get_or_default xs i _ _ inside))
      | else-p-job w ↦ rw (w.slots-is, w.kept-is) (FiltersInPlace-more_no c.loop-i.invariant inside (grind (arith, nat_tests)) (get_or_default xs i no_piece (get_or xs i no_piece) inside))
    ]

pub returns : goal.returns
returns c =
    let stands : take c.loop-i.kept c.loop-i.slots ≡ without_job c.args.job (take c.args.count c.args.slots.now) =
    c.loop-i.invariant.front ∙ ap (λ n. without_job c.args.job (take n c.args.slots.now)) (let e : c.loop-i.i ≡ c.args.count = omega arith in e) in
    let left : length (take c.loop-i.kept c.loop-i.slots) ≡ c.loop-i.kept = simp length-take (omega arith) in
    record { stands = stands; left = omega (arith, count_and_rest c.args.job (take c.args.count c.args.slots.now), left, ap length stands) }
