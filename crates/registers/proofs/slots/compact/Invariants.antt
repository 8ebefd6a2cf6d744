use Rattle.std.proofs.Common.{not}
use Rattle.std.proofs.lemmas.List.Filters.{FiltersInPlace}
use Rattle.registers.specs.Standing.{of_job}
use Rattle.registers.proofs.slots.compact.Given as goal

abbrev pub invariant-loop-i : goal.invariant-loop-i
invariant-loop-i l = FiltersInPlace (λ p. not (of_job l.job p)) l.initial.slots l.slots l.kept l.i
