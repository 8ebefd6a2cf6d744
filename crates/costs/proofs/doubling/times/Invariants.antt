use Rattle.std.proofs.Common.{◌*◌, ◌^◌, ◌<◌}
use Rattle.costs.specs.Amounts.{times}
use Rattle.costs.proofs.Turns.{Stands}
use Rattle.costs.proofs.doubling.times.Given as goal

abbrev pub invariant-loop-rest : goal.invariant-loop-rest
invariant-loop-rest g l =
    let m = g.C.Amount in
    let a = m.means l.initial.unit in
    let size = l.k * m.sums.bulk a in
    size < 2 ^ 62 → Stands m.sums (m.means l.total) (m.means l.unit) l.rest (times m.sums l.k a) size

abbrev pub decreases-loop-rest : goal.decreases-loop-rest
decreases-loop-rest g l = l.rest
