use Rattle.std.proofs.Common.{◌*◌, ap, ◌∙◌, arith}
use Rattle.costs.specs.Amounts.{times}
use Rattle.costs.proofs.Order.{nothing_plus}
use Rattle.costs.proofs.Turns.{stands, odd_turn, even_turn}
use Rattle.costs.proofs.doubling.times.Goals as goal
use Rattle.costs.proofs.doubling.times.Goals.{then-rest-eq1, else-rest-eq1}

pub loop-rest-init : goal.loop-rest-init
loop-rest-init g c small =
    let m = g.C.Amount in
    let amount = m.means c.args.amount in
    let whole = times m.sums c.args.k amount in
    let none = c.zero-total.ensures in
    stands m.laws (m.means c.zero-total.result) amount c.args.k whole (c.args.k * m.sums.bulk amount)
    (ap (λ t. m.sums.plus t whole) none ∙ nothing_plus m.laws whole)
    (omega (arith, ap m.sums.bulk none, m.laws.bulk_nothing))

pub loop-rest-preserved : goal.loop-rest-preserved
loop-rest-preserved g c small =
    let m = g.C.Amount in
    let total = m.means c.loop-rest.total in
    let unit = m.means c.loop-rest.unit in
    let added = m.means c.if-rest-eq1.total in
    let doubled = m.means c.sum-unit.result in
    let amount = m.means c.args.amount in
    let whole = times m.sums c.args.k amount in
    let size = c.args.k * m.sums.bulk amount in
    elim c.if-rest-eq1.branch [
      | then-rest-eq1 w ↦
          odd_turn m.laws total unit added doubled c.loop-rest.rest whole size w.if-rest-eq1.true small
          (λ fits. ap m.means w.total-is ∙ w.sum-total.ensures fits) c.sum-unit.ensures (c.loop-rest.invariant small)
      | else-rest-eq1 w ↦
          even_turn m.laws total unit added doubled c.loop-rest.rest whole size (omega arith) small
          (ap m.means w.total-is) c.sum-unit.ensures (c.loop-rest.invariant small)
    ]
