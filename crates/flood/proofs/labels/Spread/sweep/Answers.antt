use Rattle.std.proofs.Common.{◌∙◌, arith}
use Rattle.flood.proofs.Orders.{next_below, later_below}
use Rattle.flood.proofs.labels.Spread.sweep.Goals as goal

pub better_round-improved-requires : goal.better_round-improved-requires
better_round-improved-requires g c =
    let next = next_below g.I.Iterator.next_gives _ _ _ _ c.loop-i.invariant.2 c.in-Some.ensures.steps in
    omega (arith, next, c.loop-i.auto.nodes)

pub loop-i-preserved : goal.loop-i-preserved
loop-i-preserved g c =
    let on = c.in-Some.ensures.goes.on c.loop-i.invariant.1 in (
      on.0,
      on.1,
      later_below g.I.Iterator.next_gives _ _ _ _ c.loop-i.invariant.2 c.in-Some.ensures.steps,
      c.better_round-improved.ensures ∙ c.loop-i.invariant.3,
    )

pub returns : goal.returns
returns g c = c.loop-i.invariant.3
