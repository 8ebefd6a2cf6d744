use Rattle.std.proofs.Common.{length, ap, arith}
use Rattle.flood.proofs.Orders.{upward_below, downward_below}
use Rattle.flood.proofs.labels.Spread.settle.Goals as goal

pub sweep-improved-requires-clause-inside : goal.sweep-improved-requires-clause-inside
sweep-improved-requires-clause-inside g c = upward_below _ (length c.loop-turn.nodes) (omega (arith, c.loop-turn.auto.nodes))

pub sweep-improved-requires-else-turn-eq0-clause-inside : goal.sweep-improved-requires-else-turn-eq0-clause-inside
sweep-improved-requires-else-turn-eq0-clause-inside g c =
    downward_below _ (length c.loop-turn.nodes) (omega (arith, c.loop-turn.auto.nodes, ap (λ s. s.end) c.rev.ensures.source))
