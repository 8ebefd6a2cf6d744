use Rattle.std.proofs.Common.{rules, arith}
use Rattle.std.proofs.lemmas.Iterator.{YieldsList-from_range, YieldsList-from_map_by}
use Rattle.std.proofs.lemmas.Iterator.Consumers.{map_from_collect}
use Rattle.flood.specs.Places.{ground_size, steps_at}
use Rattle.flood.proofs.ground.Ground.nodes.Goals as goal

pub returns : goal.returns
returns g c =
    let size = ground_size c.args.self.now in
    map_from_collect c.collect.result c.collect.ensures.ran
    (YieldsList-from_map_by _ (λ node. node.steps) (steps_at c.args.self.now c.args.pieces.now)
    (YieldsList-from_range 0 size size (cc) (omega arith)) c.map.ensures.closure (λ x r q k. search rules))
