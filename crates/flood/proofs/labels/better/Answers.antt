use Rattle.std.proofs.Common.{rules}
use Rattle.std.proofs.Math.Seq.{map-set_same}
use Rattle.flood.proofs.labels.better.Goals as goal

pub returns : goal.returns
returns g c = map-set_same (λ node. node.steps) c.args.nodes.now c.args.to _ c.in-Some-get.target.now (search rules)
