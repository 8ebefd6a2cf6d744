use Rattle.std.proofs.Common.{◌<◌, subst, arith}
use Rattle.search.specs.Lattices.{node_of_crossing}
use Rattle.search.proofs.lattice.Lattice.crossing.Goals as goal

pub returns-clause-back : goal.returns-clause-back
returns-clause-back c =
    node_of_crossing c.args.self.now c.args.node (subst (λ n. c.args.node < n) c.size.ensures (omega (arith, c.if-node-size.false)))
