use Rattle.std.proofs.Common.{refl}
use Rattle.search.specs.Nodes.{node_at}
use Rattle.search.specs.Lattices.{crossing_of_node}
use Rattle.search.proofs.lattice.Lattice.node.Goals as goal

pub returns-then-c-self-3-clause-back : goal.returns-then-c-self-3-clause-back
returns-then-c-self-3-clause-back c =
    let l = c.args.self.now in
    let d = c.args.c.now in
    crossing_of_node l d (node_at l d)
    (record { column = c.if-c-self.true; row = c.if-c-self-2.true; level = c.if-c-self-3.true }) refl
