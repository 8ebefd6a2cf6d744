use Rattle.std.proofs.Common.{◌≡◌, Some, ap, ◌∙◌, subst}
use Rattle.std.specs.Option.{option_map}
use Rattle.search.specs.Lattices.{crossing_on, beside_on, node_is, true_from}
use Rattle.search.specs.Nodes.{node_at, crossing_at, beside}
use Rattle.search.proofs.lattice.Lattice.step.Goals as goal

pub returns : goal.returns
returns c h =
    let l = c.args.self.now in
    let from = crossing_at l c.args.node in
    let here = true_from _ from c.in_ok-c.c c.in_ok-c.ensures.answer in
    let d = c.in_ok-d.d in
    let is : Some d ≡ beside l c.args.way from = subst (λ v. Some d ≡ beside l c.args.way v) here.1 c.in_ok-d.ensures in
    c.node.ensures.answer
    ∙ (node_is l d (beside_on l c.args.way from d (crossing_on l c.args.node h) is) ∙ ap (option_map (node_at l)) is)
