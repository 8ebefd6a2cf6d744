use Rattle.std.proofs.Common.{length, sym, ap, ◌∙◌, arith}
use Rattle.std.proofs.lemmas.List.{length-map}
use Rattle.std.proofs.lemmas.List.FromFn.{length-map-range_with_len}
use Rattle.flood.specs.Places.{ground_size, steps_at}
use Rattle.flood.proofs.spread.flood.Goals as goal

pub index-requires : goal.index-requires
index-requires g c =
    let ground = c.args.ground.now in
    let all = sym (length-map c.in_ok-nodes.nodes.items (λ node. node.steps)) ∙ ap length c.in_ok-nodes.ensures
    ∙ length-map-range_with_len (steps_at ground c.args.pieces.now) 0 (ground_size ground) in
    omega (arith, all, c.in-Some-place.ensures.inside, c.in_ok-nodes.nodes.ok.0)
