use Rattle.std.proofs.Common.{◌+◌, ◌∷◌, set, ap, ◌∙◌, subst, arith, sym}
use Rattle.std.specs.Option.{unwrap_or}
use Rattle.frontier.proofs.Filling.{Filling, fill_step}
use Rattle.frontier.proofs.way.fill_back.Goals as goal

pub loop-slot-preserved : goal.loop-slot-preserved
loop-slot-preserved g c = λ from back h long.
    let l = c.loop-slot in
    let next = c.unwrap_or-node.ensures ∙ ap (λ o. unwrap_or o l.node) c.before-in-loop-slot.ensures in
    subst (λ n. Filling c.args.notes.now from n (l.slot-index + 1) (set l.way l.slot-index l.node) (c.args.to ∷ back)) (sym next)
    (fill_step c.args.notes.now from l.node l.slot-index l.way (c.args.to ∷ back) (omega arith) (l.invariant from back h long))
