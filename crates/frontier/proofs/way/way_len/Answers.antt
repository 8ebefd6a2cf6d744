use Rattle.std.proofs.Common.{◌≡◌, ℕ, [], ◌∷◌, sym, subst, arith}
use Rattle.frontier.specs.Ways.{Leads, Counted}
use Rattle.frontier.proofs.Filling.{next_node, leads_more}
use Rattle.frontier.proofs.way.way_len.Goals as goal

pub returns-then-node-from : goal.returns-then-node-from
returns-then-node-from g c =
    let r = c.loop-count.invariant.1 [] c.if-node-from.true in
    record { back = r.0; leads = r.1; count = omega (arith, r.2) }

pub returns-in_err-node : goal.returns-in_err-node
returns-in_err-node g c = subst (Counted c.args.notes.now c.args.from c.args.to) (sym c.from_residual.ensures) (λ back h.
    let r = c.loop-count.invariant.0 back h in
    let k = next_node c.args.notes.now c.args.from c.loop-count.node r.0 c.if-node-from.false r.1 in
    let some = k.2 in
    let none = c.in_err-node.ensures in
    let z : ◌≡◌ {A = ℕ} 0 1 = cc in
    absurd (omega arith))

pub loop-count-preserved : goal.loop-count-preserved
loop-count-preserved g c =
    let notes = c.args.notes.now in
    let from = c.args.from in
    let this = c.in_ok-node.ensures in (
      λ back h.
          let r = c.loop-count.invariant.0 back h in
          let k = next_node notes from c.loop-count.node r.0 c.if-node-from.false r.1 in
          let some = k.2 in
          let same : k.0 ≡ c.in_ok-node.node = cc in
          (k.1, subst (λ p. Leads notes from p k.1) same k.3, omega (arith, r.2, k.4)),
      λ rest h.
          let more = leads_more notes from c.loop-count.node c.in_ok-node.node rest c.if-node-from.false (sym this) h in
          let r = c.loop-count.invariant.1 (c.in_ok-node.node ∷ rest) more in
          (r.0, r.1, omega (arith, r.2)),
    )
