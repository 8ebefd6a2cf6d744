use Rattle.std.proofs.Common.{true, false, [], sym, ◌∙◌, subst}
use Rattle.registers.specs.Standing.{StandsAt}
use Rattle.search.specs.Drawing.{Puts, piece_borders}
use Rattle.search.proofs.Putting.{puts_none, turn}
use Rattle.search.proofs.lines.put_pieces.Goals as goal
use Rattle.search.proofs.lines.put_pieces.Goals.{then-different_nets, else-different_nets}

pub loop-k-preserved : goal.loop-k-preserved
loop-k-preserved g c =
    let e = c.args.extent.now in
    let ps = g.P.Pieces.pieces c.args.register.now in
    let k = c.loop-k.k in
    let p = c.unwrap-piece.result in
    let here : StandsAt ps k p = rw c.unwrap-piece.ensures at c.piece.ensures in
    let q = c.loop-k.queue in
    let q' = c.if-different_nets.queue in
    elim c.if-different_nets.branch [
      | then-different_nets w ↦
          turn e ps k p true c.args.queue.now q q' here.inside here.is
          (sym w.if-different_nets.true ∙ c.different_nets.ensures)
          (subst (λ v. Puts (piece_borders e p) q v) (sym w.queue-is) w.put_piece.ensures) c.loop-k.invariant
      | else-different_nets w ↦
          turn e ps k p false c.args.queue.now q q' here.inside here.is
          (sym w.if-different_nets.false ∙ c.different_nets.ensures)
          (subst (λ v. Puts [] q v) (sym w.queue-is) (puts_none q)) c.loop-k.invariant
    ]
