use Rattle.std.proofs.Common.{List, sym, ap, ◌∙◌, arith}
use Rattle.geometry.specs.declared.piece.Piece.{Piece}
use Rattle.geometry.specs.Zones.{in_way}
use Rattle.registers.specs.StripRegisters.{strip_pieces}
use Rattle.registers.specs.Chainings.{piece_at}
use Rattle.registers.proofs.Lasts.{upto}
use Rattle.registers.proofs.Walks.{seen_none, seen_more, next_is}
use Rattle.registers.proofs.Keeps.{is_chained}
use Rattle.registers.proofs.strip.StripRegister.find_in_chain.Goals as goal

pub loop-place-init : goal.loop-place-init
loop-place-init c =
    let me = c.args.self.now in
    seen_none c.args.q.now (strip_pieces me) me.chains c.args.s (is_chained me) _ c.requires c.last-place.ensures

pub loop-place-smaller : goal.loop-place-smaller
loop-place-smaller c =
    let me = c.args.self.now in
    let next = next_is c.args.q.now (strip_pieces me) me.chains c.args.s (is_chained me) _ _ _
    c.loop-place.invariant c.in-Some.is c.before-place.ensures in
    omega (arith, ap upto c.in-Some.is, next.within)

pub loop-place-preserved : goal.loop-place-preserved
loop-place-preserved c =
    let me = c.args.self.now in
    let free = ap (λ (ps : List Piece). in_way c.args.q.now (piece_at ps c.in-Some.i)) (sym c.standing-pieces.ensures) ∙ sym c.if-in_way.ensures in
    seen_more c.args.q.now (strip_pieces me) me.chains c.args.s (is_chained me) _ _ _
    c.loop-place.invariant c.in-Some.is c.before-place.ensures free
