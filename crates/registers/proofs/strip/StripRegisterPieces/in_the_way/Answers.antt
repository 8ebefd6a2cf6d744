use Rattle.std.proofs.Common.{◌≡◌, ◌+◌, true, ◌-◌, length, get_or, drop, sym, ap, ◌∙◌, inl, inr, arith, rules, length-take, length-drop}
use borrow.Rule.Slice.PartMut.{mid_of}
use Rattle.std.proofs.lemmas.List.{get_or-take, get_or-drop}
use Rattle.std.proofs.lemmas.Bool.{cases_eq}
use Rattle.registers.specs.Strips.{first_chain, layer_chain, within_chain, chain_near}
use Rattle.registers.specs.StripRegisters.{strip_pieces}
use Rattle.registers.specs.Chainings.{no_chain, piece_at, chain_at, head_at}
use Rattle.registers.proofs.Bounds.{not_in_way, not_on_layer}
use Rattle.registers.proofs.Places.{layer_chain_below}
use Rattle.registers.proofs.Walks.{none_in_way_of}
use Rattle.registers.proofs.strip.StripRegisterPieces.in_the_way.Goals as goal
use Rattle.registers.proofs.strip.StripRegisterPieces.in_the_way.Goals.{then-near+in_default, else-near}

pub returns : goal.returns
returns c =
    let me = c.args.self.now in
    let q = c.args.q.now in
    let ps = strip_pieces me in
    let full : length me.chains.heads ≡ 256 = search rules in
    none_in_way_of q ps (λ k h. elim (cases_eq (piece_at ps k).layer q.layer) [
      | inl same ↦
          c.loop-s.invariant k h same (omega (arith, simp (length-take, length-drop) at c.loop-s-test.false, layer_chain_below me.chains.strips.height (piece_at ps k).rect.y, c.first_chain-first.ensures.inside, full))
      | inr other ↦ not_on_layer q (piece_at ps k) other
    ])

pub loop-s-preserved : goal.loop-s-preserved
loop-s-preserved c k h same below =
    let me = c.args.self.now in
    let q = c.args.q.now in
    let ps = strip_pieces me in
    let f = c.first_chain-first.result in
    let chain = layer_chain me.chains.strips.height (piece_at ps k).rect.y in
    elim (cases_eq chain c.loop-s.s) [
      | inl is ↦
          let here : chain_at me.chains.strips.height ps k ≡ c.first_chain-first.result + c.loop-s.s =
          ap (λ l. first_chain l + chain) same
          ∙ ap (λ s. first_chain q.layer + s) is
          ∙ ap (λ f. f + c.loop-s.s) (sym c.first_chain-first.ensures.is) in
          elim c.if-near.branch [
            | then-near+in_default w ↦ w.in_default.ensures k h here
            | else-near w ↦
                let head = head_at me.chains (c.first_chain-first.result + c.loop-s.s) in
                let bound : within_chain head (piece_at ps k) ≡ true =
                ap (λ v. within_chain (head_at me.chains v) (piece_at ps k)) (sym here) ∙ me.bounded k h in
                let at : get_or (mid_of f (f + 32 - f) me.chains.heads) c.loop-s.s no_chain ≡ head =
                get_or-take (f + 32 - f) (drop f me.chains.heads) c.loop-s.s no_chain
                (omega (arith, simp length-take at c.loop-s-test.true))
                ∙ get_or-drop f me.chains.heads c.loop-s.s no_chain in
                not_in_way q head (piece_at ps k) bound (ap (chain_near q) (sym at) ∙ sym w.if-near.ensures)
          ]
      | inr other ↦ c.loop-s.invariant k h same (omega arith)
    ]
