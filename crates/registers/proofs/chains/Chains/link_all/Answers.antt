use Rattle.std.proofs.Common.{◌≡◌, ◌++◌, ◌∷◌, [], length, take, ap, sym, subst, ◌∙◌, arith, length-take, length-set}
use Rattle.std.proofs.lemmas.List.{take_more}
use Rattle.registers.specs.Standing.{no_piece}
use Rattle.registers.specs.Chainings.{piece_at, PutLast, Chained}
use Rattle.registers.proofs.Linking.{chained_more}
use Rattle.registers.proofs.chains.Chains.link_all.Goals as goal

pub loop-i-preserved : goal.loop-i-preserved
loop-i-preserved c =
    let all = c.args.pieces.now in
    let i = c.loop-i.i in
    let ps = take i all in
    let p = piece_at all i in
    let before = c.loop-i.self in
    let after = c.link.new.self in
    let long : length ps ≡ i = simp length-take (omega arith) in
    let put : PutLast (length ps) p before after = subst (λ n. PutLast n p before after) (sym long) c.link.ensures in
    let grown : Chained (ps ++ (p ∷ [])) after =
    chained_more ps p before after (omega (arith, long, c.loop-i.invariant.links, ap length c.clear.ensures.links)) (omega arith) put c.loop-i.invariant.chained in
    record {
      chained = subst (λ v. Chained v after) (sym (take_more all i no_piece c.loop-i-test.true)) grown;
      links = ap length c.link.ensures.links ∙ simp length-set c.loop-i.invariant.links;
      strips = c.link.ensures.strips ∙ c.loop-i.invariant.strips;
    }
