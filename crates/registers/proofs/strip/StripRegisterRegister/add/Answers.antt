use Rattle.std.proofs.Common.{◌≡◌, ◌<◌, ◌++◌, ◌∷◌, [], length, ap, sym, subst, ◌∙◌, arith, length-take, length-set}
use Rattle.std.proofs.lemmas.Bool.{ltb-true}
use Rattle.registers.specs.Filled.{standing}
use Rattle.registers.specs.StripRegisters.{strip_pieces}
use Rattle.registers.specs.Chainings.{PutLast, Chained}
use Rattle.registers.proofs.Linking.{chained_more}
use Rattle.registers.proofs.Keeps.{is_chained}
use Rattle.registers.proofs.strip.StripRegisterRegister.add.Goals as goal

pub invariant_of-self-2 : goal.invariant_of-self-2
invariant_of-self-2 c =
    let me = c.args.self.now in
    let ps = strip_pieces me in
    let p = c.args.p in
    let after = c.link.new.self in
    let free : me.slots.count < length me.slots.pieces.now = ltb-true _ _ (sym c.in_ok-add.ensures.answer) in
    let long : length ps ≡ me.slots.count = simp length-take (omega (arith, me.slots.within)) in
    let put : PutLast (length ps) p me.chains after = subst (λ n. PutLast n p me.chains after) (sym long) c.link.ensures in
    let grown : Chained (ps ++ (p ∷ [])) after =
    chained_more ps p me.chains after (omega (arith, long, me.roomy, free)) (omega (arith, long, me.slots.limited, free)) put (is_chained me) in
    let chained : Chained (standing c.add.new.self) after = subst (λ v. Chained v after) (sym c.in_ok-add.ensures.stands) grown in
    let links : length after.links.now ≡ length me.chains.links.now = ap length c.link.ensures.links ∙ simp length-set in
    record {
      roomy = omega (arith, c.in_ok-add.ensures.places, links, me.roomy);
      linked = chained.linked;
      headed = chained.headed;
      bounded = chained.bounded;
    }
