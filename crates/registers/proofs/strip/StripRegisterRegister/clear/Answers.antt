use Rattle.std.proofs.Common.{ap, length, arith}
use Rattle.registers.proofs.Linking.{chained_none}
use Rattle.registers.proofs.strip.StripRegisterRegister.clear.Goals as goal

pub invariant_of-self : goal.invariant_of-self
invariant_of-self c =
    let none = chained_none c.clear.new.self c.clear-2.new.self c.clear.ensures.none c.clear-2.ensures.empty in
    record {
      roomy = omega (arith, ap length c.clear-2.ensures.links, c.args.self.now.roomy);
      linked = none.linked;
      headed = none.headed;
      bounded = none.bounded;
    }
