use Rattle.std.proofs.Common.{ap, length, arith}
use Rattle.registers.proofs.Linking.{chained_none}
use Rattle.registers.proofs.strip.StripRegister.new.Goals as goal

pub invariant_of-result : goal.invariant_of-result
invariant_of-result c =
    let none = chained_none c.new.result c.new-2.result c.new.ensures.none c.new-2.ensures.empty in
    record {
      roomy = omega (arith, ap length c.new-2.ensures.links);
      linked = none.linked;
      headed = none.headed;
      bounded = none.bounded;
    }
