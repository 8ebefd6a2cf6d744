use Rattle.std.proofs.Common.{take}
use Rattle.registers.specs.Chainings.{Rechained}
use Rattle.registers.proofs.chains.Chains.link_all.Given as goal

-- the pieces so far are chained
abbrev pub invariant-loop-i : goal.invariant-loop-i
invariant-loop-i l = Rechained (take l.i l.pieces) l.initial.self l.self
