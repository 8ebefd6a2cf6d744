-- A strip register's invariant as one fact. Assumes nothing.
use Rattle.registers.specs.declared.strip.StripRegister.{StripRegister}
use Rattle.registers.specs.StripRegisters.{strip_pieces}
use Rattle.registers.specs.Chainings.{Chained}

pub is_chained : (r : StripRegister) → Chained (strip_pieces r) r.chains
is_chained r = record { linked = r.linked; headed = r.headed; bounded = r.bounded }
