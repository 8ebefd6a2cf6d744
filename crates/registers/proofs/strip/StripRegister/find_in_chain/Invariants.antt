use Rattle.registers.specs.StripRegisters.{strip_pieces}
use Rattle.registers.proofs.Lasts.{upto}
use Rattle.registers.proofs.Walks.{Seen}
use Rattle.registers.proofs.strip.StripRegister.find_in_chain.Given as goal

abbrev pub invariant-loop-place : goal.invariant-loop-place
invariant-loop-place l = Seen l.q (strip_pieces l.self) l.self.chains l.s l.place

abbrev pub decreases-loop-place : goal.decreases-loop-place
decreases-loop-place l = upto l.place
