use Rattle.std.proofs.Common.{◌≡◌, ℕ, ◌<◌, false, length}
use Rattle.geometry.specs.Zones.{in_way}
use Rattle.registers.specs.Strips.{layer_chain}
use Rattle.registers.specs.StripRegisters.{strip_pieces}
use Rattle.registers.specs.Chainings.{piece_at}
use Rattle.registers.proofs.strip.StripRegisterPieces.in_the_way.Given as goal

-- no piece of the layer in its chains so far is in the way
abbrev pub invariant-loop-s : goal.invariant-loop-s
invariant-loop-s l =
    let ps = strip_pieces l.self in
    (k : ℕ) → k < length ps → (piece_at ps k).layer ≡ l.q.layer
    → layer_chain l.self.chains.strips.height (piece_at ps k).rect.y < l.s → in_way l.q (piece_at ps k) ≡ false
