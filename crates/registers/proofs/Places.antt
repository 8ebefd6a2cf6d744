-- Which chains there are. Assumes nothing.
use Rattle.std.proofs.Common.{ℕ, ◌+◌, ◌/◌, ◌%◌, ◌<◌, min, Bool, true, false, cond, arith}
use Rattle.geometry.specs.declared.rect.Span.{Span}
use Rattle.geometry.specs.declared.piece.Piece.{Piece}
use Rattle.registers.specs.Strips.{from_zero, strip_height, is_tall, layer_chain, chain_of}

either_below : (b : Bool) (m : ℕ) → cond b (min m 15 + 16) (min m 15) < 32
either_below true m = omega arith
either_below false m = omega arith

pub layer_chain_below : (height : ℕ) (y : Span) → layer_chain height y < 32
layer_chain_below height y = either_below (is_tall height y) (from_zero y.low / strip_height height)

pub chain_below : (height : ℕ) (p : Piece) → chain_of height p < 256
chain_below height p =
    let layer : p.layer % 8 < 8 = omega arith in
    omega (arith, layer_chain_below height p.rect.y)
