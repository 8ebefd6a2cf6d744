-- The pieces that stand in lent slots. Assumes nothing.
--     standing s             the pieces in the first of the slots
--     put_if r i p ps        the slots with p in the i-th if r, else as they are
use Rattle.std.specs.Prelude.{ℕ, ◌≤◌, Bool, cond, List, length, take, slice_set}
use Rattle.std.proofs.Common.{arith, length-take}
use Rattle.geometry.specs.declared.piece.Piece.{Piece}
use Rattle.registers.specs.declared.slots.Slots.{Slots}

abbrev pub standing : Slots → List Piece
standing s = take s.count s.pieces.now

abbrev pub put_if : Bool → ℕ → Piece → List Piece → List Piece
put_if r i p ps = cond r (slice_set ps i p) ps

pub standing_few : (s : Slots) → length (standing s) ≤ 4096
standing_few s = simp length-take (omega (arith, s.within, s.limited))
