-- What a plain register means. Assumes nothing.
--     plain_places r         as many as its slots, of which it takes 4,096 at most
--     plain_pieces r         the pieces that stand in its slots
use Rattle.std.specs.Prelude.{ℕ, ◌≤◌, List, length}
use Rattle.geometry.specs.declared.piece.Piece.{Piece}
use Rattle.registers.specs.declared.plain.PlainRegister.{PlainRegister}
use Rattle.registers.specs.Filled.{standing, standing_few}

abbrev pub plain_places : PlainRegister → ℕ
plain_places r = length r.slots.pieces.now

abbrev pub plain_pieces : PlainRegister → List Piece
plain_pieces r = standing r.slots

pub plain_few : (r : PlainRegister) → length (plain_pieces r) ≤ 4096
plain_few r = standing_few r.slots
