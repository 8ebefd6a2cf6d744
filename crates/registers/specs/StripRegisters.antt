-- What a strip register means. Assumes nothing.
--     strip_places r          as many as its slots, of which it takes as many as there are links, and 4,096 at most
--     strip_pieces r          the pieces that stand in its slots
--     NoneInChain s q r       no piece of chain s is in the way
--     ToldInChain s q r       what the walk of a chain tells
use Rattle.std.specs.Prelude.{◌≡◌, ℕ, ◌<◌, ◌≤◌, false, T, List, length, Option, MatchOption}
use Rattle.geometry.specs.declared.piece.Piece.{Piece}
use Rattle.geometry.specs.declared.question.Question.{Question}
use Rattle.geometry.specs.Zones.{in_way, in_way_by}
use Rattle.registers.specs.declared.strip.StripRegister.{StripRegister}
use Rattle.registers.specs.Filled.{standing, standing_few}
use Rattle.registers.specs.Chainings.{piece_at, chain_at}

abbrev pub strip_places : StripRegister → ℕ
strip_places r = length r.slots.pieces.now

abbrev pub strip_pieces : StripRegister → List Piece
strip_pieces r = standing r.slots

pub strip_few : (r : StripRegister) → length (strip_pieces r) ≤ 4096
strip_few r = standing_few r.slots

abbrev pub NoneInChain : ℕ → Question → StripRegister → Type 0
NoneInChain s q r =
    let ps = strip_pieces r in
    (k : ℕ) → k < length ps → chain_at r.chains.strips.height ps k ≡ s → in_way q (piece_at ps k) ≡ false

-- absent only if no piece of the chain is in the way, else the job number of a piece that is
abbrev pub ToldInChain : ℕ → Question → StripRegister → Option ℕ → Type 0
ToldInChain s q r told = MatchOption told (NoneInChain s q r) (λ job. T (in_way_by q (strip_pieces r) job))
