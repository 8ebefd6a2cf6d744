-- How y is cut into strips, and what a chain of pieces keeps. Assumes nothing.
--     strip_height height     how high a strip is on a panel of this height
--     strip_of height y       the strip of a span's low border
--     is_tall height y        a span is longer than a strip is high
--     layer_chain height y    the chain, in its layer, of a piece with these borders: of each strip one for low pieces, one for
--                             tall ones
--     first_chain layer       the first chain of a layer; layers that are eight apart share theirs
--     chain_of height p       the chain of a piece
--     unused c                a chain has no pieces
--     chain_with k p c        a chain with one piece more, which is its last
--     within_chain c p        a piece is within a chain's bounds
--     chain_near q c          a piece within the bounds can be in the way, as far as y and the spaces tell
use Rattle.std.specs.Prelude.{ℕ, ◌+◌, ◌*◌, ◌/◌, ◌%◌, min, max, Bool, cond, ◌&&◌, Some, is_none, ℤ, pos, negsuc, ◌+ℤ◌, int_le, int_lt, nat_le}
use Rattle.std.specs.Int.{int_min, int_max}
use Rattle.geometry.specs.declared.rect.Span.{Span}
use Rattle.geometry.specs.declared.piece.Piece.{Piece}
use Rattle.geometry.specs.declared.question.Question.{Question}
use Rattle.geometry.specs.Zones.{widened, crosses}
use Rattle.registers.specs.declared.chain.Chain.{Chain}

abbrev pub strip_height : ℕ → ℕ
strip_height height = height / 16 + 1

-- a border below 0 counts as 0
abbrev pub from_zero : ℤ → ℕ
from_zero (pos n) = n
from_zero (negsuc _) = 0

-- Strips are counted from 0 to 15, and what lies above the last belongs to it.
abbrev pub strip_of : ℕ → Span → ℕ
strip_of height y = min (from_zero y.low / strip_height height) 15

abbrev pub is_tall : ℕ → Span → Bool
is_tall height y = int_lt (y.low +ℤ pos (strip_height height)) y.high

abbrev pub layer_chain : ℕ → Span → ℕ
layer_chain height y = cond (is_tall height y) (strip_of height y + 16) (strip_of height y)

abbrev pub first_chain : ℕ → ℕ
first_chain layer = layer % 8 * 32

abbrev pub chain_of : ℕ → Piece → ℕ
chain_of height p = first_chain p.layer + layer_chain height p.rect.y

-- a chain without a last piece
abbrev pub unused : Chain → Bool
unused c = is_none c.last

abbrev pub joined : Span → Span → Span
joined a b = record { low = int_min a.low b.low; high = int_max a.high b.high }

abbrev pub chain_with : ℕ → Piece → Chain → Chain
chain_with k p c = record { last = Some k; space = max c.space p.space; y = joined c.y p.rect.y }

abbrev pub within_chain : Chain → Piece → Bool
within_chain c p =
    int_le c.y.low p.rect.y.low && (int_le p.rect.y.high c.y.high && nat_le p.space c.space)

-- The zone in y of a piece with the chain's borders and space crosses the box's span.
abbrev pub chain_near : Question → Chain → Bool
chain_near q c = crosses (widened (q.reach + max q.space c.space) c.y) q.area.y
