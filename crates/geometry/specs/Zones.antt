-- Zones round pieces, and when a piece is in the way. Assumes nothing.
--     widened d s, moved_out d r     a span, a rectangle, moved out by d on each side
--     zone p reach space             the open box round a piece that others keep out of
--     crosses s t, meets z b         an open span crosses a closed one; an open zone meets a closed box
--     counts q p, in_way q p         a piece counts for a question; it is in the way of what the question asks for
use Rattle.std.specs.Prelude.{ℕ, ◌+◌, max, Bool, true, false, not, ◌&&◌, ◌||◌, List, pos, ◌+ℤ◌, ◌-ℤ◌, ◌==◌, int_lt}
use Rattle.geometry.specs.declared.rect.Span.{Span}
use Rattle.geometry.specs.declared.rect.Rect.{Rect}
use Rattle.geometry.specs.declared.piece.Mark.{Mark}
use Rattle.geometry.specs.declared.piece.Mark.TheVariants.{Placed, Laid}
use Rattle.geometry.specs.declared.piece.Piece.{Piece}
use Rattle.geometry.specs.declared.question.Question.{Question}
use Rattle.geometry.specs.Lists.{all_of, any_of}
use Rattle.geometry.specs.Nets.{different_nets}

abbrev pub widened : ℕ → Span → Span
widened d s = record { low = s.low -ℤ pos d; high = s.high +ℤ pos d }

abbrev pub moved_out : ℕ → Rect → Rect
moved_out d r = record { x = widened d r.x; y = widened d r.y }

-- The zone of a piece at a reach and a space: its rectangle moved out by the reach and the larger of the two spaces. Its border
-- is not part of it.
abbrev pub zone : Piece → ℕ → ℕ → Rect
zone p reach space = moved_out (reach + max space p.space) p.rect

abbrev pub crosses : Span → Span → Bool
crosses s t = int_lt s.low t.high && int_lt t.low s.high

abbrev pub meets : Rect → Rect → Bool
meets z b = crosses z.x b.x && crosses z.y b.y

abbrev pub is_laid : Mark → Bool
is_laid Placed = false
is_laid Laid = true

-- Where only laid pieces count, a placed one does not.
abbrev pub counts : Question → Piece → Bool
counts q p = not q.laid || is_laid p.mark

abbrev pub in_way : Question → Piece → Bool
in_way q p =
    counts q p
    && (p.layer == q.layer && (different_nets p.net q.net && meets (zone p q.reach q.space) q.area))

abbrev pub none_in_way : Question → List Piece → Bool
none_in_way q = all_of (λ p. not (in_way q p))

-- whether a piece in the way has this job number
abbrev pub in_way_by : Question → List Piece → ℕ → Bool
in_way_by q ps job = any_of (λ p. in_way q p && p.job == job) ps
