-- The clearance that standing pieces keep from one another. Assumes nothing.
--     apart g a b        two rectangles lie apart by g
--     keep_clear a b     two pieces keep the clearance that they owe one another
--     clear ps           all of some pieces do
--     proper p           a rectangle has a width and a height
use Rattle.std.specs.Prelude.{ℕ, max, Bool, true, not, ◌&&◌, ◌||◌, List, [], ◌∷◌, pos, ◌+ℤ◌, ◌==◌, int_le, int_lt}
use Rattle.geometry.specs.declared.rect.Span.{Span}
use Rattle.geometry.specs.declared.rect.Rect.{Rect}
use Rattle.geometry.specs.declared.piece.Piece.{Piece}
use Rattle.geometry.specs.Lists.{all_of}
use Rattle.geometry.specs.Nets.{different_nets}
use Rattle.geometry.specs.Zones.{is_laid}

-- The low border of one is at least the high border of the other plus g.
abbrev pub apart_along : ℕ → Span → Span → Bool
apart_along g a b = int_le (b.high +ℤ pos g) a.low || int_le (a.high +ℤ pos g) b.low

-- in x or in y
abbrev pub apart : ℕ → Rect → Rect → Bool
apart g a b = apart_along g a.x b.x || apart_along g a.y b.y

-- Pieces of different nets on one layer, at least one of them laid, lie apart by the larger of their spaces.
abbrev pub keep_clear : Piece → Piece → Bool
keep_clear a b =
    not (a.layer == b.layer && (different_nets a.net b.net && (is_laid a.mark || is_laid b.mark)))
    || apart (max a.space b.space) a.rect b.rect

abbrev pub clear : List Piece → Bool
clear [] = true
clear (p ∷ ps) = all_of (keep_clear p) ps && clear ps

abbrev pub proper : Piece → Bool
proper p = int_lt p.rect.x.low p.rect.x.high && int_lt p.rect.y.low p.rect.y.high

-- What every call keeps: proper rectangles, and clearance. The zone of an inverted rectangle may be empty, so that a question
-- would pass it by; hence both together.
abbrev pub in_order : List Piece → Bool
in_order ps = all_of proper ps && clear ps
