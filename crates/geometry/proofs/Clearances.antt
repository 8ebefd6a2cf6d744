-- Zones and clearance: what a rectangle moved out does not meet lies apart from it. Assumes nothing.
use Rattle.std.proofs.Common.{◌≡◌, ℕ, ◌+◌, max, not, pos, ◌+ℤ◌, ap, ◌∙◌, arith}
use borrow.Author.Differences.{ints}
use lib.Signed.{le_z}
use Rattle.std.proofs.Math.Bool.{or_comm}
use Rattle.std.proofs.Math.Nat.{max_comm}
use Rattle.std.proofs.lemmas.Bool.Decides.{nat_tests}
use Rattle.geometry.specs.declared.rect.Span.{Span}
use Rattle.geometry.specs.declared.rect.Rect.{Rect}
use Rattle.geometry.specs.declared.piece.Piece.{Piece}
use Rattle.geometry.specs.Zones.{widened, moved_out, zone, crosses, meets, in_way}
use Rattle.geometry.specs.Clearance.{apart_along, apart, keep_clear}
use Rattle.geometry.specs.Laws.{room_of, ClearanceLaws}

along_is_uncrossed : (g : ℕ) (a b : Span) → apart_along g a b ≡ not (crosses (widened g a) b)
along_is_uncrossed g a b = grind (arith, ints)

pub apart_is_unmet : (g : ℕ) (a b : Rect) → apart g a b ≡ not (meets (moved_out g a) b)
apart_is_unmet g a b = grind (arith, nat_tests, along_is_uncrossed g a.x b.x, along_is_uncrossed g a.y b.y)

pub apart_is_outside : (p q : Piece)
    → apart (max p.space q.space) p.rect q.rect ≡ not (meets (zone p 0 q.space) q.rect)
apart_is_outside p q =
    let same : max p.space q.space ≡ 0 + max q.space p.space = omega arith in
    ap (λ d. apart d p.rect q.rect) same ∙ apart_is_unmet (0 + max q.space p.space) p.rect q.rect

pub clear_is_room : (p q : Piece) → keep_clear p q ≡ not (in_way (room_of q) p)
clear_is_room p q = grind (arith, nat_tests, apart_is_outside p q)

pub apart_turns : (g : ℕ) (a b : Rect) → apart g a b ≡ apart g b a
apart_turns g a b =
    let along : (a b : Span) → apart_along g a b ≡ apart_along g b a =
    λ a b. or_comm (le_z (b.high +ℤ pos g) a.low) (le_z (a.high +ℤ pos g) b.low) in
    rw (along a.x b.x, along a.y b.y)

pub clear_turns : (p q : Piece) → keep_clear p q ≡ keep_clear q p
clear_turns p q =
    let space = max_comm p.space q.space in
    let lie = apart_turns (max p.space q.space) p.rect q.rect in
    grind (arith, nat_tests, space, lie)

pub laws : ClearanceLaws
laws = record {
  apart_is = apart_is_unmet;
  zone_is = apart_is_outside;
  clear_is = clear_is_room;
  apart_symmetric = apart_turns;
  clear_symmetric = clear_turns;
}
