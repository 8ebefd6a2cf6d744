-- How zones and clearance hang together. Assumes nothing.
use Rattle.std.specs.Prelude.{◌≡◌, ℕ, max, not}
use Rattle.geometry.specs.declared.rect.Rect.{Rect}
use Rattle.geometry.specs.declared.piece.Piece.{Piece}
use Rattle.geometry.specs.declared.question.Question.{Question}
use Rattle.geometry.specs.Zones.{moved_out, zone, meets, is_laid, in_way}
use Rattle.geometry.specs.Clearance.{apart, keep_clear}

-- What asks whether a piece has room where it is: reach 0, its own rectangle and space. For a placed piece only laid ones count.
abbrev pub room_of : Piece → Question
room_of p = record { layer = p.layer; net = p.net; reach = 0; space = p.space; area = p.rect; laid = not (is_laid p.mark) }

-- They hold of all rectangles and pieces, inverted ones included.
pub record ClearanceLaws : Type 0 where
  -- Two rectangles lie apart by g exactly if the one moved out by g does not meet the other.
  pub apart_is : (g : ℕ) (a b : Rect) → apart g a b ≡ not (meets (moved_out g a) b)
  -- Two pieces lie apart by the larger of their spaces exactly if the zone of one, at reach 0 and the other's space, does not
  -- meet the other.
  pub zone_is : (p q : Piece) → apart (max p.space q.space) p.rect q.rect ≡ not (meets (zone p 0 q.space) q.rect)
  -- Two pieces keep clear exactly if the one is not in the way of the other's room.
  pub clear_is : (p q : Piece) → keep_clear p q ≡ not (in_way (room_of q) p)
  pub apart_symmetric : (g : ℕ) (a b : Rect) → apart g a b ≡ apart g b a
  pub clear_symmetric : (p q : Piece) → keep_clear p q ≡ keep_clear q p
