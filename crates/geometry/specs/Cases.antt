-- Worked cases of nets, zones and gaps, as rows. Assumes nothing.
--     keep_out       on layer 1 from 40, 0 to 50, 60, with space 0
--     thin           a class of half width 2, space 3 and pad half size 3
--     wire           a laid piece of the class's space and net 7, 10 wide and 10 high
--     beside g       a placed piece of space 0 and net 8, at a gap of g beside the wire
use Rattle.std.specs.Prelude.{◌≡◌, ℕ, ◌+◌, Bool, true, false, not, ◌&&◌, ◌||◌, List, [], ◌∷◌, ℤ, pos, negsuc}
use Rattle.geometry.specs.declared.rect.Rect.{Rect}
use Rattle.geometry.specs.declared.piece.Mark.TheVariants.{Placed, Laid}
use Rattle.geometry.specs.declared.piece.Piece.{Piece}
use Rattle.geometry.specs.declared.class.Class.{Class}
use Rattle.geometry.specs.Lists.{all_of}
use Rattle.geometry.specs.Nets.{different_nets}
use Rattle.geometry.specs.Zones.{zone, meets, in_way}
use Rattle.geometry.specs.Clearance.{keep_clear}
use Rattle.geometry.specs.Laws.{room_of}

-- from x1, y1 to x2, y2
abbrev pub rectangle : ℤ → ℤ → ℤ → ℤ → Rect
rectangle x1 y1 x2 y2 = record { x = record { low = x1; high = x2 }; y = record { low = y1; high = y2 } }

abbrev pub keep_out : Piece
keep_out = record { layer = 1; rect = rectangle (pos 40) (pos 0) (pos 50) (pos 60); net = 0; space = 0; job = 1; mark = Placed }

abbrev pub thin : Class
thin = record { half = 2; space = 3; pad = 3; measured = tt }

abbrev pub wire : Piece
wire = record { layer = 1; rect = rectangle (pos 0) (pos 0) (pos 10) (pos 10); net = 7; space = thin.space; job = 1; mark = Laid }

abbrev pub beside : ℕ → Piece
beside g = record { layer = 1; rect = rectangle (pos (10 + g)) (pos 0) (pos (20 + g)) (pos 10); net = 8; space = 0; job = 2; mark = Placed }

abbrev pub agree : Bool → Bool → Bool
agree a b = (a && b) || (not a && not b)

-- A row: two nets, and whether they are different.
pub record NetRow : Type 0 where
  pub one : ℕ
  pub other : ℕ
  pub differ : Bool

abbrev pub net_rows : List NetRow
net_rows =
    record { one = 0; other = 0; differ = true }
    ∷ record { one = 0; other = 7; differ = true }
    ∷ record { one = 7; other = 0; differ = true }
    ∷ record { one = 7; other = 7; differ = false }
    ∷ record { one = 7; other = 8; differ = true }
    ∷ []

abbrev pub net_holds : NetRow → Bool
net_holds w = agree (different_nets w.one w.other) w.differ

-- A row: a reach, a box at y 30 from one x to another, and whether the keep-out's zone at the class's space meets the box.
pub record ZoneRow : Type 0 where
  pub reach : ℕ
  pub from : ℕ
  pub to : ℕ
  pub met : Bool

abbrev pub zone_rows : List ZoneRow
zone_rows =
    -- a via at 34 is not in the zone, at 35 it is; so at 55 and 56
    record { reach = thin.pad; from = 34; to = 34; met = false }
    ∷ record { reach = thin.pad; from = 35; to = 35; met = true }
    ∷ record { reach = thin.pad; from = 55; to = 55; met = true }
    ∷ record { reach = thin.pad; from = 56; to = 56; met = false }
    -- a wire step up to 35 is not in the zone, from 35 on it is; so at 55
    ∷ record { reach = thin.half; from = 34; to = 35; met = false }
    ∷ record { reach = thin.half; from = 35; to = 36; met = true }
    ∷ record { reach = thin.half; from = 54; to = 55; met = true }
    ∷ record { reach = thin.half; from = 55; to = 56; met = false }
    ∷ []

abbrev pub zone_holds : ZoneRow → Bool
zone_holds w =
    agree (meets (zone keep_out w.reach thin.space) (rectangle (pos w.from) (pos 30) (pos w.to) (pos 30))) w.met

-- A row: a gap between the wire and the piece beside it, and whether it suffices.
pub record GapRow : Type 0 where
  pub gap : ℕ
  pub suffices : Bool

abbrev pub gap_rows : List GapRow
gap_rows =
    record { gap = 0; suffices = false }
    ∷ record { gap = 2; suffices = false }
    ∷ record { gap = 3; suffices = true }
    ∷ record { gap = 4; suffices = true }
    ∷ []

-- as clearance, and as the question for room asks it
abbrev pub gap_holds : GapRow → Bool
gap_holds w =
    agree (keep_clear wire (beside w.gap)) w.suffices
    && agree (not (in_way (room_of (beside w.gap)) wire)) w.suffices

pub record WorkedZones : Type 0 where
  -- The keep-out's wire zone runs from 35 to 55 in x, its via zone from 34 to 56.
  pub wire_zone : zone keep_out thin.half thin.space ≡ rectangle (pos 35) (negsuc 4) (pos 55) (pos 65)
  pub via_zone : zone keep_out thin.pad thin.space ≡ rectangle (pos 34) (negsuc 5) (pos 56) (pos 66)
  pub nets : all_of net_holds net_rows ≡ true
  pub zones : all_of zone_holds zone_rows ≡ true
  pub gaps : all_of gap_holds gap_rows ≡ true
