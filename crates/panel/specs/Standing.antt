-- What stands on a panel, and what an accepted call adds or takes out. Assumes nothing.
--     Standing                     the standing pieces in order of arrival, and the last job number given
--     placed a job                 the piece that a placement asks for
--     after_place, after_lift      what stands after a call, told by the call and its answer alone
use Rattle.std.specs.Prelude.{ℕ, ◌+◌, ◌<◌, ◌≤◌, List, [], ◌∷◌, ◌++◌, pos, Ok, Err, Result}
use Rattle.geometry.specs.declared.rect.Rect.{Rect}
use Rattle.geometry.specs.declared.piece.Piece.{Piece}
use Rattle.geometry.specs.declared.piece.Mark.TheVariants.{Placed}
use Rattle.registers.specs.Standing.{without_job}
use Rattle.panel.specs.declared.calls.Placement.{Placement}
use Rattle.panel.specs.declared.refusal.Refusal.{Refusal}

pub record Standing : Type 0 where
  pub pieces : List Piece
  pub jobs : ℕ

-- at opening
abbrev pub nothing_stands : Standing
nothing_stands = record { pieces = []; jobs = 0 }

abbrev pub rect_of : Placement → Rect
rect_of a = record { x = record { low = pos a.x1; high = pos a.x2 }; y = record { low = pos a.y1; high = pos a.y2 } }

-- a placement whose numbers fit those of a piece
pub record FitsPanel (a : Placement) : Type 0 where
  pub layer_fits : a.layer ≤ 8
  pub net_fits : a.net ≤ 255
  pub x_fits : a.x2 ≤ 60000
  pub y_fits : a.y2 ≤ 60000
  pub width_fits : a.x1 < a.x2
  pub height_fits : a.y1 < a.y2
  pub space_fits : a.space ≤ 1000

abbrev pub placed : Placement → ℕ → Piece
placed a job = record { layer = a.layer; rect = rect_of a; net = a.net; space = a.space; job = job; mark = Placed }

-- An accepted placement appends its piece, with the next job number.
abbrev pub after_place : Standing → Placement → Result ℕ Refusal → Standing
after_place st a (Ok job) = record { pieces = st.pieces ++ (placed a (st.jobs + 1) ∷ []); jobs = st.jobs + 1 }
after_place st a (Err e) = st

-- An accepted lift takes out all pieces of its number.
abbrev pub after_lift : Standing → ℕ → Result ℕ Refusal → Standing
after_lift st job (Ok count) = record { pieces = without_job job st.pieces; jobs = st.jobs }
after_lift st job (Err e) = st
