-- What each call answers: its checks in their order, and what an accepted one hands back. Assumes nothing.
use Rattle.std.specs.Prelude.{◌≡◌, ℕ, ◌+◌, ◌-◌, Bool, true, not, ◌&&◌, T, List, [], ◌∷◌, length, Ok, Err, Result, ◌==◌, nat_le, nat_lt}
use Rattle.geometry.specs.Lists.{any_of}
use Rattle.geometry.specs.Sizes.{has_layer, covers}
use Rattle.geometry.specs.Zones.{none_in_way, in_way_by}
use Rattle.geometry.specs.declared.question.Question.{Question}
use Rattle.registers.specs.Standing.{of_job, count_of_job}
use Rattle.panel.specs.declared.sheet.Sheet.{Sheet}
use Rattle.panel.specs.declared.calls.Placement.{Placement}
use Rattle.panel.specs.declared.refusal.Refusal.{Refusal}
use Rattle.panel.specs.Standing.{Standing, rect_of}
use Rattle.panel.specs.Checks.{Check, check, check_with, NoCause, RefusedBy}

-- ---- place

-- what a placement asks of the register: reach 0, its own rectangle and space, laid pieces only
abbrev pub room_for : Placement → Question
room_for a = record { layer = a.layer; net = a.net; reach = 0; space = a.space; area = rect_of a; laid = true }

-- on the panel, with a width and a height, and no larger a space than a piece may have
abbrev pub well_placed : Sheet → Placement → Bool
well_placed s a =
    covers s.size a.x1 a.y1 && covers s.size a.x2 a.y2 && nat_lt a.x1 a.x2 && nat_lt a.y1 a.y2 && nat_le a.space 1000

-- A piece in the way is named by its job number; which, if there are several, is free.
abbrev pub in_way_check : Standing → Placement → Check
in_way_check st a = record {
  number = 8;
  cause = T (not (none_in_way (room_for a) st.pieces));
  returns = λ job. T (in_way_by (room_for a) st.pieces job);
}

abbrev pub place_checks : Sheet → ℕ → Standing → Placement → List Check
place_checks s places st a =
    check 2 (T (not (has_layer s.size a.layer)))
    ∷ check 4 (T (nat_lt 255 a.net))
    ∷ check 5 (T (not (well_placed s a)))
    ∷ in_way_check st a
    ∷ check_with 7 (T (nat_lt (places - length st.pieces) 1)) 1
    ∷ check 15 (T (st.jobs == 65535))
    ∷ []

abbrev pub PlaceAnswer : Sheet → ℕ → Standing → Placement → Result ℕ Refusal → Type 0
PlaceAnswer s places st a (Ok job) = NoCause (place_checks s places st a) × (job ≡ st.jobs + 1)
PlaceAnswer s places st a (Err e) = RefusedBy (place_checks s places st a) e

-- ---- lift

abbrev pub lift_checks : Standing → ℕ → List Check
lift_checks st job = check 9 (T (not (any_of (of_job job) st.pieces))) ∷ []

abbrev pub LiftAnswer : Standing → ℕ → Result ℕ Refusal → Type 0
LiftAnswer st job (Ok count) = NoCause (lift_checks st job) × (count ≡ count_of_job job st.pieces)
LiftAnswer st job (Err e) = RefusedBy (lift_checks st job) e
