-- A placed piece that no laid one is in the way of keeps the pieces in order. Assumes nothing.
use Rattle.std.proofs.Common.{◌≡◌, ℕ, not, T, List, [], ◌∷◌, ◌++◌, sym, subst, arith}
use Rattle.geometry.specs.Lists.{all_of}
use Rattle.geometry.specs.Zones.{none_in_way, in_way_by}
use Rattle.geometry.specs.Clearance.{keep_clear, in_order}
use Rattle.geometry.specs.declared.piece.Piece.{Piece}
use Rattle.geometry.specs.declared.question.Question.{Question}
use Rattle.geometry.proofs.Clearances.{clear_is_room}
use Rattle.panel.specs.declared.sheet.Sheet.{Sheet}
use Rattle.panel.specs.declared.calls.Placement.{Placement}
use Rattle.panel.specs.Standing.{placed}
use Rattle.panel.specs.Calls.{well_placed, room_for}
use Rattle.panel.proofs.Orders.{in_order_more}

all_clear : (a : Placement) (job : ℕ) (ps : List Piece) → T (none_in_way (room_for a) ps) → T (all_of (λ p. keep_clear p (placed a job)) ps)
all_clear a job [] h = tt
all_clear a job (p ∷ ps) h = grind (arith, clear_is_room p (placed a job), all_clear a job ps)

-- a job in the way is one of a piece in the way
pub blocked : (q : Question) (ps : List Piece) (job : ℕ) → T (in_way_by q ps job) → T (not (none_in_way q ps))
blocked q [] job h = h
blocked q (p ∷ ps) job h = grind (arith, blocked q ps job)

-- what stands once a piece was placed
pub with_in_order :
    (s : Sheet) (a : Placement) (job : ℕ) (before after : List Piece) → after ≡ before ++ (placed a job ∷ []) → T (well_placed s a)
    → T (none_in_way (room_for a) before) → T (in_order before) → T (in_order after)
with_in_order s a job before after e well free h =
    subst (λ ps. T (in_order ps)) (sym e) (in_order_more before (placed a job) (grind arith) (all_clear a job before free) h)

-- what the call of place stands on
pub ruleset placing_laws = (blocked, with_in_order)
