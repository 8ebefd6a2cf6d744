-- What keeps out of a zone has its clearance when moved out itself. Assumes nothing.
use Rattle.std.proofs.lemmas.Bool.Decides.{nat_tests}
use Rattle.std.proofs.Common.{ℕ, ◌+◌, max, Bool, not, ◌&&◌, ◌||◌, T, eqb, ◌⊎◌, List, pos, ◌+ℤ◌, ◌-ℤ◌, ◌≤ℤ◌, subst, inl, inr, arith, eqb→eq}
use borrow.Author.Differences.{ints}
use lib.Dec.{eqb_refl}
use lib.Signed.{lt_z, le_z, lt_z_no}
use Rattle.geometry.specs.declared.piece.Piece.{Piece}
use Rattle.geometry.specs.declared.rect.Span.{Span}
use Rattle.geometry.specs.declared.rect.Rect.{Rect}
use Rattle.geometry.specs.Boxes.{box}
use Rattle.geometry.specs.Clearance.{apart_along, apart}
use Rattle.geometry.specs.Lists.{all_of}
use Rattle.geometry.specs.Nets.{different_nets}
use Rattle.geometry.specs.Zones.{widened, moved_out, zone, crosses, meets, is_laid, in_way}
use Rattle.routes.specs.Routes.{along_x, along_y, to_layer, after}
use Rattle.routes.specs.Rules.{ask, free, rules_of, clear_of}
use Rattle.routes.specs.Claims.{RunKeepsClear, ViaKeepsClear, ClearPiecesKeepClear}
use Rattle.routes.proofs.Bools.{first, second}
use Rattle.routes.proofs.Listed.{all_of_like}
use Rattle.routes.proofs.Moves.{move_free, via_here, via_there}

not_both : (a b : Bool) → T (not (a && b)) → T (not a) ⊎ T (not b)
not_both a b h = grind (arith, nat_tests)

-- along one axis: what a span moved out by h + g does not cross, moved out by h itself, lies apart from it by g
apart_moved_along : (h g : ℕ) (s b : Span) → T (not (crosses (widened (h + g) s) b)) → T (apart_along g (widened h b) s)
apart_moved_along h g s b k =
    let under = le_z (s.high +ℤ pos g) (widened h b).low in
    let over = le_z ((widened h b).high +ℤ pos g) s.low in
    elim (not_both (lt_z (s.low -ℤ pos (h + g)) b.high) (lt_z b.low (s.high +ℤ pos (h + g))) k) [
      | inl n ↦
          let n' : b.high ≤ℤ (s.low -ℤ pos (h + g)) = lt_z_no n in
          let r : ((b.high +ℤ pos h) +ℤ pos g) ≤ℤ s.low = omega (arith, ints) in
          second _ _ r.le
      | inr n ↦
          let n' : (s.high +ℤ pos (h + g)) ≤ℤ b.low = lt_z_no n in
          let r : (s.high +ℤ pos g) ≤ℤ (b.low -ℤ pos h) = omega (arith, ints) in
          first _ _ r.le
    ]

apart_moved : (h g : ℕ) (r b : Rect) → T (not (meets (moved_out (h + g) r) b)) → T (apart g (moved_out h b) r)
apart_moved h g r b k =
    let by-x = apart_along g (widened h b.x) r.x in
    let by-y = apart_along g (widened h b.y) r.y in
    elim (not_both (crosses (widened (h + g) r.x) b.x) (crosses (widened (h + g) r.y) b.y) k) [
      | inl n ↦ first _ _ (apart_moved_along h g r.x b.x n)
      | inr n ↦ second _ _ (apart_moved_along h g r.y b.y n)
    ]

if_counts : (l n m w : Bool) → (T (not m) → T w) → T (not (l && (n && m))) → T (not (l && n) || w)
if_counts l n m w f h = grind (arith, nat_tests)

free_clear : (net reach space : ℕ) (pieces : List Piece) (layer : ℕ) (area : Rect) → T (free net reach space pieces layer area)
    → T (all_of (clear_of layer net space (moved_out reach area)) pieces)
free_clear net reach space pieces layer area =
    all_of_like (λ o. not (in_way (ask net reach space layer area) o)) (clear_of layer net space (moved_out reach area)) pieces
    (λ o i. if_counts (eqb o.layer layer) (different_nets o.net net) (meets (zone o reach space) area)
    (apart (max space o.space) (moved_out reach area) o.rect)
    (apart_moved reach (max space o.space) o.rect area))

pub run_keeps_clear : RunKeepsClear
run_keeps_clear width height layers c net pieces p (along_x x) run ok =
    free_clear net c.half c.space pieces p.layer (box p (after p (along_x x)))
    (move_free (rules_of width height layers c net pieces) p (along_x x) ok)
run_keeps_clear width height layers c net pieces p (along_y y) run ok =
    free_clear net c.half c.space pieces p.layer (box p (after p (along_y y)))
    (move_free (rules_of width height layers c net pieces) p (along_y y) ok)
run_keeps_clear width height layers c net pieces p (to_layer l) run ok = absurd run

pub via_keeps_clear : ViaKeepsClear
via_keeps_clear width height layers c net pieces p l ok =
    let R = rules_of width height layers c net pieces in
    let ground = move_free R p (to_layer l) ok in (
      free_clear net c.pad c.space pieces p.layer (box p p) (via_here R p l ground),
      free_clear net c.pad c.space pieces l (box p p) (via_there R p l ground),
    )

apart_swap : (g : ℕ) (r b : Rect) → T (apart g r b) → T (apart g b r)
apart_swap g r b = grind (arith, ints)

different_swap : (a b : ℕ) → T (different_nets a b) → T (different_nets b a)
different_swap a b h = grind (arith, nat_tests)

-- a clearance that is owed under less is kept under more
owed : (l n d l' n' w w' : Bool) → (T l' → T l) → (T n' → T n) → (T w → T w') → T (not (l && n) || w)
    → T (not (l' && (n' && d)) || w')
owed l n d l' n' w w' f g h k = grind (arith, nat_tests)

pub clear_pieces_keep_clear : ClearPiecesKeepClear
clear_pieces_keep_clear a o h =
    let layers-swap : T (eqb a.layer o.layer) → T (eqb o.layer a.layer) =
    λ k. subst (λ n. T (eqb n a.layer)) (eqb→eq _ _ k) (eqb_refl a.layer) in
    let apart-o-a : T (apart (max a.space o.space) a.rect o.rect) → T
    (apart (max o.space a.space) o.rect a.rect) =
    λ k. subst (λ d. T (apart d o.rect a.rect)) (omega arith)
    (apart_swap (max a.space o.space) a.rect o.rect k) in (
      owed (eqb o.layer a.layer) (different_nets o.net a.net) (is_laid o.mark || is_laid a.mark)
          (eqb o.layer a.layer) (different_nets o.net a.net)
          (apart (max a.space o.space) a.rect o.rect) (apart (max o.space a.space) o.rect a.rect)
          (λ k. k) (λ k. k) apart-o-a h,
      owed (eqb o.layer a.layer) (different_nets o.net a.net) (is_laid a.mark || is_laid o.mark)
          (eqb a.layer o.layer) (different_nets a.net o.net)
          (apart (max a.space o.space) a.rect o.rect) (apart (max a.space o.space) a.rect o.rect)
          layers-swap (different_swap a.net o.net) (λ k. k) h,
    )
