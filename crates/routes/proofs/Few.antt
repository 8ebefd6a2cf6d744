-- How many lines a request has, and where they lie. Assumes nothing.
use Rattle.std.proofs.Common.{ℕ, ◌*◌, ◌≤◌, Bool, true, false, cond, T, leb, List, [], ◌∷◌, length, ℤ, pos, negsuc, arith, le→leb}
use Rattle.geometry.specs.declared.class.Class.{Class}
use Rattle.geometry.specs.declared.piece.Piece.{Piece}
use Rattle.geometry.specs.declared.rect.Span.{Span}
use Rattle.geometry.specs.declared.rect.Rect.{Rect}
use Rattle.geometry.specs.Lists.{all_of, flat, mem, distinct}
use Rattle.geometry.specs.Nets.{different_nets}
use Rattle.routes.specs.Lines.{borders, on_panel, others, coordinates}
use Rattle.routes.specs.Claims.{LinesLieOnThePanel, LinesAreFew}
use Rattle.routes.proofs.Bools.{left, right, both}

distinct_pass : (test : ℕ → Bool) (ns : List ℕ) → T (all_of test ns) → T (all_of test (distinct ns))
distinct_pass test [] h = tt
distinct_pass test (n ∷ ns) h = pick (mem n ns) (left _ _ h) (distinct_pass test ns (right _ _ h))
  where
    pick : (b : Bool) → T (test n) → T (all_of test (distinct ns)) → T (all_of test (cond b (distinct ns) (n ∷ distinct ns)))
    pick true h k = k
    pick false h k = both _ _ h k

on_panel_pass : (size : ℕ) (zs : List ℤ) → T (all_of (λ n. leb n size) (on_panel size zs))
on_panel_pass size [] = tt
on_panel_pass size (pos n ∷ zs) = pick (leb n size) (λ h. h) (on_panel_pass size zs)
  where
    pick : (b : Bool) → (T b → T (leb n size)) → T (all_of (λ n. leb n size) (on_panel size zs))
        → T (all_of (λ n. leb n size) (cond b (n ∷ on_panel size zs) (on_panel size zs)))
    pick true h k = both _ _ (h tt) k
    pick false h k = k
on_panel_pass size (negsuc n ∷ zs) = on_panel_pass size zs

pub lines_lie_on_the_panel : LinesLieOnThePanel
lines_lie_on_the_panel axis size c net pieces a b ha hb =
    let borders-on = on_panel size (flat (borders axis c) (others net pieces)) in
    distinct_pass (λ n. leb n size) (a ∷ b ∷ borders-on) (both _ _ (le→leb _ _ ha) (both _ _ (le→leb _ _ hb)
    (on_panel_pass size (flat (borders axis c) (others net pieces)))))

distinct_fewer : (ns : List ℕ) → length (distinct ns) ≤ length ns
distinct_fewer [] = omega arith
distinct_fewer (n ∷ ns) = pick (mem n ns) (distinct_fewer ns)
  where
    pick : (b : Bool) → length (distinct ns) ≤ length ns → length (cond b (distinct ns) (n ∷ distinct ns)) ≤ length (n ∷ ns)
    pick true h = omega arith
    pick false h = omega arith

on_panel_fewer : (size : ℕ) (zs : List ℤ) → length (on_panel size zs) ≤ length zs
on_panel_fewer size [] = omega arith
on_panel_fewer size (pos n ∷ zs) = pick (leb n size) (on_panel_fewer size zs)
  where
    pick : (b : Bool) → length (on_panel size zs) ≤ length zs
        → length (cond b (n ∷ on_panel size zs) (on_panel size zs)) ≤ length (pos n ∷ zs)
    pick true h = omega arith
    pick false h = omega arith
on_panel_fewer size (negsuc n ∷ zs) = let h : length (on_panel size zs) ≤ length zs = on_panel_fewer size zs in omega arith

others_borders : (axis : Rect → Span) (c : Class) (net : ℕ) (pieces : List Piece)
    → length (flat (borders axis c) (others net pieces)) ≤ 4 * length pieces
others_borders axis c net [] = omega arith
others_borders axis c net (p ∷ ps) = pick (different_nets p.net net) (others_borders axis c net ps)
  where
    pick : (b : Bool) → length (flat (borders axis c) (others net ps)) ≤ 4 * length ps
        → length (flat (borders axis c) (cond b (p ∷ others net ps) (others net ps))) ≤ 4 * length (p ∷ ps)
    pick true h = omega arith
    pick false h = omega arith

pub lines_are_few : LinesAreFew
lines_are_few axis size c net pieces a b =
    let all = flat (borders axis c) (others net pieces) in (
      distinct_fewer (coordinates axis size c net pieces a b),
      omega (arith, on_panel_fewer size all, others_borders axis c net pieces),
    )
