-- What it gives that lines are enough: the terminals and the borders of both zones are lines. Assumes nothing.
use Rattle.std.proofs.Common.{◌≡◌, ℕ, ◌≤◌, Bool, true, false, cond, T, leb, List, [], ◌∷◌, ℤ, pos, negsuc, sym, refl, subst, inl, inr, arith}
use Rattle.std.proofs.lemmas.Bool.{le-leb}
use Rattle.geometry.specs.declared.class.Class.{Class}
use Rattle.geometry.specs.declared.piece.Piece.{Piece}
use Rattle.geometry.specs.declared.rect.Span.{Span}
use Rattle.geometry.specs.declared.rect.Rect.{Rect}
use Rattle.geometry.specs.Lists.{flat, mem}
use Rattle.geometry.specs.Nets.{different_nets}
use Rattle.routes.specs.Lines.{borders, on_panel, others, coordinates, lines, x_lines, y_lines, among}
use Rattle.routes.specs.Claims.{OwnLinesAreEnough}
use Rattle.routes.proofs.Bools.{both}
use Rattle.routes.proofs.Listed.{In, in_flat, in_kept, mem_in, mem_distinct, among_says, among_itself}
use Rattle.routes.proofs.Zoned.{Lined, ZonesLined}

in_on_panel : (size n : ℕ) (zs : List ℤ) → In (pos n) zs → n ≤ size → In n (on_panel size zs)
in_on_panel size n [] i fits = absurd i
in_on_panel size n (pos m ∷ zs) (inl e) fits =
    let same : m ≡ n = cc in
    let on : leb m size ≡ true = le-leb m size (omega arith) in
    subst (λ b. In n (cond b (m ∷ on_panel size zs) (on_panel size zs))) (sym on) (inl same)
in_on_panel size n (pos m ∷ zs) (inr i) fits = later (leb m size) (in_on_panel size n zs i fits)
  where
    later : (b : Bool) → In n (on_panel size zs) → In n (cond b (m ∷ on_panel size zs) (on_panel size zs))
    later true h = inr h
    later false h = h
in_on_panel size n (negsuc m ∷ zs) (inl e) fits = absurd (let z : ◌≡◌ {A = ℕ} 0 1 = cc in omega arith)
in_on_panel size n (negsuc m ∷ zs) (inr i) fits = in_on_panel size n zs i fits

module _ (axis : Rect → Span) (size : ℕ) (c : Class) (net : ℕ) (pieces : List Piece) (a b : ℕ) (qs : List ℕ)
    (enough : T (among (lines axis size c net pieces a b) qs)) where
  line_has : (n : ℕ) → In n (coordinates axis size c net pieces a b) → T (mem n qs)
  line_has n i =
      among_says (lines axis size c net pieces a b) qs enough n
      (mem_distinct n (coordinates axis size c net pieces a b) (mem_in n (coordinates axis size c net pieces a b) i))

  pub first_terminal : T (mem a qs)
  first_terminal = line_has a (inl refl)

  pub second_terminal : T (mem b qs)
  second_terminal = line_has b (inr (inl refl))

  border_lined : (o : Piece) → In o pieces → T (different_nets o.net net) → (z : ℤ) → In z (borders axis c o) → Lined size qs z
  border_lined o i differs z k n e fits =
      line_has n (inr (inr (in_on_panel size n (flat (borders axis c) (others net pieces))
      (subst (λ v. In v (flat (borders axis c) (others net pieces))) e
      (in_flat (borders axis c) o z (others net pieces) (in_kept (λ p. different_nets p.net net) o pieces i differs) k))
      fits)))

  pub wire_zones_lined : ZonesLined axis qs size net c.half c.space pieces
  wire_zones_lined o i differs = (border_lined o i differs _ (inl refl), border_lined o i differs _ (inr (inl refl)))

  pub via_zones_lined : ZonesLined axis qs size net c.pad c.space pieces
  via_zones_lined o i differs =
      (border_lined o i differs _ (inr (inr (inl refl))), border_lined o i differs _ (inr (inr (inr (inl refl)))))

pub own_lines_are_enough : OwnLinesAreEnough
own_lines_are_enough width height c net pieces s t =
    both _ _ (among_itself (x_lines width c net pieces s.x t.x)) (among_itself (y_lines height c net pieces s.y t.y))
