-- When a piece is in the way, by its zone's borders. Assumes nothing.
use borrow.Author.Differences.{ints}
use Rattle.std.proofs.Common.{◌≡◌, ℕ, suc, ◌<◌, ◌≤◌, not, T, eqb, ◌⊎◌, List, ℤ, pos, negsuc, refl, inl, inr, arith, ltb→lt, lt→ltb}
use lib.Signed.{lt_z}
use Rattle.std.proofs.lemmas.Bool.{cases_lt}
use Rattle.geometry.specs.declared.axis.Axis.{Axis}
use Rattle.geometry.specs.declared.axis.Axis.TheVariants.{X, Y}
use Rattle.geometry.specs.declared.piece.Piece.{Piece}
use Rattle.geometry.specs.declared.rect.Span.{Span}
use Rattle.geometry.specs.declared.rect.Rect.{Rect}
use Rattle.geometry.specs.Axes.{axis_of}
use Rattle.geometry.specs.Lists.{mem}
use Rattle.geometry.specs.Nets.{different_nets}
use Rattle.geometry.specs.Zones.{zone, crosses, in_way}
use Rattle.routes.specs.Rules.{ask, free}
use Rattle.routes.proofs.Bools.{left, right, both, refute, refuted}
use Rattle.routes.proofs.Listed.{In, all_of_says, all_of_from}
use Rattle.routes.proofs.Numbers.{NoLine}
use Rattle.routes.proofs.Shift.{Steady, wide}
use Rattle.routes.proofs.Flip.{turn}

-- why a piece is in the way of a box
pub record Blocks (net reach space layer : ℕ) (area : Rect) (o : Piece) : Type 0 where
  pub same_layer : T (eqb o.layer layer)
  pub different : T (different_nets o.net net)
  pub on_x : T (crosses (zone o reach space).x area.x)
  pub on_y : T (crosses (zone o reach space).y area.y)

module _ (net reach space layer : ℕ) (area : Rect) (o : Piece) where
  pub why_blocked : T (in_way (ask net reach space layer area) o) → Blocks net reach space layer area o
  why_blocked h = grind (arith, ints)

  pub blocked : Blocks net reach space layer area o → T (in_way (ask net reach space layer area) o)
  blocked b = both _ _ b.same_layer (both _ _ b.different (both _ _ b.on_x b.on_y))

-- along an axis, for a box with any span along the other
module _ {net reach space layer : ℕ} {o : Piece} where
  pub on_axis : (axis : Axis) (s y : Span) → Blocks net reach space layer (turn axis (record { x = s; y = y })) o
      → T (crosses (axis_of axis (zone o reach space)) s)
  on_axis X s y b = b.on_x
  on_axis Y s y b = b.on_y

  pub in_place : (axis : Axis) (s s' y : Span) → T (crosses (axis_of axis (zone o reach space)) s')
      → Blocks net reach space layer (turn axis (record { x = s; y = y })) o
      → Blocks net reach space layer (turn axis (record { x = s'; y = y })) o
  in_place X s s' y h b = record { same_layer = b.same_layer; different = b.different; on_x = h; on_y = b.on_y }
  in_place Y s s' y h b = record { same_layer = b.same_layer; different = b.different; on_x = b.on_x; on_y = h }

-- a box is free if each piece in its way is in the way of one of two boxes that are free
pub free_of_two : (net reach space : ℕ) (pieces : List Piece) (layer : ℕ) (area₁ area₂ area : Rect)
    → ((o : Piece) → In o pieces → Blocks net reach space layer area o → Blocks net reach space layer area₁ o ⊎ Blocks net
    reach space layer area₂ o)
    → T (free net reach space pieces layer area₁) → T (free net reach space pieces layer area₂)
    → T (free net reach space pieces layer area)
free_of_two net reach space pieces layer area₁ area₂ area back h₁ h₂ =
    all_of_from (λ o. not (in_way (ask net reach space layer area) o)) pieces (λ o i. refute _
    (λ h. elim (back o i (why_blocked net reach space layer area o h))
    [ inl b ↦ clash area₁ h₁ o i b | inr b ↦ clash area₂ h₂ o i b ]))
  where
    clash : (a : Rect) → T (free net reach space pieces layer a) → (o : Piece) → In o pieces
        → Blocks net reach space layer a o → ⊥
    clash a h o i b = refuted _ (all_of_says (λ v. not (in_way (ask net reach space layer a) v)) pieces h o i)
        (blocked net reach space layer a o b)

-- or of one that is
pub free_like : (net reach space : ℕ) (pieces : List Piece) (layer : ℕ) (area area' : Rect)
    → ((o : Piece) → In o pieces → Blocks net reach space layer area' o → Blocks net reach space layer area o)
    → T (free net reach space pieces layer area) → T (free net reach space pieces layer area')
free_like net reach space pieces layer area area' back h =
    free_of_two net reach space pieces layer area area area' (λ o i b. inl (back o i b)) h h

-- A border is one of some lines, if it lies on a panel of this size.
abbrev pub Lined : ℕ → List ℕ → ℤ → Type 0
Lined size qs z = (n : ℕ) → z ≡ pos n → n ≤ size → T (mem n qs)

module _ (qs : List ℕ) (size : ℕ) where
  low_stays : (low : ℤ) (b b' : ℕ) → Lined size qs low → b' ≤ size → NoLine qs b b' → T (lt_z low (pos b')) → T (lt_z low (pos b))
  low_stays (pos n) b b' line within clear h =
      let lt : n < b' = ltb→lt _ _ h in
      elim (cases_lt n b) [ inl k ↦ lt→ltb _ _ k | inr ge ↦ absurd (clear n (line n refl (omega arith)) ge lt) ]
  low_stays (negsuc n) b b' line within clear h = tt

  high_stays : (high : ℤ) (a a' : ℕ) → Lined size qs high → a ≤ size → NoLine qs (suc a') (suc a) → T (lt_z (pos a') high)
      → T (lt_z (pos a) high)
  high_stays (pos n) a a' line within clear h =
      let lt : a' < n = ltb→lt _ _ h in
      elim (cases_lt a n) [ inl k ↦ lt→ltb _ _ k | inr ge ↦ absurd (clear n (line n refl (omega arith)) lt (omega arith)) ]
  high_stays (negsuc n) a a' line within clear h = absurd h

  -- an open span with lined borders crosses what has grown over no line only if it did before
  crosses_stays : (z : Span) (a b a' b' : ℕ) → Lined size qs z.low → Lined size qs z.high → a ≤ size → b' ≤ size
      → NoLine qs b b' → NoLine qs (suc a') (suc a)
      → T (crosses z (record { low = pos a'; high = pos b' })) → T (crosses z (record { low = pos a; high = pos b }))
  crosses_stays z a b a' b' low high fa fb up down h = both _ _ (low_stays z.low b b' low fb up (left _ _ h))
      (high_stays z.high a a' high fa down (right _ _ h))

-- The borders of the zones along an axis are lines, of all pieces of a different net.
abbrev pub ZonesLined : (Rect → Span) → List ℕ → ℕ → ℕ → ℕ → ℕ → List Piece → Type 0
ZonesLined axis qs size net reach space pieces =
    (o : Piece) → In o pieces → T (different_nets o.net net)
    → Lined size qs (axis (zone o reach space)).low × Lined size qs (axis (zone o reach space)).high

pub free_steady : (axis : Axis) (qs : List ℕ) (size net reach space : ℕ) (pieces : List Piece)
    → ZonesLined (axis_of axis) qs size net reach space pieces
    → Steady qs size (λ l r. free net reach space pieces l (turn axis r))
free_steady axis qs size net reach space pieces lined l a b a' b' y fa fb up down =
    free_like net reach space pieces l (turn axis (wide a b y)) (turn axis (wide a' b' y)) (λ o i k.
    let borders = lined o i k.different in
    in_place axis _ _ y
    (crosses_stays qs size (axis_of axis (zone o reach space)) a b a' b' borders.0 borders.1 fa fb up down (on_axis axis _ y k)) k)
