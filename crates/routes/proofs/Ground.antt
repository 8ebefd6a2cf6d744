-- What is free of wires where pieces stand: parts of a free box, and two free boxes joined. Assumes nothing.
use Rattle.std.proofs.lemmas.Bool.Decides.{nat_tests}
use Rattle.std.proofs.Common.{ℕ, ◌≤◌, T, ◌⊎◌, List, ℤ, pos, inl, inr, arith}
use lib.Signed.{lt_z}
use Rattle.geometry.specs.declared.axis.Axis.{Axis}
use Rattle.geometry.specs.declared.axis.Axis.TheVariants.{X, Y}
use Rattle.geometry.specs.declared.class.Class.{Class}
use Rattle.geometry.specs.declared.piece.Piece.{Piece}
use Rattle.geometry.specs.declared.rect.Span.{Span}
use Rattle.geometry.specs.Axes.{axis_of}
use Rattle.geometry.specs.Clearance.{proper}
use Rattle.geometry.specs.Lists.{all_of}
use Rattle.geometry.specs.Zones.{widened, zone, crosses}
use Rattle.routes.specs.Rules.{rules_of}
use Rattle.routes.proofs.Bools.{left, right}
use Rattle.routes.proofs.Listed.{In, all_of_says}
use Rattle.routes.proofs.Shift.{wide}
use Rattle.routes.proofs.Flip.{turn}
use Rattle.routes.proofs.Zoned.{free_like, free_of_two, on_axis, in_place}
use Rattle.routes.proofs.Splits.{PartsFree, JoinsFree}

abbrev closed : ℕ → ℕ → Span
closed a b = record { low = pos a; high = pos b }

below_more : (z : ℤ) (b b' : ℕ) → b' ≤ b → T (lt_z z (pos b')) → T (lt_z z (pos b))
below_more z b b' h k = grind (arith, nat_tests)

-- an open span that crosses a part of a closed one crosses it
crosses_part : (z : Span) (a b a' b' : ℕ) → a ≤ a' → b' ≤ b → T (crosses z (closed a' b')) → T (crosses z (closed a b))
crosses_part z a b a' b' h k t = grind (arith, nat_tests)

-- an open span that is not empty, and crosses what lies within two closed ones that touch, crosses one of them
crosses_joined : (z : Span) (a b b' c a' c' : ℕ) → T (lt_z z.low z.high) → a ≤ a' → b' ≤ b → c' ≤ c
    → T (crosses z (closed a' c')) → T (crosses z (closed a b)) ⊎ T (crosses z (closed b' c))
crosses_joined z a b b' c a' c' Has-inner h k l t = grind (arith, nat_tests)

-- a span that has a width has one when moved out
open_widened : (d : ℕ) (s : Span) → T (lt_z s.low s.high) → T (lt_z (widened d s).low (widened d s).high)
open_widened d s h = grind (arith, nat_tests)

module _ (width height layers : ℕ) (c : Class) (net : ℕ) (pieces : List Piece) where
  pub parts_free : PartsFree (rules_of width height layers c net pieces)
  parts_free axis l a b a' b' y h k =
      free_like net c.half c.space pieces l (turn axis (wide a b y)) (turn axis (wide a' b' y)) (λ o i n.
      in_place axis _ _ y (crosses_part (axis_of axis (zone o c.half c.space)) a b a' b' h k (on_axis axis _ y n)) n)

  module _ (are-proper : T (all_of proper pieces)) where
    open_zone : (axis : Axis) (o : Piece) → In o pieces
        → T (lt_z (axis_of axis (zone o c.half c.space)).low (axis_of axis (zone o c.half c.space)).high)
    open_zone X o i = open_widened _ o.rect.x (left _ _ (all_of_says proper pieces are-proper o i))
    open_zone Y o i = open_widened _ o.rect.y (right _ _ (all_of_says proper pieces are-proper o i))

    pub joins_free : JoinsFree (rules_of width height layers c net pieces)
    joins_free axis l a b b' d a' d' y h k m =
        free_of_two net c.half c.space pieces l (turn axis (wide a b y)) (turn axis (wide b' d y)) (turn axis (wide a' d' y))
        (λ o i n.
        elim (crosses_joined (axis_of axis (zone o c.half c.space)) a b b' d a' d' (open_zone axis o i) h k m (on_axis axis _ y n)) [
          | inl t ↦ inl (in_place axis _ _ y t n)
          | inr t ↦ inr (in_place axis _ _ y t n)
        ])
