-- What a ground allows: its size, and which boxes are free. Assumes nothing.
--     small s                  a panel of this size is small enough for a flood
--     Asked s c net g          a ground is of this size, class and net
--     ground_rules g ps        what a ground allows where these pieces stand
--     next_along a p           the step along an axis from a point to the next
--     free_on_both R l area    a box is free for vias on a layer and on the next
use Rattle.std.specs.Prelude.{◌≡◌, ℕ, ◌+◌, Bool, ◌&&◌, List}
use Rattle.geometry.specs.declared.axis.Axis.{Axis}
use Rattle.geometry.specs.declared.axis.Axis.TheVariants.{X, Y}
use Rattle.geometry.specs.declared.point.Point.{Point}
use Rattle.geometry.specs.declared.size.Size.{Size}
use Rattle.geometry.specs.declared.rect.Rect.{Rect}
use Rattle.geometry.specs.declared.class.Class.{Class}
use Rattle.geometry.specs.declared.piece.Piece.{Piece}
use Rattle.geometry.specs.Sizes.{within}
use Rattle.routes.specs.Routes.{Move, along_x, along_y, Rules}
use Rattle.routes.specs.Rules.{rules_of}
use Rattle.flood.specs.declared.ground.Ground.{Ground}

abbrev pub small : Size → Bool
small = within 1000 8

pub record Asked (s : Size) (c : Class) (net : ℕ) (g : Ground) : Type 0 where
  pub size_is : g.size ≡ s
  pub class_is : g.class ≡ c
  pub net_is : g.net ≡ net

abbrev pub ground_rules : Ground → List Piece → Rules
ground_rules g = rules_of g.size.width g.size.height g.size.layers g.class g.net

abbrev pub next_along : Axis → Point → Move
next_along X p = along_x (p.x + 1)
next_along Y p = along_y (p.y + 1)

abbrev pub free_on_both : Rules → ℕ → Rect → Bool
free_on_both R layer area = R.via layer area && R.via (layer + 1) area
