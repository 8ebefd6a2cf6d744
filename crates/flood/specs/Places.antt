-- The points of the unit grid by their places, and the steps from them. Assumes nothing.
--     ground_size g       how many points there are
--     place_of g p        the place of a point, counted from 0; place_known, if it is on the panel
--     point_at g i        the point at a place
--     steps_at g ps i     which steps from the point at a place are lawful where these pieces stand
--     steps_of nodes      the steps of each node
--     SameSteps           what is known of some nodes may have changed, but not their steps
use Rattle.std.specs.Prelude.{◌≡◌, ℕ, ◌+◌, ◌-◌, ◌*◌, ◌/◌, ◌%◌, cond, List, [], Some, None, Option, map}
use Rattle.geometry.specs.declared.axis.Axis.TheVariants.{X, Y}
use Rattle.geometry.specs.declared.piece.Piece.{Piece}
use Rattle.geometry.specs.declared.point.Point.{Point}
use Rattle.routes.specs.Routes.{to_layer, inside, lawful_move}
use Rattle.flood.specs.declared.ground.Ground.{Ground}
use Rattle.flood.specs.declared.node.Steps.{Steps}
use Rattle.flood.specs.declared.node.Node.{Node}
use Rattle.flood.specs.Grounds.{ground_rules, next_along}

abbrev pub ground_size : Ground → ℕ
ground_size g = g.size.layers * (g.size.height + 1) * (g.size.width + 1)

abbrev pub place_of : Ground → Point → ℕ
place_of g p = ((p.layer - 1) * (g.size.height + 1) + p.y) * (g.size.width + 1) + p.x

abbrev pub place_known : Ground → Point → Option ℕ
place_known g p = cond (inside (ground_rules g []) p) (Some (place_of g p)) None

abbrev pub point_at : Ground → ℕ → Point
point_at g i = record {
  layer = i / (g.size.width + 1) / (g.size.height + 1) + 1;
  x = i % (g.size.width + 1);
  y = i / (g.size.width + 1) % (g.size.height + 1);
}

abbrev pub steps_at : Ground → List Piece → ℕ → Steps
steps_at g ps i =
    let p = point_at g i in
    record {
      layer = p.layer;
      right = lawful_move (ground_rules g ps) p (next_along X p);
      up = lawful_move (ground_rules g ps) p (next_along Y p);
      above = lawful_move (ground_rules g ps) p (to_layer (p.layer + 1));
    }

abbrev pub steps_of : {C : Type 0} → List (Node C) → List Steps
steps_of = map (λ node. node.steps)

abbrev pub SameSteps : {C : Type 0} → List (Node C) → List (Node C) → Type 0
SameSteps before after = steps_of after ≡ steps_of before
