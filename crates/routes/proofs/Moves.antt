-- What a route that passes a test says of its moves, and a lawful move of its end and its ground. Assumes nothing.
use Rattle.std.proofs.lemmas.Bool.Decides.{nat_tests}
use Rattle.std.proofs.Common.{arith}
use Rattle.std.proofs.Common.{ℕ, ◌≤◌, Bool, T, eqb, List, ◌∷◌, le→leb, leb→le}
use Rattle.geometry.specs.declared.point.Point.{Point}
use Rattle.geometry.specs.Boxes.{box}
use Rattle.geometry.specs.Ranges.{ranges}
use Rattle.routes.specs.Routes.{Move, along_x, to_layer, after, every, gap, Rules, inside, on_free_ground, lawful_move}
use Rattle.routes.proofs.Bools.{left, right, both}

module _ (test : Point → Move → Bool) (p : Point) (m : Move) (r : List Move) where
  pub this_move : T (every test p (m ∷ r)) → T (test p m)
  this_move h = left _ _ h

  pub later_moves : T (every test p (m ∷ r)) → T (every test (after p m) r)
  later_moves h = right _ _ h

  pub more_moves : T (test p m) → T (every test (after p m) r) → T (every test p (m ∷ r))
  more_moves h k = both _ _ h k

module _ (R : Rules) (p : Point) where
  pub layer_inside : T (inside R p) → T (ranges 1 R.layers p.layer)
  layer_inside h = left _ _ h

  pub x_inside : T (inside R p) → p.x ≤ R.width
  x_inside h = leb→le _ _ (left _ _ (right _ _ h))

  pub y_inside : T (inside R p) → p.y ≤ R.height
  y_inside h = grind (arith, nat_tests)

  pub is_inside : T (ranges 1 R.layers p.layer) → p.x ≤ R.width → p.y ≤ R.height → T (inside R p)
  is_inside l h k = both _ _ l (both _ _ (le→leb _ _ h) (le→leb _ _ k))

module _ (R : Rules) (p : Point) (m : Move) where
  pub move_inside : T (lawful_move R p m) → T (inside R (after p m))
  move_inside h = left _ _ h

  pub move_free : T (lawful_move R p m) → T (on_free_ground R p m)
  move_free h = right _ _ h

  pub move_lawful : T (inside R (after p m)) → T (on_free_ground R p m) → T (lawful_move R p m)
  move_lawful h k = both _ _ h k

-- where a run along x ends
pub x_within : (R : Rules) (p : Point) (x : ℕ) → T (lawful_move R p (along_x x)) → x ≤ R.width
x_within R p x h = x_inside R (after p (along_x x)) (move_inside R p (along_x x) h)

-- another place on the same row
pub put_inside : (R : Rules) (p : Point) (x : ℕ) → x ≤ R.width → T (inside R p) → T (inside R (after p (along_x x)))
put_inside R p x fits h = is_inside R (after p (along_x x)) (layer_inside R p h) fits (y_inside R p h)

-- a via's two layers are next to one another, and free at its point
module _ (R : Rules) (p : Point) (l : ℕ) where
  pub via_next : T (on_free_ground R p (to_layer l)) → T (eqb (gap p.layer l) 1)
  via_next h = left _ _ h

  pub via_here : T (on_free_ground R p (to_layer l)) → T (R.via p.layer (box p p))
  via_here h = left _ _ (right _ _ h)

  pub via_there : T (on_free_ground R p (to_layer l)) → T (R.via l (box p p))
  via_there h = grind (arith, nat_tests)
