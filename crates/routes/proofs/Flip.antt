-- The same panel and routes with x and y exchanged. Assumes nothing.
use Rattle.std.proofs.Common.{◌≡◌, T, List, [], ◌∷◌, refl, ap}
use Rattle.geometry.specs.declared.axis.Axis.{Axis}
use Rattle.geometry.specs.declared.axis.Axis.TheVariants.{X, Y}
use Rattle.geometry.specs.declared.point.Point.{Point}
use Rattle.geometry.specs.declared.rect.Rect.{Rect}
use Rattle.costs.specs.Amounts.{Tariff}
use Rattle.routes.specs.Routes.{Move, along_x, along_y, to_layer, after, end, Rules, inside, lawful_move, lawful, price, cost}
use Rattle.routes.proofs.Moves.{this_move, later_moves, more_moves, layer_inside, x_inside, y_inside, is_inside, move_inside}
use Rattle.routes.proofs.Moves.{move_free, move_lawful}
use Rattle.routes.proofs.Shift.{xs, ys}

abbrev pub flip_point : Point → Point
flip_point p = record { layer = p.layer; x = p.y; y = p.x }

abbrev pub flip_rect : Rect → Rect
flip_rect r = record { x = r.y; y = r.x }

-- as it is along x, exchanged along y
abbrev pub turn : Axis → Rect → Rect
turn X r = r
turn Y r = flip_rect r

abbrev pub flip_rules : Rules → Rules
flip_rules R = record {
  width = R.height;
  height = R.width;
  layers = R.layers;
  wire = λ l r. R.wire l (flip_rect r);
  via = λ l r. R.via l (flip_rect r);
}

abbrev pub flip_tariff : {M : Type 0} → Tariff M → Tariff M
flip_tariff tf = record { sums = tf.sums; prices = record { x = tf.prices.y; y = tf.prices.x; via = tf.prices.via } }

abbrev pub flip : List Move → List Move
flip [] = []
flip (along_x x ∷ r) = along_y x ∷ flip r
flip (along_y y ∷ r) = along_x y ∷ flip r
flip (to_layer l ∷ r) = to_layer l ∷ flip r

pub xs_flip : (r : List Move) → xs (flip r) ≡ ys r
xs_flip [] = refl
xs_flip (along_x x ∷ r) = xs_flip r
xs_flip (along_y y ∷ r) = ap (λ ts. y ∷ ts) (xs_flip r)
xs_flip (to_layer l ∷ r) = xs_flip r

pub ys_flip : (r : List Move) → ys (flip r) ≡ xs r
ys_flip [] = refl
ys_flip (along_x x ∷ r) = ap (λ ts. x ∷ ts) (ys_flip r)
ys_flip (along_y y ∷ r) = ys_flip r
ys_flip (to_layer l ∷ r) = ys_flip r

pub end_flip : (p : Point) (r : List Move) → end (flip_point p) (flip r) ≡ flip_point (end p r)
end_flip p [] = refl
end_flip p (along_x x ∷ r) = end_flip (after p (along_x x)) r
end_flip p (along_y y ∷ r) = end_flip (after p (along_y y)) r
end_flip p (to_layer l ∷ r) = end_flip (after p (to_layer l)) r

pub inside_flip : (R : Rules) (p : Point) → T (inside R p) → T (inside (flip_rules R) (flip_point p))
inside_flip R p h = is_inside (flip_rules R) (flip_point p) (layer_inside R p h) (y_inside R p h) (x_inside R p h)

pub lawful_flip : (R : Rules) (p : Point) (r : List Move) → T (lawful R p r) → T (lawful (flip_rules R) (flip_point p) (flip r))
lawful_flip R p [] h = tt
lawful_flip R p (along_x x ∷ r) h =
    let ok = this_move (lawful_move R) p (along_x x) r h in
    more_moves (lawful_move (flip_rules R)) (flip_point p) (along_y x) (flip r)
    (move_lawful (flip_rules R) (flip_point p) (along_y x)
    (inside_flip R (after p (along_x x)) (move_inside R p (along_x x) ok)) (move_free R p (along_x x) ok))
    (lawful_flip R (after p (along_x x)) r (later_moves (lawful_move R) p (along_x x) r h))
lawful_flip R p (along_y y ∷ r) h =
    let ok = this_move (lawful_move R) p (along_y y) r h in
    more_moves (lawful_move (flip_rules R)) (flip_point p) (along_x y) (flip r)
    (move_lawful (flip_rules R) (flip_point p) (along_x y)
    (inside_flip R (after p (along_y y)) (move_inside R p (along_y y) ok)) (move_free R p (along_y y) ok))
    (lawful_flip R (after p (along_y y)) r (later_moves (lawful_move R) p (along_y y) r h))
lawful_flip R p (to_layer l ∷ r) h =
    let ok = this_move (lawful_move R) p (to_layer l) r h in
    more_moves (lawful_move (flip_rules R)) (flip_point p) (to_layer l) (flip r)
    (move_lawful (flip_rules R) (flip_point p) (to_layer l)
    (inside_flip R (after p (to_layer l)) (move_inside R p (to_layer l) ok)) (move_free R p (to_layer l) ok))
    (lawful_flip R (after p (to_layer l)) r (later_moves (lawful_move R) p (to_layer l) r h))

pub cost_flip : {M : Type 0} (tf : Tariff M) (p : Point) (r : List Move)
    → cost (flip_tariff tf) (flip_point p) (flip r) ≡ cost tf p r
cost_flip tf p [] = refl
cost_flip tf p (along_x x ∷ r) = ap (tf.sums.plus (price tf p (along_x x))) (cost_flip tf (after p (along_x x)) r)
cost_flip tf p (along_y y ∷ r) = ap (tf.sums.plus (price tf p (along_y y))) (cost_flip tf (after p (along_y y)) r)
cost_flip tf p (to_layer l ∷ r) = ap (tf.sums.plus (price tf p (to_layer l))) (cost_flip tf (after p (to_layer l)) r)
