-- Routes with their x coordinates mapped: the map may pass over no line. Assumes nothing.
use Rattle.std.proofs.lemmas.Bool.Decides.{nat_tests}
use Rattle.std.proofs.Common.{◌≡◌, ℕ, suc, ◌+◌, ◌*◌, ◌≤◌, Bool, T, List, [], ◌∷◌, pos, refl, ap, arith}
use Rattle.geometry.specs.declared.point.Point.{Point}
use Rattle.geometry.specs.declared.rect.Span.{Span}
use Rattle.geometry.specs.declared.rect.Rect.{Rect}
use Rattle.geometry.specs.Boxes.{span, box}
use Rattle.costs.specs.Amounts.{Tariff}
use Rattle.routes.specs.Routes.{Move, along_x, along_y, to_layer, after, end, Rules, lawful_move, lawful, cost, gap}
use Rattle.routes.proofs.Bools.{both}
use Rattle.routes.proofs.Moves.{this_move, later_moves, move_inside, move_free, put_inside, via_next, via_here, via_there}
use Rattle.routes.proofs.Sums.{Ordered, leq_refl, mono_both, times_more, mono_right}
use Rattle.routes.proofs.Numbers.{NoLine}
use Rattle.routes.proofs.Balance.{Balance, balance_same, balance_plus, balance_times}

-- the x coordinates, and the y coordinates, that a route goes to
abbrev pub xs : List Move → List ℕ
xs [] = []
xs (along_x x ∷ r) = x ∷ xs r
xs (along_y y ∷ r) = xs r
xs (to_layer l ∷ r) = xs r

abbrev pub ys : List Move → List ℕ
ys [] = []
ys (along_x x ∷ r) = ys r
ys (along_y y ∷ r) = y ∷ ys r
ys (to_layer l ∷ r) = ys r

abbrev pub Each : (ℕ → Type 0) → List ℕ → Type 0
Each P [] = Unit {0}
Each P (x ∷ ts) = P x × Each P ts

pub each_like : (P Q : ℕ → Type 0) → ((x : ℕ) → P x → Q x) → (ts : List ℕ) → Each P ts → Each Q ts
each_like P Q f [] h = tt
each_like P Q f (x ∷ ts) h = (f x h.0, each_like P Q f ts h.1)

abbrev pub map_x : (ℕ → ℕ) → List Move → List Move
map_x f [] = []
map_x f (along_x x ∷ r) = along_x (f x) ∷ map_x f r
map_x f (along_y y ∷ r) = along_y y ∷ map_x f r
map_x f (to_layer l ∷ r) = to_layer l ∷ map_x f r

abbrev pub shift_x : (ℕ → ℕ) → Point → Point
shift_x f p = record { layer = p.layer; x = f p.x; y = p.y }

pub end_map_x : (f : ℕ → ℕ) (p : Point) (r : List Move) → end (shift_x f p) (map_x f r) ≡ shift_x f (end p r)
end_map_x f p [] = refl
end_map_x f p (along_x x ∷ r) = end_map_x f (after p (along_x x)) r
end_map_x f p (along_y y ∷ r) = end_map_x f (after p (along_y y)) r
end_map_x f p (to_layer l ∷ r) = end_map_x f (after p (to_layer l)) r

pub ys_map_x : (f : ℕ → ℕ) (r : List Move) → ys (map_x f r) ≡ ys r
ys_map_x f [] = refl
ys_map_x f (along_x x ∷ r) = ys_map_x f r
ys_map_x f (along_y y ∷ r) = ap (λ ts. y ∷ ts) (ys_map_x f r)
ys_map_x f (to_layer l ∷ r) = ys_map_x f r

pub each_map_x : (P Q : ℕ → Type 0) (f : ℕ → ℕ) → ((x : ℕ) → P x → Q (f x)) → (r : List Move) → Each P (xs r)
    → Each Q (xs (map_x f r))
each_map_x P Q f g [] h = tt
each_map_x P Q f g (along_x x ∷ r) h = (g x h.0, each_map_x P Q f g r h.1)
each_map_x P Q f g (along_y y ∷ r) h = each_map_x P Q f g r h
each_map_x P Q f g (to_layer l ∷ r) h = each_map_x P Q f g r h

pub shift_x_stays : (f : ℕ → ℕ) (p : Point) → f p.x ≡ p.x → shift_x f p ≡ p
shift_x_stays f p e = ap (λ i. after p (along_x i)) e

-- the box from a to b along x, with any span along y
abbrev pub wide : ℕ → ℕ → Span → Rect
wide a b y = record { x = record { low = pos a; high = pos b }; y = y }

-- A test of boxes in which only the lines count: a box that passes still does where it has grown over no line.
abbrev pub Steady : List ℕ → ℕ → (ℕ → Rect → Bool) → Type 0
Steady qs size test =
    (l a b a' b' : ℕ) (y : Span) → a ≤ size → b' ≤ size → NoLine qs b b' → NoLine qs (suc a') (suc a)
    → T (test l (wide a b y)) → T (test l (wide a' b' y))

-- f moves x within the size and over no line
pub record Safe (qs : List ℕ) (size : ℕ) (f : ℕ → ℕ) (x : ℕ) : Type 0 where
  pub was : x ≤ size
  pub now : f x ≤ size
  pub up : NoLine qs x (f x)
  pub down : NoLine qs (suc (f x)) (suc x)

pub steady_span : (qs : List ℕ) (size : ℕ) (test : ℕ → Rect → Bool) → Steady qs size test → (f : ℕ → ℕ) (l a b : ℕ) (y : Span)
    → Safe qs size f a → Safe qs size f b
    → T (test l (record { x = span a b; y = y })) → T (test l (record { x = span (f a) (f b); y = y }))
steady_span qs size test steady f l a b y here there = grind (arith, nat_tests)

module _ (R : Rules) (qs : List ℕ) (wires : Steady qs R.width R.wire) (vias : Steady qs R.width R.via)
    (f : ℕ → ℕ) where
  pub lawful_map_x : (p : Point) (r : List Move) → Safe qs R.width f p.x → Each (Safe qs R.width f) (xs r)
      → T (lawful R p r) → T (lawful R (shift_x f p) (map_x f r))
  lawful_map_x p [] here there h = tt
  lawful_map_x p (along_x x ∷ r) here there h =
      let ok = this_move (lawful_move R) p (along_x x) r h in
      both _ _
      (both _ _ (put_inside R (after p (along_x x)) (f x) there.0.now (move_inside R p (along_x x) ok))
      (steady_span qs R.width R.wire wires f p.layer p.x x (span p.y p.y) here there.0
      (move_free R p (along_x x) ok)))
      (lawful_map_x (after p (along_x x)) r there.0 there.1 (later_moves (lawful_move R) p (along_x x) r h))
  lawful_map_x p (along_y y ∷ r) here there h =
      let ok = this_move (lawful_move R) p (along_y y) r h in
      both _ _
      (both _ _ (put_inside R (after p (along_y y)) (f p.x) here.now (move_inside R p (along_y y) ok))
      (steady_span qs R.width R.wire wires f p.layer p.x p.x (span p.y y) here here
      (move_free R p (along_y y) ok)))
      (lawful_map_x (after p (along_y y)) r here there (later_moves (lawful_move R) p (along_y y) r h))
  lawful_map_x p (to_layer l ∷ r) here there h =
      let ok = this_move (lawful_move R) p (to_layer l) r h in
      let ground = move_free R p (to_layer l) ok in
      let moved : (k : ℕ) → T (R.via k (box p p)) → T (R.via k (box (shift_x f p) (shift_x f p))) =
      λ k. steady_span qs R.width R.via vias f k p.x p.x (span p.y p.y) here here in
      both _ _
      (both _ _ (put_inside R (after p (to_layer l)) (f p.x) here.now (move_inside R p (to_layer l) ok))
      (both _ _ (via_next R p l ground)
      (both _ _ (moved p.layer (via_here R p l ground)) (moved l (via_there R p l ground)))))
      (lawful_map_x (after p (to_layer l)) r here there (later_moves (lawful_move R) p (to_layer l) r h))

-- a distance as it is, and after two maps, in the parts of a `Balance`
abbrev pub Parts : ℕ → ℕ → ℕ → ℕ → Type 0
Parts j a b c = (rest : ℕ) × (l : ℕ) × (r : ℕ) × (a ≡ rest + (j * l + r)) × (b ≡ rest + suc j * r) × (c ≡ rest + suc j * l)

module _ {M : Type 0} (tf : Tariff M) {leq : M → M → Type 0} (laws : Ordered tf.sums leq) (P : ℕ → Type 0) where
  -- where no distance grows, no cost does
  pub cost_map_x : (f : ℕ → ℕ) → ((a b : ℕ) → P a → P b → gap (f a) (f b) ≤ gap a b) → (p : Point) (r : List Move) → P p.x
      → Each P (xs r)
      → leq (cost tf (shift_x f p) (map_x f r)) (cost tf p r)
  cost_map_x f shrinks p [] here there = leq_refl laws tf.sums.nothing
  cost_map_x f shrinks p (along_x x ∷ r) here there =
      mono_both laws (times_more laws _ _ _ (shrinks p.x x here there.0))
      (cost_map_x f shrinks (after p (along_x x)) r there.0 there.1)
  cost_map_x f shrinks p (along_y y ∷ r) here there =
      mono_right laws _ (cost_map_x f shrinks (after p (along_y y)) r here there)
  cost_map_x f shrinks p (to_layer l ∷ r) here there =
      mono_right laws _ (cost_map_x f shrinks (after p (to_layer l)) r here there)

  pub cost_balance : (j : ℕ) (f g : ℕ → ℕ) → ((a b : ℕ) → P a → P b → Parts j (gap a b) (gap (f a) (f b)) (gap (g a) (g b)))
      → (p : Point) (r : List Move) → P p.x → Each P (xs r)
      → Balance tf.sums j (cost tf p r) (cost tf (shift_x f p) (map_x f r)) (cost tf (shift_x g p) (map_x g r))
  cost_balance j f g parts p [] here there = balance_same laws j tf.sums.nothing
  cost_balance j f g parts p (along_x x ∷ r) here there =
      let s = parts p.x x here there.0 in
      balance_plus laws j
      (balance_times laws j (tf.prices.x p.layer) _ _ _ s.0 s.1 s.2 s.3 s.4 s.5)
      (cost_balance j f g parts (after p (along_x x)) r there.0 there.1)
  cost_balance j f g parts p (along_y y ∷ r) here there =
      balance_plus laws j (balance_same laws j _) (cost_balance j f g parts (after p (along_y y)) r here there)
  cost_balance j f g parts p (to_layer l ∷ r) here there =
      balance_plus laws j (balance_same laws j _) (cost_balance j f g parts (after p (to_layer l)) r here there)
