-- A route whose x coordinates are lines can be cut where it passes over a line, at the same cost: then each move along x
-- goes from a line to the next. Assumes nothing.
use Rattle.std.proofs.lemmas.Bool.Decides.{nat_tests}
use Rattle.std.proofs.Common.{◌≡◌, ℕ, zero, suc, ◌+◌, ◌<◌, ◌≤◌, min, max, Bool, true, ◌&&◌, T, List, [], ◌∷◌, sym, refl, ap, ◌∙◌, inl, inr, arith, eqb→eq, ltb, ltb→lt}
use Rattle.std.proofs.lemmas.Bool.{cases_eq}
use Rattle.geometry.specs.declared.point.Point.{Point}
use Rattle.geometry.specs.Lists.{mem}
use Rattle.costs.specs.Amounts.{Tariff, times}
use Rattle.routes.specs.Routes.{Move, along_x, along_y, to_layer, after, end, Rules, lawful_move, lawful, cost, gap}
use Rattle.routes.specs.Lines.{neighbours}
use Rattle.routes.proofs.Bools.{left, right, both, refute}
use Rattle.routes.proofs.Moves.{this_move, later_moves, more_moves, x_within}
use Rattle.routes.proofs.Sums.{Ordered, times_add}
use Rattle.routes.proofs.Numbers.{line_between}
use Rattle.routes.proofs.Shift.{xs, ys, Each, Steady}

-- from x on, each coordinate is the neighbour of the one before
abbrev pub walks : List ℕ → ℕ → List ℕ → Bool
walks qs x [] = true
walks qs x (t ∷ ts) = neighbours qs x t && walks qs t ts

-- a lawful route in place of r, with the same y coordinates and cost, that goes from line to line along x
pub record Refined {M : Type 0} (tf : Tariff M) (R : Rules) (qs : List ℕ) (p : Point) (r : List Move) : Type 0 where
  pub route : List Move
  pub is_lawful : T (lawful R p route)
  pub same_end : end p route ≡ end p r
  pub same_ys : ys route ≡ ys r
  pub same_cost : cost tf p route ≡ cost tf p r
  pub walk : T (walks qs p.x (xs route))

module _ {M : Type 0} (tf : Tariff M) {leq : M → M → Type 0} (laws : Ordered tf.sums leq) (R : Rules) (qs : List ℕ)
    (wires : Steady qs R.width R.wire) where
  no_move : (p : Point) (x : ℕ) (r : List Move) → p.x ≡ x → Refined tf R qs (after p (along_x x)) r
      → Refined tf R qs p (along_x x ∷ r)
  no_move p x r e = grind (arith, nat_tests)

  one_move : (p : Point) (x : ℕ) (r : List Move) → T (neighbours qs p.x x) → T (lawful_move R p (along_x x))
      → Refined tf R qs (after p (along_x x)) r → Refined tf R qs p (along_x x ∷ r)
  one_move p x r next ok t = record {
    route = along_x x ∷ t.route;
    is_lawful = more_moves (lawful_move R) p (along_x x) t.route ok t.is_lawful;
    same_end = t.same_end;
    same_ys = t.same_ys;
    same_cost = ap (tf.sums.plus (times tf.sums (gap p.x x) (tf.prices.x p.layer))) t.same_cost;
    walk = both _ _ next t.walk;
  }

  two_moves : (p : Point) (q x : ℕ) (r : List Move) → gap p.x x ≡ gap p.x q + gap q x
      → Refined tf R qs p (along_x q ∷ along_x x ∷ r) → Refined tf R qs p (along_x x ∷ r)
  two_moves p q x r sum t = record {
    route = t.route;
    is_lawful = t.is_lawful;
    same_end = t.same_end;
    same_ys = t.same_ys;
    same_cost = t.same_cost ∙ sym (laws.assoc _ _ _)
        ∙ ap (λ a. tf.sums.plus a (cost tf (after p (along_x x)) r))
        (sym (times_add laws (gap p.x q) (gap q x) u) ∙ ap (λ n. times tf.sums n u) (sym sum));
    walk = t.walk;
  }
    where
      u : M
      u = tf.prices.x p.layer

  -- a part of a lawful move is lawful
  part_lawful : (p : Point) (x a b : ℕ) → p.x ≤ R.width → T (lawful_move R p (along_x x)) → min p.x x ≤ min a b
      → max a b ≤ max p.x x
      → T (lawful_move R (after p (along_x a)) (along_x b))
  part_lawful p x a b fits ok above below = grind (arith, nat_tests)

  -- a move along x of length n at most, between lines
  cut : (n : ℕ) (p : Point) (x : ℕ) (r : List Move) → gap p.x x ≤ n → p.x ≤ R.width → T (mem p.x qs) → T (mem x qs)
      → T (lawful_move R p (along_x x))
      → Refined tf R qs (after p (along_x x)) r → Refined tf R qs p (along_x x ∷ r)
  cut zero p x r short fits from to ok t = no_move p x r (omega arith) t
  cut (suc n) p x r short fits from to ok t = elim (cases_eq p.x x) [
    | inl e ↦ no_move p x r e t
    | inr ne ↦ elim (line_between qs p.x x) [
      | inl found ↦
          let q = found.0 in
          let past : min p.x x < q = ltb→lt _ _ (left _ (ltb q (max p.x x)) found.2) in
          let before : q < max p.x x = ltb→lt _ _ (right (ltb (min p.x x) q) _ found.2) in
          let within : x ≤ R.width = x_within R p x ok in
          two_moves p q x r (omega arith)
          (cut n p q (along_x x ∷ r) (omega arith) fits from found.1
          (part_lawful p x p.x q fits ok (omega arith) (omega arith))
          (cut n (after p (along_x q)) x r (omega arith) (omega arith) found.1 to
          (part_lawful p x q x fits ok (omega arith) (omega arith)) t))
      | inr clear ↦
          one_move p x r (both _ _ (both _ _ from to) (both _ _ (refute _ (λ h. ne (eqb→eq _ _ h))) clear))
          ok t
    ]
  ]

  pub refine_x : (p : Point) (r : List Move) → p.x ≤ R.width → T (mem p.x qs) → Each (λ x. T (mem x qs)) (xs r)
      → T (lawful R p r) → Refined tf R qs p r
  refine_x p [] fits from on ok =
      record { route = []; is_lawful = tt; same_end = refl; same_ys = refl; same_cost = refl; walk = tt }
  refine_x p (along_x x ∷ r) fits from on ok =
      let first = this_move (lawful_move R) p (along_x x) r ok in
      cut (gap p.x x) p x r (omega arith) fits from on.0 first
      (refine_x (after p (along_x x)) r (x_within R p x first) on.0 on.1 (later_moves (lawful_move R) p (along_x x) r ok))
  refine_x p (along_y y ∷ r) fits from on ok =
      let t = refine_x (after p (along_y y)) r fits from on (later_moves (lawful_move R) p (along_y y) r ok) in
      record {
        route = along_y y ∷ t.route;
        is_lawful =
            more_moves (lawful_move R) p (along_y y) t.route (this_move (lawful_move R) p (along_y y) r ok) t.is_lawful;
        same_end = t.same_end;
        same_ys = ap (λ ts. y ∷ ts) t.same_ys;
        same_cost = ap (tf.sums.plus _) t.same_cost;
        walk = t.walk;
      }
  refine_x p (to_layer l ∷ r) fits from on ok =
      let t = refine_x (after p (to_layer l)) r fits from on (later_moves (lawful_move R) p (to_layer l) r ok) in
      record {
        route = to_layer l ∷ t.route;
        is_lawful =
            more_moves (lawful_move R) p (to_layer l) t.route (this_move (lawful_move R) p (to_layer l) r ok) t.is_lawful;
        same_end = t.same_end;
        same_ys = t.same_ys;
        same_cost = ap (tf.sums.plus _) t.same_cost;
        walk = t.walk;
      }
