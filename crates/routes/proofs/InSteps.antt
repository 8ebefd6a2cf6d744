-- A route cut into steps, and a route with its straight runs joined. Assumes nothing.
use Rattle.std.proofs.lemmas.Bool.Decides.{nat_tests}
use Rattle.std.proofs.Common.{◌≡◌, ℕ, zero, suc, ◌+◌, ◌-◌, cond, T, eqb, ltb, List, [], ◌∷◌, ◌++◌, sym, refl, ap, ◌∙◌, subst, inl, inr, arith}
use Rattle.std.proofs.lemmas.Bool.{lt-ltb, le-ltb, cases_lt, cases_eq, eq-eqb}
use Rattle.geometry.specs.declared.point.Point.{Point}
use Rattle.costs.specs.Amounts.{Tariff, times}
use Rattle.routes.specs.Routes.{Move, along_x, along_y, to_layer, after, end, every, Rules, inside, lawful_move, lawful}
use Rattle.routes.specs.Routes.{distance, step, goes, gap, upward, downward, unit_steps, in_steps, price, cost}
use Rattle.routes.specs.Turns.{heading, straight_on, turns}
use Rattle.routes.proofs.Moves.{this_move, later_moves, more_moves, move_inside, move_free, via_next}
use Rattle.routes.proofs.Sums.{Ordered}
use Rattle.routes.proofs.Splits.{PartsFree, JoinsFree, Split, Amid, split_x, split_y, sets_out, split_turns, split_straight}
use Rattle.routes.proofs.Splits.{straight_on_like}

-- The route r' from p does what the move m and then r do.
pub record Does {M : Type 0} (R : Rules) (tf : Tariff M) (p : Point) (m : Move) (r r' : List Move) : Type 0 where
  pub steps : PartsFree R → T (inside R p) → T (lawful_move R p m) → T (every step (after p m) r) → T (every step p r')
  pub is_lawful : PartsFree R → T (inside R p) → T (lawful_move R p m) → T (lawful R (after p m) r) → T (lawful R p r')
  pub move_back : JoinsFree R → T (goes p m) → T (lawful R p r') → T (lawful_move R p m)
  pub same_end : end p r' ≡ end (after p m) r
  pub same_cost : cost tf p r' ≡ cost tf p (m ∷ r)
  pub same_turns : T (goes p m) → turns p r' ≡ turns p (m ∷ r)
  pub same_heading : T (goes p m) → sets_out p r' ≡ heading p m

module _ {M : Type 0} (R : Rules) (tf : Tariff M) {leq : M → M → Type 0} (laws : Ordered tf.sums leq) where
  -- a step is done by itself
  step_does : (p : Point) (m : Move) (r : List Move) → (T (lawful_move R p m) → T (step p m)) → Does R tf p m r (m ∷ r)
  step_does p m r unit = grind (arith, nat_tests)

  -- what goes nowhere is done by nothing
  nothing_does : (p : Point) (m : Move) (r : List Move) → after p m ≡ p → distance p m ≡ 0 → price tf p m ≡ tf.sums.nothing
      → Does R tf p m r r
  nothing_does p m r stays near costs = grind (arith, nat_tests)

  -- a run is done by its first step and what does the rest
  split_does : (p : Point) (m₁ m : Move) (r r' : List Move) → T (step p m₁) → Split R tf p m₁ m
      → Does R tf (after p m₁) m r r' → Does R tf p m r (m₁ ∷ r')
  split_does p m₁ m r r' unit s d = record {
    steps = λ parts here ok h.
        let first = s.first_lawful parts here ok in
        more_moves step p m₁ r' unit
        (d.steps parts (move_inside R p m₁ first) (s.rest_lawful parts here ok)
        (subst (λ o. T (every step o r)) (sym s.lands) h));
    is_lawful = λ parts here ok h.
        let first = s.first_lawful parts here ok in
        more_moves (lawful_move R) p m₁ r' first
        (d.is_lawful parts (move_inside R p m₁ first) (s.rest_lawful parts here ok)
        (subst (λ o. T (lawful R o r)) (sym s.lands) h));
    move_back = λ joins go h.
        s.whole_lawful joins (this_move (lawful_move R) p m₁ r' h)
        (d.move_back joins s.rest_goes (later_moves (lawful_move R) p m₁ r' h));
    same_end = d.same_end ∙ ap (λ o. end o r) s.lands;
    same_cost = ap (tf.sums.plus (price tf p m₁)) d.same_cost ∙ sym (laws.assoc _ _ _)
        ∙ ap (λ a. tf.sums.plus a (cost tf (after (after p m₁) m) r)) (sym s.price_is)
        ∙ ap (λ o. tf.sums.plus (price tf p m) (cost tf o r)) s.lands;
    same_turns = λ go.
        ap (λ b. cond b (turns (after p m₁) r') (after p m₁ ∷ turns (after p m₁) r'))
        (split_straight R tf p m₁ m s r' (d.same_heading s.rest_goes ∙ s.rest_heading))
        ∙ d.same_turns s.rest_goes ∙ sym (split_turns R tf p m₁ m s r);
    same_heading = λ go. s.first_heading;
  }

  -- A run along one axis: `point` is the point at a coordinate, and `axis` the move to one.
  module _ (axis : ℕ → Move) (point : ℕ → Point) (r : List Move)
      (one : (a b : ℕ) → gap a b ≡ 1 → Does R tf (point a) (axis b) r (axis b ∷ r))
      (more : (a q b : ℕ) (r' : List Move) → gap a q ≡ 1 → Amid a q b → Does R tf (point q) (axis b) r r' → Does R tf
      (point a) (axis b) r (axis q ∷ r')) where
    upward_does : (k a b : ℕ) → b ≡ a + suc k → Does R tf (point a) (axis b) r (upward axis a (suc k) ++ r)
    upward_does zero a b e = subst (λ q. Does R tf (point a) (axis b) r (axis q ∷ r)) (next a b e) (one a b (near a b e))
      where
        next : (a b : ℕ) → b ≡ a + suc zero → b ≡ a + 1
        next a b e = omega arith

        near : (a b : ℕ) → b ≡ a + suc zero → gap a b ≡ 1
        near a b e = omega arith
    upward_does (suc k) a b e =
        more a (a + 1) b (upward axis (a + 1) (suc k) ++ r) (omega arith) (inl (omega arith, omega arith))
        (upward_does k (a + 1) b (omega arith))

    downward_does : (k a b : ℕ) → a ≡ b + suc k → Does R tf (point a) (axis b) r (downward axis a (suc k) ++ r)
    downward_does zero a b e = subst (λ q. Does R tf (point a) (axis b) r (axis q ∷ r)) (next a b e) (one a b (near a b e))
      where
        next : (a b : ℕ) → a ≡ b + suc zero → b ≡ a - 1
        next a b e = omega arith

        near : (a b : ℕ) → a ≡ b + suc zero → gap a b ≡ 1
        near a b e = omega arith
    downward_does (suc k) a b e =
        more a (a - 1) b (downward axis (a - 1) (suc k) ++ r) (omega arith) (inr (omega arith, omega arith))
        (downward_does k (a - 1) b (omega arith))

    -- up or down, or nowhere
    run_does : (a b : ℕ) → (a ≡ b → Does R tf (point a) (axis b) r r)
        → Does R tf (point a) (axis b) r (cond (ltb a b) (upward axis a (b - a)) (downward axis a (a - b)) ++ r)
    run_does a b stay = elim (cases_lt a b) [
      | inl lt ↦
          let k = b - suc a in
          let far : b - a ≡ suc k = omega arith in
          subst (λ t. Does R tf (point a) (axis b) r (cond t (upward axis a (b - a)) (downward axis a (a - b)) ++ r))
          (sym (lt-ltb a b lt))
          (subst (λ n. Does R tf (point a) (axis b) r (upward axis a n ++ r)) (sym far) (upward_does k a b (omega arith)))
      | inr ge ↦
          subst (λ t. Does R tf (point a) (axis b) r (cond t (upward axis a (b - a)) (downward axis a (a - b)) ++ r))
          (sym (le-ltb a b ge))
          (elim (cases_eq a b) [
            | inl e ↦
                let none : a - b ≡ 0 = omega arith in
                subst (λ n. Does R tf (point a) (axis b) r (downward axis a n ++ r)) (sym none) (stay e)
            | inr ne ↦
                let k = a - suc b in
                let far : a - b ≡ suc k = omega arith in
                subst (λ n. Does R tf (point a) (axis b) r (downward axis a n ++ r)) (sym far) (downward_does k a b (omega arith))
          ])
    ]

  same_test : (a b : ℕ) → a ≡ b → T (eqb a b)
  same_test a b e = subst T (sym (eq-eqb a b e)) tt

  none_far : (a b : ℕ) → a ≡ b → gap a b ≡ 0
  none_far a b e = omega arith

  pub unit_steps_do : (p : Point) (m : Move) (r : List Move) → Does R tf p m r (unit_steps p m ++ r)
  unit_steps_do p (along_x x) r =
      run_does along_x (λ a. after p (along_x a)) r
      (λ a b near. step_does (after p (along_x a)) (along_x b) r (λ ok. same_test (gap a b) 1 near))
      (λ a q b r' near amid d. split_does (after p (along_x a)) (along_x q) (along_x b) r r' (same_test (gap a q) 1 near)
      (split_x R tf laws (after p (along_x a)) q b amid) d)
      p.x x
      (λ e. nothing_does p (along_x x) r (ap (λ i. after p (along_x i)) (sym e)) (none_far p.x x e)
      (ap (λ n. times tf.sums n (tf.prices.x p.layer)) (none_far p.x x e)))
  unit_steps_do p (along_y y) r =
      run_does along_y (λ a. after p (along_y a)) r
      (λ a b near. step_does (after p (along_y a)) (along_y b) r (λ ok. same_test (gap a b) 1 near))
      (λ a q b r' near amid d. split_does (after p (along_y a)) (along_y q) (along_y b) r r' (same_test (gap a q) 1 near)
      (split_y R tf laws (after p (along_y a)) q b amid) d)
      p.y y
      (λ e. nothing_does p (along_y y) r (ap (λ i. after p (along_y i)) (sym e)) (none_far p.y y e)
      (ap (λ n. times tf.sums n (tf.prices.y p.layer)) (none_far p.y y e)))
  unit_steps_do p (to_layer l) r = step_does p (to_layer l) r (λ ok. via_next R p l (move_free R p (to_layer l) ok))

  -- a whole route in steps
  module _ (parts : PartsFree R) where
    pub in_steps_steps : (p : Point) (r : List Move) → T (inside R p) → T (lawful R p r) → T (every step p (in_steps p r))
    in_steps_steps p [] here ok = tt
    in_steps_steps p (m ∷ r) here ok =
        let first = this_move (lawful_move R) p m r ok in
        (unit_steps_do p m (in_steps (after p m) r)).steps parts here first
        (in_steps_steps (after p m) r (move_inside R p m first) (later_moves (lawful_move R) p m r ok))

    pub in_steps_lawful : (p : Point) (r : List Move) → T (inside R p) → T (lawful R p r) → T (lawful R p (in_steps p r))
    in_steps_lawful p [] here ok = tt
    in_steps_lawful p (m ∷ r) here ok =
        let first = this_move (lawful_move R) p m r ok in
        (unit_steps_do p m (in_steps (after p m) r)).is_lawful parts here first
        (in_steps_lawful (after p m) r (move_inside R p m first) (later_moves (lawful_move R) p m r ok))

  pub in_steps_end : (p : Point) (r : List Move) → end p (in_steps p r) ≡ end p r
  in_steps_end p [] = refl
  in_steps_end p (m ∷ r) = (unit_steps_do p m (in_steps (after p m) r)).same_end ∙ in_steps_end (after p m) r

  pub in_steps_cost : (p : Point) (r : List Move) → cost tf p (in_steps p r) ≡ cost tf p r
  in_steps_cost p [] = refl
  in_steps_cost p (m ∷ r) =
      (unit_steps_do p m (in_steps (after p m) r)).same_cost ∙ ap (tf.sums.plus (price tf p m)) (in_steps_cost (after p m) r)

  in_steps_heading : (p : Point) (r : List Move) → T (every goes p r) → sets_out p (in_steps p r) ≡ sets_out p r
  in_steps_heading p [] go = refl
  in_steps_heading p (m ∷ r) go = (unit_steps_do p m (in_steps (after p m) r)).same_heading (this_move goes p m r go)

  pub in_steps_turns : (p : Point) (r : List Move) → T (every goes p r) → turns p (in_steps p r) ≡ turns p r
  in_steps_turns p [] go = refl
  in_steps_turns p (m ∷ r) go =
      let r' = in_steps (after p m) r in
      let on : straight_on p m r' ≡ straight_on p m r =
      straight_on_like p p m m r' r refl (in_steps_heading (after p m) r (later_moves goes p m r go)) in
      (unit_steps_do p m r').same_turns (this_move goes p m r go)
      ∙ ap (λ b. cond b (turns (after p m) r') (after p m ∷ turns (after p m) r')) on
      ∙ ap (λ ts. cond (straight_on p m r) ts (after p m ∷ ts)) (in_steps_turns (after p m) r (later_moves goes p m r go))
