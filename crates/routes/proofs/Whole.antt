-- Moves that continue one another straight on are one run. Assumes nothing.
use Rattle.std.proofs.Common.{◌≡◌, ℕ, Bool, cond, not, T, eqb, ltb, List, [], ◌∷◌, sym, refl, ap, ◌∙◌, subst, inl, inr, arith, rules}
use Rattle.std.proofs.lemmas.Bool.Decides.{nat_tests}
use Rattle.std.proofs.lemmas.Bool.{cases_Bool, eq-eqb}
use Rattle.geometry.specs.declared.point.Point.{Point}
use Rattle.costs.specs.Amounts.{Tariff}
use Rattle.routes.specs.Routes.{Move, along_x, along_y, to_layer, after, every, Rules, lawful_move, lawful, goes, gap}
use Rattle.routes.specs.Turns.{straight_on, turns, points_of, whole_runs, visited}
use Rattle.routes.proofs.Bools.{right, refuted}
use Rattle.routes.proofs.Moves.{this_move, later_moves, more_moves}
use Rattle.routes.proofs.Sums.{Ordered}
use Rattle.routes.proofs.Splits.{JoinsFree, Split, Amid, split_x, split_y, split_turns}

-- headings of the two axes differ
other_axis : (a b : Bool) → T (eqb (cond a 1 2) (cond b 3 4)) → ⊥
other_axis a b h = grind (arith, nat_tests)

other_axis_back : (a b : Bool) → T (eqb (cond a 3 4) (cond b 1 2)) → ⊥
other_axis_back a b h = grind (arith, nat_tests)

-- a via has no heading
no_heading_x : (a : Bool) → T (eqb (cond a 1 2) 0) → ⊥
no_heading_x a h = grind (arith, nat_tests)

no_heading_y : (a : Bool) → T (eqb (cond a 3 4) 0) → ⊥
no_heading_y a h = search rules

-- the same heading of two runs along one axis, whose headings are u and d, is the same way
same_way : (u d : ℕ) → (u ≡ d → ⊥) → (a b : Bool) → T (eqb (cond a u d) (cond b u d)) → a ≡ b
same_way u d ne a b h = grind (arith, nat_tests)

-- the first of two runs the same way ends amid the whole
amid : (a q b : ℕ) → ltb a q ≡ ltb q b → (a ≡ q → ⊥) → (q ≡ b → ⊥) → Amid a q b
amid a q b e ne ne' = grind (arith, nat_tests)

goes_apart : (a b : ℕ) → T (not (eqb (gap a b) 0)) → a ≡ b → ⊥
goes_apart a b go e = refuted _ go (subst T (sym (eq-eqb (gap a b) 0 (omega arith))) tt)

module _ {M : Type 0} (R : Rules) (tf : Tariff M) {leq : M → M → Type 0} (laws : Ordered tf.sums leq) where
  -- a run that is continued straight on is the first part of the whole
  straight_split : (p : Point) (m m' : Move) (r : List Move) → T (straight_on p m (m' ∷ r)) → T (goes p m)
      → T (goes (after p m) m') → Split R tf p m m'
  straight_split p (along_x q) (along_x x) r on go go' =
      let same = same_way 1 2 (λ e. omega arith) (ltb p.x q) (ltb q x) (right _ _ on) in
      split_x R tf laws p q x (amid p.x q x same (goes_apart p.x q go) (goes_apart q x go'))
  straight_split p (along_x q) (along_y y) r on go go' = absurd (other_axis (ltb p.x q) (ltb p.y y) (right _ _ on))
  straight_split p (along_x q) (to_layer l) r on go go' = absurd (no_heading_x (ltb p.x q) (right _ _ on))
  straight_split p (along_y q) (along_x x) r on go go' = absurd (other_axis_back (ltb p.y q) (ltb p.x x) (right _ _ on))
  straight_split p (along_y q) (along_y y) r on go go' =
      let same = same_way 3 4 (λ e. omega arith) (ltb p.y q) (ltb q y) (right _ _ on) in
      split_y R tf laws p q y (amid p.y q y same (goes_apart p.y q go) (goes_apart q y go'))
  straight_split p (along_y q) (to_layer l) r on go go' = absurd (no_heading_y (ltb p.y q) (right _ _ on))
  straight_split p (to_layer l) m' r on go go' = absurd on

  -- the route without its first move, which the second has on its way
  joined_goes : (p : Point) (m m' : Move) (r : List Move) → Split R tf p m m' → T (every goes p (m ∷ m' ∷ r))
      → T (every goes p (m' ∷ r))
  joined_goes p m m' r s go = grind (arith, nat_tests)

  joined_lawful : JoinsFree R → (p : Point) (m m' : Move) (r : List Move) → Split R tf p m m' → T (lawful R p (m ∷ m' ∷ r))
      → T (lawful R p (m' ∷ r))
  joined_lawful joins p m m' r s ok = grind (arith, nat_tests)

  pub whole_runs_lawful : JoinsFree R → (p : Point) (r : List Move) → T (every goes p r) → T (lawful R p r)
      → T (lawful R p (whole_runs p r))
  whole_runs_lawful joins p [] go ok = tt
  whole_runs_lawful joins p (m ∷ []) go ok = ok
  whole_runs_lawful joins p (m ∷ m' ∷ r) go ok = elim (cases_Bool (straight_on p m (m' ∷ r))) [
    | inl on ↦
        let s = straight_split p m m' r (subst T (sym on) tt) (this_move goes p m (m' ∷ r) go)
        (this_move goes (after p m) m' r (later_moves goes p m (m' ∷ r) go)) in
        subst (λ b. T (lawful R p (cond b (whole_runs p (m' ∷ r)) (m ∷ whole_runs (after p m) (m' ∷ r))))) (sym on)
        (whole_runs_lawful joins p (m' ∷ r) (joined_goes p m m' r s go) (joined_lawful joins p m m' r s ok))
    | inr off ↦
        subst (λ b. T (lawful R p (cond b (whole_runs p (m' ∷ r)) (m ∷ whole_runs (after p m) (m' ∷ r))))) (sym off)
        (more_moves (lawful_move R) p m (whole_runs (after p m) (m' ∷ r)) (this_move (lawful_move R) p m (m' ∷ r) ok)
        (whole_runs_lawful joins (after p m) (m' ∷ r) (later_moves goes p m (m' ∷ r) go)
        (later_moves (lawful_move R) p m (m' ∷ r) ok)))
  ]

  pub whole_runs_visited : (p : Point) (r : List Move) → T (every goes p r) → visited p (whole_runs p r) ≡ points_of p r
  whole_runs_visited p [] go = refl
  whole_runs_visited p (m ∷ []) go = refl
  whole_runs_visited p (m ∷ m' ∷ r) go = elim (cases_Bool (straight_on p m (m' ∷ r))) [
    | inl on ↦
        let s = straight_split p m m' r (subst T (sym on) tt) (this_move goes p m (m' ∷ r) go)
        (this_move goes (after p m) m' r (later_moves goes p m (m' ∷ r) go)) in
        ap (λ b. visited p (cond b (whole_runs p (m' ∷ r)) (m ∷ whole_runs (after p m) (m' ∷ r)))) on
        ∙ whole_runs_visited p (m' ∷ r) (joined_goes p m m' r s go)
        ∙ ap (λ ts. p ∷ ts) (split_turns R tf p m m' s r)
        ∙ ap (λ b. p ∷ cond b (turns (after p m) (m' ∷ r)) (after p m ∷ turns (after p m) (m' ∷ r))) (sym on)
    | inr off ↦
        ap (λ b. visited p (cond b (whole_runs p (m' ∷ r)) (m ∷ whole_runs (after p m) (m' ∷ r)))) off
        ∙ ap (λ ts. p ∷ ts) (whole_runs_visited (after p m) (m' ∷ r) (later_moves goes p m (m' ∷ r) go))
        ∙ ap (λ b. p ∷ cond b (turns (after p m) (m' ∷ r)) (after p m ∷ turns (after p m) (m' ∷ r))) (sym off)
  ]
