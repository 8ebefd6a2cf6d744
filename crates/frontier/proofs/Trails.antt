-- Routes and trails. Assumes nothing.
use Rattle.std.proofs.Common.{◌≡◌, ℕ, List, [], ◌∷◌, sym, refl, ap, ◌∙◌, subst}
use Rattle.std.specs.List.{AllByRecursion}
use Rattle.costs.specs.Amounts.{Laws}
use Rattle.costs.proofs.Order.{nothing_plus}
use Rattle.frontier.specs.Routes.{Search, Route}
use Rattle.frontier.specs.Front.{Mark, settled, Trail}

-- the nodes back to the start, turned round, before those that follow u
abbrev pub turned : ℕ → List ℕ → List ℕ → List ℕ
turned u [] after = after
turned u (p ∷ back) after = turned p back (u ∷ after)

module _ {M : Type 0} (g : Search M) (laws : Laws g.sums) (f : ℕ → Mark M) where
  -- a trail to u and a route on from u make a route from the start
  pub trail_onto : (back : List ℕ) (u t : ℕ) (a b : M) (after : List ℕ)
      → Trail g f u back a → Route g u after t b → Route g g.from (turned u back after) t (g.sums.plus a b)
  trail_onto [] u t a b after r on =
      let P : M → Type 0 = λ m. Route g g.from after t m in
      let Q : ℕ → Type 0 = λ x. Route g x after t b in
      subst P (sym (ap (λ x. g.sums.plus x b) r.3 ∙ nothing_plus laws b)) (subst Q r.2 on)
  trail_onto (p ∷ back) u t a b after r on =
      let b' = r.0 in
      let c = r.1 in
      let longer = trail_onto back p t b' (g.sums.plus c b) (u ∷ after) r.3 (c, r.4, b, on, refl) in
      let P : M → Type 0 = λ m. Route g g.from (turned p back (u ∷ after)) t m in
      subst P (sym (ap (λ x. g.sums.plus x b) r.5 ∙ laws.assoc b' c b)) longer

  -- a trail, turned round, is a route at the same cost
  pub trail_route : (back : List ℕ) (u : ℕ) (a : M) → Trail g f u back a → Route g g.from (turned u back []) u a
  trail_route back u a r =
      let P : M → Type 0 = λ m. Route g g.from (turned u back []) u m in
      subst P (laws.neutral a) (trail_onto back u u a g.sums.nothing [] r (refl, refl))

  -- a node that is not settled stands on no trail
  pub trail_fresh : (w : ℕ) → ((a : M) (p : ℕ) → f w ≡ settled a p → ⊥)
      → (back : List ℕ) (u : ℕ) (a : M) → Trail g f u back a → AllByRecursion (λ x. x ≡ w → ⊥) (u ∷ back)
  trail_fresh w n [] u a r = (λ e. n a r.0 (ap f (sym e) ∙ r.1), tt)
  trail_fresh w n (p ∷ back) u a r = (λ e. n a p (ap f (sym e) ∙ r.2), trail_fresh w n back p r.0 r.3)

-- marks that stand for good keep their trails
module _ {M : Type 0} (g : Search M) (f f' : ℕ → Mark M)
    (kept : (u : ℕ) (a : M) (p : ℕ) → f u ≡ settled a p → f' u ≡ settled a p) where
  pub trail_kept : (back : List ℕ) (u : ℕ) (a : M) → Trail g f u back a → Trail g f' u back a
  trail_kept [] u a r = (r.0, kept u a r.0 r.1, r.2, r.3)
  trail_kept (p ∷ back) u a r = (r.0, r.1, kept u a p r.2, trail_kept back p r.0 r.3, r.4, r.5, r.6)
