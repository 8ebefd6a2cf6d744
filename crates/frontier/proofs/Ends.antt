-- How a search begins, and what it has found when it ends. Assumes nothing.
use Rattle.std.proofs.lemmas.Bool.Decides.{nat_tests}
use Rattle.std.proofs.Common.{◌≡◌, ℕ, ◌<◌, [], sym, ap, ◌∙◌, subst, subst₂, inl, ⊎_elim, arith}
use Rattle.costs.specs.Amounts.{Laws}
use Rattle.frontier.specs.Routes.{Search, LeastCost, HasNoRoute}
use Rattle.frontier.specs.Front.{Mark, unseen, waits, settled, Nothing, Frontier, Light}
use Rattle.frontier.proofs.Settle.{leaves}
use Rattle.frontier.proofs.Trails.{trail_route, turned}

-- only the start is seen, and only its entry waits
pub record Beginning {M : Type 0} (g : Search M) (f : ℕ → Mark M) (entries : M → ℕ → Type 0) : Type 0 where
  pub before : ℕ
  pub first : f g.from ≡ waits g.sums.nothing before
  pub rest : (u : ℕ) → (u ≡ g.from → ⊥) → f u ≡ unseen
  pub inside : g.from < g.shape.size
  pub entry : entries g.sums.nothing g.from
  pub alone : (x : M) (y : ℕ) → entries x y → (x ≡ g.sums.nothing) × (y ≡ g.from)

module _ {M : Type 0} {g : Search M} (laws : Laws g.sums) {f : ℕ → Mark M} {entries : M → ℕ → Type 0} where
  module _ (B : Beginning g f entries) where
    pub none_settled : (u : ℕ) (a : M) (q : ℕ) → f u ≡ settled a q → ⊥
    none_settled u a q st = grind (arith, nat_tests)

    one_waits : (u : ℕ) (a : M) (q : ℕ) → f u ≡ waits a q → (u ≡ g.from) × (a ≡ g.sums.nothing)
    one_waits u a q wt = grind (arith, nat_tests)

    pub begin : Frontier g f entries Nothing
    begin = record {
      start = (B.before, inl B.first);
      inside = λ w b q. ⊎_elim
          (λ h. subst (λ y. y < g.shape.size) (sym (one_waits w b q h).0) B.inside)
          (λ h. absurd (none_settled w b q h));
      relaxed = λ u w a c q fu e. absurd (none_settled u a q fu);
      queued = λ w b q h. let k = one_waits w b q h in subst₂ entries (sym k.1) (sym k.0) B.entry;
      known = λ x y h. let k = B.alone x y h in (g.sums.nothing, B.before, inl (ap f k.1 ∙ B.first), laws.least x);
      least = λ u a q fu. absurd (none_settled u a q fu);
      trail = λ u a q fu. absurd (none_settled u a q fu);
      origin = λ w b q h. inl (one_waits w b q h);
    }

    pub begin_light : Light g f
    begin_light = grind (arith, nat_tests)

  -- what is noted of a settled node is the least of all
  pub found : {pending : ℕ → ℕ → Type 0} → Frontier g f entries pending → (t : ℕ) (a : M) (p : ℕ) → f t ≡ settled a p
      → LeastCost g t a
  found W t a p ft =
      let k = W.trail t a p ft in
      record { nodes = turned t k.0 []; route = trail_route g laws f k.0 t a k.1; lowest = W.least t a p ft }

  -- where none waits, what is not settled cannot be reached
  pub none_left : Frontier g f entries Nothing → ((x : M) (y : ℕ) → entries x y → ⊥)
      → (t : ℕ) → ((a : M) (p : ℕ) → f t ≡ settled a p → ⊥) → HasNoRoute g t
  none_left W empty t open_still nodes b r = ⊎_elim
      (λ k. open_still k.0 k.1 k.2)
      (λ k. empty k.1 k.0 (W.queued k.0 k.1 k.2 k.3))
      (leaves laws W nodes t b r)
