-- The moves from the node that was settled last are looked at one by one. Assumes nothing.
use Rattle.std.proofs.lemmas.Bool.Decides.{nat_tests}
use Rattle.std.proofs.Common.{◌≡◌, ℕ, ◌*◌, ◌<◌, ◌≤◌, false, ◌⊎◌, [], ◌∷◌, sym, refl, ap, ◌∙◌, subst, subst₂, inl, inr, ⊎_elim, arith}
use native.Mathlib.Decide.{ℕ_discrete}
use Rattle.costs.specs.Amounts.{Laws}
use Rattle.costs.proofs.Order.{leq_refl, leq_of_not}
use Rattle.frontier.specs.Routes.{Search, Move, Route}
use Rattle.frontier.specs.Front.{Mark, unseen, waits, settled, once, settled_below, Seen, Joined, Marked, Within}
use Rattle.frontier.specs.Front.{Frontier, Light}
use Rattle.frontier.proofs.Count.{count_same}
use Rattle.frontier.proofs.Marks.{not_both, unseen_settled}
use Rattle.frontier.proofs.Trails.{trail_onto, trail_kept, turned}

-- moves that were looked at are no longer pending
pub narrow : {M : Type 0} {g : Search M} {f : ℕ → Mark M} {entries : M → ℕ → Type 0} {pending : ℕ → ℕ → Type 0}
    (pending' : ℕ → ℕ → Type 0)
    → Frontier g f entries pending
    → ((u w : ℕ) (a c : M) (p : ℕ) → f u ≡ settled a p → Move g u w c → pending u w
    → pending' u w ⊎ Within g f w (g.sums.plus a c))
    → Frontier g f entries pending'
narrow pending' W done = record {
  start = W.start;
  inside = W.inside;
  relaxed = λ u w a c p fu e. ⊎_elim (done u w a c p fu e) inr (W.relaxed u w a c p fu e);
  queued = W.queued;
  known = W.known;
  least = W.least;
  trail = W.trail;
  origin = W.origin;
}

-- nothing is to be done for a neighbour that is settled: no way to it costs less
pub already : {M : Type 0} {g : Search M} (laws : Laws g.sums) {f : ℕ → Mark M} {entries : M → ℕ → Type 0}
    {pending : ℕ → ℕ → Type 0}
    → Frontier g f entries pending → (v w : ℕ) (a b c : M) (p q : ℕ) → f v ≡ settled a p → Move g v w c → f w ≡ settled b q
    → Within g f w (g.sums.plus a c)
already {g = g} laws {f} W v w a b c p q fv e fw =
    let t = W.trail v a p fv in
    let last : Route g v (w ∷ []) w c = (c, e, g.sums.nothing, (refl, refl), sym (laws.neutral c)) in
    let r = trail_onto g laws f t.0 v w a c (w ∷ []) t.1 last in
    (b, q, inr fw, W.least w b q fw (turned v t.0 (w ∷ [])) (g.sums.plus a c) r)

-- a better amount for w, by the move from v, is noted, and its entry put in
pub record Relaxing {M : Type 0} (g : Search M) (f f' : ℕ → Mark M) (entries entries' : M → ℕ → Type 0)
    (pending : ℕ → ℕ → Type 0) (v w : ℕ) (a c : M) : Type 0 where
  pub front : Frontier g f entries pending
  pub before : ℕ
  pub from : f v ≡ settled a before
  pub move : Move g v w c
  pub inside : w < g.shape.size
  pub better : (f w ≡ unseen) ⊎ ((b : M) × (p : ℕ) × (f w ≡ waits b p) × (g.sums.leq b (g.sums.plus a c) ≡ false))
  pub put : Joined entries entries' (g.sums.plus a c) w
  pub marked : Marked f f' w (waits (g.sums.plus a c) v)

module _ {M : Type 0} {g : Search M} (laws : Laws g.sums) {f f' : ℕ → Mark M} {entries entries' : M → ℕ → Type 0}
    {pending : ℕ → ℕ → Type 0}
    {v w : ℕ} {a c : M} (R : Relaxing g f f' entries entries' pending v w a c) where
  open_still : (x : M) (p : ℕ) → f w ≡ settled x p → ⊥
  open_still x p st = ⊎_elim (λ h. unseen_settled (f w) x p h st) (λ k. not_both (f w) k.0 x k.1 p k.2 st) R.better

  below : (x : M) (p : ℕ) → Seen f w x p → g.sums.leq x (g.sums.plus a c) ≡ false
  below x p h = grind (arith, nat_tests)

  pub settled_kept : (u : ℕ) (x : M) (p : ℕ) → f u ≡ settled x p → f' u ≡ settled x p
  settled_kept u x p h = R.marked.others u (λ k. open_still x p (ap f (sym k) ∙ h)) ∙ h

  pub settled_back : (u : ℕ) (x : M) (p : ℕ) → f' u ≡ settled x p → f u ≡ settled x p
  settled_back u x p h = grind (arith, nat_tests)

  waits_back : (u : ℕ) (x : M) (p : ℕ) → f' u ≡ waits x p → (f u ≡ waits x p) ⊎ ((u ≡ w) × (x ≡ g.sums.plus a c) × (p ≡ v))
  waits_back u x p h = grind (arith, nat_tests)

  pub relax_within : Within g f' w (g.sums.plus a c)
  relax_within = (g.sums.plus a c, v, inl R.marked.here, leq_refl laws (g.sums.plus a c))

  within_kept : (u : ℕ) (m : M) → Within g f u m → Within g f' u m
  within_kept u m h = split (ℕ_discrete u w)
    where
      split : Dec (u ≡ w) → Within g f' u m
      split (yes k) =
          let seen = subst (λ y. Seen f y h.0 h.1) k h.2 in
          let sum = g.sums.plus a c in
          let less = leq_of_not laws h.0 sum (below h.0 h.1 seen) in
          (sum, v, inl (ap f' k ∙ R.marked.here), laws.trans sum h.0 m less h.3)
      split (no n) = (
        h.0,
        h.1,
        subst (λ y. (y ≡ waits h.0 h.1) ⊎ (y ≡ settled h.0 h.1)) (sym (R.marked.others u n))
            h.2,
        h.3,
      )

  -- the start has nothing to pay, which nothing betters
  start_kept : (p : ℕ) × Seen f' g.from g.sums.nothing p
  start_kept = grind (arith, nat_tests)

  inside_kept : (u : ℕ) (x : M) (p : ℕ) → Seen f' u x p → u < g.shape.size
  inside_kept u x p (inr st) = R.front.inside u x p (inr (settled_back u x p st))
  inside_kept u x p (inl wt) = ⊎_elim
      (λ h. R.front.inside u x p (inl h))
      (λ k. subst (λ y. y < g.shape.size) (sym k.0) R.inside)
      (waits_back u x p wt)

  once_kept : (u : ℕ) → once (f' u) ≡ once (f u)
  once_kept u = grind (arith, nat_tests)

  pub relax_count : settled_below f' g.shape.size ≡ settled_below f g.shape.size
  relax_count = count_same f f' g.shape.size (λ u l. once_kept u)

  pub relax : Frontier g f' entries' pending
  relax = record {
    start = start_kept;
    inside = inside_kept;
    relaxed = λ u y x d p fu k. ⊎_elim
        inl
        (λ h. inr (within_kept y (g.sums.plus x d) h))
        (R.front.relaxed u y x d p (settled_back u x p fu) k);
    queued = λ u x p fu. ⊎_elim
        (λ h. R.put.old x u (R.front.queued u x p h))
        (λ k. subst₂ entries' (sym k.1) (sym k.0) R.put.this)
        (waits_back u x p fu);
    known = λ x u h. ⊎_elim
        (λ k. within_kept u x (R.front.known x u k))
        (λ k. subst₂ (Within g f') (sym k.1) (sym k.0) relax_within)
        (R.put.only x u h);
    least = λ u x p fu. R.front.least u x p (settled_back u x p fu);
    trail = λ u x p fu.
        let t = R.front.trail u x p (settled_back u x p fu) in
        (t.0, trail_kept g f f' settled_kept t.0 u x t.1, omega (arith, relax_count));
    origin = λ u x p fu. ⊎_elim
        (λ h. ⊎_elim inl (λ k. inr (k.0, k.1, k.2, settled_kept p k.0 k.2 k.3, k.4, k.5))
        (R.front.origin u x p h))
        (λ k.
        let here = ap f' k.2 ∙ settled_kept v a R.before R.from in
        inr (a, c, R.before, here, subst₂ (λ y z. Move g y z c) (sym k.2) (sym k.0) R.move, k.1))
        (waits_back u x p fu);
  }

  pub relax_light : Light g f → g.sums.bulk c ≤ g.shape.dearest → Light g f'
  relax_light L small =
      let B = g.shape.dearest in
      let same : B * settled_below f' g.shape.size ≡ B * settled_below f g.shape.size = ap (λ k. B * k) relax_count in
      record {
        settled_bulk = λ u x q fu. omega (arith, same, L.settled_bulk u x q (settled_back u x q fu));
        waits_bulk = λ u x q fu. ⊎_elim
            (λ h. omega (arith, same, L.waits_bulk u x q h))
            (λ k. omega (
              arith,
              same,
              small,
              ap g.sums.bulk k.1,
              laws.bulk_plus a c,
              L.settled_bulk v a
                  R.before R.from,
            ))
            (waits_back u x q fu);
      }
