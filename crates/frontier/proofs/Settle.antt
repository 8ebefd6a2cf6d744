-- A least entry is taken: of a settled node, which changes nothing, or of a waiting one, which is settled. Assumes nothing.
use Rattle.std.proofs.lemmas.Bool.Decides.{nat_tests}
use Rattle.std.proofs.Common.{◌≡◌, ℕ, ◌+◌, ◌*◌, ◌<◌, ◌⊎◌, List, [], ◌∷◌, length, sym, ap, ◌∙◌, subst, subst₂, inl, inr, ⊎_elim, mul-suc, add-one, arith}
use Rattle.costs.specs.Amounts.{Laws}
use Rattle.costs.proofs.Order.{nothing_plus, leq_refl, leq_plus}
use Rattle.frontier.specs.Routes.{Search, Leq, Route}
use Rattle.frontier.specs.Front.{Mark, waits, settled, once, settled_below, Seen, Nothing, Joined, Marked, Within}
use Rattle.frontier.specs.Front.{Trail, Origin, Frontier, Light}
use Rattle.frontier.proofs.Count.{count_more}
use Rattle.frontier.proofs.Marks.{not_both}
use Rattle.frontier.proofs.Trails.{trail_fresh, trail_kept}

-- where a route ends, or where it leaves the settled nodes
module _ {M : Type 0} (g : Search M) (f : ℕ → Mark M) where
  abbrev Reached : ℕ → M → Type 0
  Reached t m = (e : M) × (q : ℕ) × (f t ≡ settled e q) × Leq g e m

  abbrev Left : M → Type 0
  Left m = (x : ℕ) × (e : M) × (q : ℕ) × (f x ≡ waits e q) × Leq g e m

module _ {M : Type 0} {g : Search M} (laws : Laws g.sums) {f : ℕ → Mark M} {entries : M → ℕ → Type 0}
    (W : Frontier g f entries Nothing) where
  leave : (nodes : List ℕ) (u t : ℕ) (d b a : M) (p : ℕ) → f u ≡ settled d p → Leq g d b → Route g u nodes t a
      → Reached g f t (g.sums.plus b a) ⊎ Left g f (g.sums.plus b a)
  leave [] u t d b a p fu db r = inl (d, p, ap f (sym r.0) ∙ fu, laws.trans d b (g.sums.plus b a) db (leq_plus laws b a))
  leave (v ∷ rest) u t d b a p fu db r =
      ⊎_elim (λ n. absurd n)
      (λ w. onward (λ e q st l. leave rest v t e (g.sums.plus b r.0) r.2 q st l r.3) w.0 w.1 w.2 w.3)
      (W.relaxed u v d r.0 p fu r.1)
    where
      added : g.sums.plus (g.sums.plus b r.0) r.2 ≡ g.sums.plus b a
      added = laws.assoc b r.0 r.2 ∙ ap (g.sums.plus b) (sym r.4)

      upto : (e : M) → Leq g e (g.sums.plus d r.0) → Leq g e (g.sums.plus b r.0)
      upto e l = laws.trans e (g.sums.plus d r.0) (g.sums.plus b r.0) l (laws.mono d b r.0 db)

      onward : ((e : M) (q : ℕ) → f v ≡ settled e q → Leq g e (g.sums.plus b r.0)
          → Reached g f t (g.sums.plus (g.sums.plus b r.0) r.2)
          ⊎ Left g f (g.sums.plus (g.sums.plus b r.0) r.2))
          → (e : M) (q : ℕ) → Seen f v e q → Leq g e (g.sums.plus d r.0)
          → Reached g f t (g.sums.plus b a) ⊎ Left g f (g.sums.plus b a)
      onward again e q (inl wt) l =
          let P : M → Type 0 = Leq g e in
          let sum = g.sums.plus b r.0 in
          inr (v, e, q, wt, subst P added (laws.trans e sum (g.sums.plus sum r.2) (upto e l) (leq_plus laws sum r.2)))
      onward again e q (inr st) l =
          let P : M → Type 0 = λ m. Reached g f t m ⊎ Left g f m in
          subst P added (again e q st (upto e l))

  -- each route from the start ends at a settled node whose best is no more, or there is a waiting node whose best is no more
  pub leaves : (nodes : List ℕ) (t : ℕ) (a : M) → Route g g.from nodes t a
      → ((e : M) × (q : ℕ) × (f t ≡ settled e q) × Leq g e a) ⊎ ((x : ℕ) × (e : M) × (q : ℕ) × (f x ≡ waits e q) × Leq g e a)
  leaves nodes t a r = begin W.start.1
    where
      begin : Seen f g.from g.sums.nothing W.start.0 → Reached g f t a ⊎ Left g f a
      begin (inl wt) = inr (g.from, g.sums.nothing, W.start.0, wt, laws.least a)
      begin (inr st) =
          let P : M → Type 0 = λ m. Reached g f t m ⊎ Left g f m in
          let none = g.sums.nothing in
          subst P (nothing_plus laws a) (leave nodes g.from t none none a W.start.0 st (leq_refl laws none) r)

-- an entry of a settled node is let go
pub drop_stale : {M : Type 0} {g : Search M} {f : ℕ → Mark M} {entries entries' : M → ℕ → Type 0} {pending : ℕ → ℕ → Type 0}
    {v : ℕ} {a b : M} {q : ℕ}
    → Frontier g f entries pending → f v ≡ settled b q → Joined entries' entries a v → Frontier g f entries' pending
drop_stale {f = f} {b = b} {q = q} W fv took = grind (arith, nat_tests)

-- a least entry, a for v, is taken, and v, which waited with b and the node p before it, is settled
pub record Settling {M : Type 0} (g : Search M) (f f' : ℕ → Mark M) (entries entries' : M → ℕ → Type 0) (v : ℕ) (a b : M)
    (p : ℕ) : Type 0 where
  pub front : Frontier g f entries Nothing
  pub waited : f v ≡ waits b p
  pub took : Joined entries' entries a v
  pub lowest : (x : M) (y : ℕ) → entries x y → Leq g a x
  pub marked : Marked f f' v (settled a p)

module _ {M : Type 0} {g : Search M} (laws : Laws g.sums) {f f' : ℕ → Mark M} {entries entries' : M → ℕ → Type 0} {v : ℕ}
    {a b : M} {p : ℕ}
    (S : Settling g f f' entries entries' v a b p) where
  settle_amount : a ≡ b
  settle_amount = grind (arith, nat_tests)

  settled_kept : (u : ℕ) (x : M) (q : ℕ) → f u ≡ settled x q → f' u ≡ settled x q
  settled_kept u x q h = S.marked.others u (λ e. not_both (f u) b x p q (ap f e ∙ S.waited) h) ∙ h

  settled_back : (u : ℕ) (x : M) (q : ℕ) → f' u ≡ settled x q → (f u ≡ settled x q) ⊎ ((u ≡ v) × (x ≡ a))
  settled_back u x q h = grind (arith, nat_tests)

  waits_back : (u : ℕ) (x : M) (q : ℕ) → f' u ≡ waits x q → (f u ≡ waits x q) × (u ≡ v → ⊥)
  waits_back u x q h = grind (arith, nat_tests)

  seen_kept : (u : ℕ) (x : M) (q : ℕ) → Seen f u x q → Seen f' u x q
  seen_kept u x q h = grind (arith, nat_tests)

  within_kept : (u : ℕ) (m : M) → Within g f u m → Within g f' u m
  within_kept u m h = (h.0, h.1, seen_kept u h.0 h.1 h.2, h.3)

  inside_kept : (u : ℕ) (x : M) (q : ℕ) → Seen f' u x q → u < g.shape.size
  inside_kept u x q (inl wt) = S.front.inside u x q (inl (waits_back u x q wt).0)
  inside_kept u x q (inr st) = ⊎_elim
      (λ h. S.front.inside u x q (inr h))
      (λ e. subst (λ y. y < g.shape.size) (sym e.0) (S.front.inside v b p (inl S.waited)))
      (settled_back u x q st)

  -- the least entry of all is no more than any route to its node
  settle_least : (nodes : List ℕ) (d : M) → Route g g.from nodes v d → Leq g a d
  settle_least nodes d r = ⊎_elim
      (λ k. absurd (not_both (f v) b k.0 p k.1 S.waited k.2))
      (λ k. laws.trans a k.1 d (S.lowest k.1 k.0 (S.front.queued k.0 k.1 k.2 k.3)) k.4)
      (leaves laws S.front nodes v d r)

  pub settle_count : settled_below f' g.shape.size ≡ settled_below f g.shape.size + 1
  settle_count =
      let inside = S.front.inside v b p (inl S.waited) in
      count_more f f' v (ap once S.waited) (ap once S.marked.here) S.marked.others g.shape.size inside

  settle_trail : (back : List ℕ) × Trail g f' v back a × (length back < settled_below f' g.shape.size)
  settle_trail = from_origin (S.front.origin v b p S.waited)
    where
      from_origin : Origin g f v b p → (back : List ℕ) × Trail g f' v back a × (length back < settled_below f' g.shape.size)
      from_origin (inl e) = ([], (p, S.marked.here, e.0, settle_amount ∙ e.1), omega (arith, settle_count))
      from_origin (inr k) =
          let t = S.front.trail p k.0 k.2 k.3 in
          let fresh = trail_fresh g laws f v (λ x q. not_both (f v) b x p q S.waited) t.0 p k.0 t.1 in
          let rest = trail_kept g f f' settled_kept t.0 p k.0 t.1 in
          (p ∷ t.0, (k.0, k.1, S.marked.here, rest, k.4, settle_amount ∙ k.5, fresh), omega (arith, settle_count))

  -- v is settled, and the moves from it are still to be looked at
  pub settle : Frontier g f' entries' (λ u w. u ≡ v)
  settle = record {
    start = (S.front.start.0, seen_kept g.from g.sums.nothing S.front.start.0 S.front.start.1);
    inside = inside_kept;
    relaxed = λ u w x c q fu e. ⊎_elim
        (λ h. ⊎_elim (λ n. absurd n) (λ k. inr (within_kept w (g.sums.plus x c) k)) (S.front.relaxed u w x c q h e))
        (λ k. inl k.0)
        (settled_back u x q fu);
    queued = λ w x q fw.
        let k = waits_back w x q fw in
        ⊎_elim (λ h. h) (λ e. absurd (k.1 e.1)) (S.took.only x w (S.front.queued w x q k.0));
    known = λ x w h. within_kept w x (S.front.known x w (S.took.old x w h));
    least = λ u x q fu nodes d r. ⊎_elim
        (λ h. S.front.least u x q h nodes d r)
        (λ e. subst (λ y. Leq g y d) (sym e.1) (settle_least nodes d (subst (λ y. Route g g.from nodes y d) e.0 r)))
        (settled_back u x q fu);
    trail = λ u x q fu. ⊎_elim
        (λ h. let t = S.front.trail u x q h in
        (t.0, trail_kept g f f' settled_kept t.0 u x t.1, omega (arith, settle_count)))
        (λ e. subst₂ (λ y z. (back : List ℕ) × Trail g f' y back z × (length back < settled_below f' g.shape.size))
        (sym e.0) (sym e.1) settle_trail)
        (settled_back u x q fu);
    origin = λ w x q fw. ⊎_elim
        inl
        (λ k. inr (k.0, k.1, k.2, settled_kept q k.0 k.2 k.3, k.4, k.5))
        (S.front.origin w x q (waits_back w x q fw).0);
  }

  more : g.shape.dearest * settled_below f' g.shape.size
      ≡ g.shape.dearest * settled_below f g.shape.size + g.shape.dearest
  more =
      let n = settled_below f g.shape.size in
      ap (λ k. g.shape.dearest * k) (settle_count ∙ add-one n) ∙ mul-suc g.shape.dearest n

  pub settle_light : Light g f → Light g f'
  settle_light L = record {
    settled_bulk = λ u x q fu. ⊎_elim
        (λ h. omega (arith, more, L.settled_bulk u x q h))
        (λ e. omega (arith, more, L.waits_bulk v b p S.waited, ap g.sums.bulk (e.1 ∙ settle_amount)))
        (settled_back u x q fu);
    waits_bulk = λ w x q fw. omega (arith, more, L.waits_bulk w x q (waits_back w x q fw).0);
  }
