-- One look at a neighbour, over the notes and the entries. Assumes nothing.
use Rattle.std.proofs.Common.{◌≡◌, ℕ, ◌+◌, ◌*◌, ◌^◌, ◌<◌, ◌≤◌, true, false, T, ◌⊎◌, List, ◌∷◌, length, set, Some, None, sym, refl, ap, ◌∙◌, subst, subst₂, inl, inr, mul-le-mul_left, arith, length-set}
use native.Mathlib.Decide.{ℕ_discrete}
use borrow.Author.Tests.{clash}
use Rattle.std.specs.List.Sorted.{IsPermutation}
use Rattle.costs.specs.Amounts.{Laws}
use Rattle.frontier.specs.declared.entry.Entry.{Entry}
use Rattle.frontier.specs.declared.note.Note.{Note}
use Rattle.frontier.specs.declared.note.Note.TheVariants.{Waiting}
use Rattle.frontier.specs.Routes.{Search, Move}
use Rattle.frontier.specs.Front.{Mark, waits, settled, settled_below, Within, Nothing, Joined, Marked, Frontier}
use Rattle.frontier.specs.Held.{marks, Waits, worth, Ahead, Holds, Looking}
use Rattle.frontier.proofs.Count.{count_le}
use Rattle.frontier.proofs.Marks.{settled_same}
use Rattle.frontier.proofs.Relax.{narrow, already, Relaxing, relax, relax_light, relax_within, relax_count, settled_kept}
use Rattle.frontier.proofs.Entering.{joined}
use Rattle.frontier.proofs.Noting.{marked, worth_is, worth_not}

-- the neighbour in the kth direction was looked at
narrow_on : {M : Type 0} {g : Search M} {f : ℕ → Mark M} {entries : M → ℕ → Type 0} {v k : ℕ} {a : M} {p : ℕ}
    → Frontier g f entries (Ahead g.shape.next v k) → f v ≡ settled a p
    → ((w : ℕ) (c : M) → g.shape.next v k ≡ Some w → Move g v w c → Within g f w (g.sums.plus a c))
    → Frontier g f entries (Ahead g.shape.next v (k + 1))
narrow_on {M} {g} {f} {entries} {v} {k} {a} {p} W fv looked =
    narrow (Ahead g.shape.next v (k + 1)) W
    (λ u w x c q fu e ahead. split u w x c q fu e ahead (ℕ_discrete ahead.1 k))
  where
    split : (u w : ℕ) (x c : M) (q : ℕ) → f u ≡ settled x q → Move g u w c → (ahead : Ahead g.shape.next v k u w)
        → Dec (ahead.1 ≡ k)
        → Ahead g.shape.next v (k + 1) u w ⊎ Within g f w (g.sums.plus x c)
    split u w x c q fu e ahead (yes here) =
        let same : a ≡ x = settled_same (f u) a x p q (ap f ahead.0 ∙ fv) fu in
        let near : g.shape.next v k ≡ Some w = ap (g.shape.next v) (sym here) ∙ ahead.4 in
        let move : Move g v w c = subst (λ y. Move g y w c) ahead.0 e in
        inr (subst (λ y. Within g f w (g.sums.plus y c)) same (looked w c near move))
    split u w x c q fu e ahead (no ne) =
        let apart : ahead.1 ≡ k → ⊥ = ne in
        inl (ahead.0, ahead.1, omega (arith, ahead.2), ahead.3, ahead.4)

module _ {C M : Type 0} {g : Search M} {means : C → M} {v : ℕ} {a : M} {notes : List (Note C)} {entries : List (Entry C)} where
  -- all neighbours were looked at
  pub look_over : (k : ℕ) → 6 ≤ k → Looking g means v a notes entries k → Holds g means notes entries Nothing 0
  look_over k late L =
      let H = L.holds in
      record {
        front = narrow Nothing H.front
            (λ u w x c q fu e ahead. absurd (omega (arith, ahead.2, ahead.3)));
        light = H.light;
        long = H.long;
        tally = omega (arith, H.tally);
      }

module _ {C M : Type 0} {g : Search M} (laws : Laws g.sums) {means : C → M} {v k : ℕ} {a : M} {notes : List (Note C)}
    {entries : List (Entry C)}
    (early : k < 6) (L : Looking g means v a notes entries k) where
  look_leaves : ((w : ℕ) (c : M) → g.shape.next v k ≡ Some w → Move g v w c
      → Within g (marks means notes) w (g.sums.plus a c))
      → Looking g means v a notes entries (k + 1)
  look_leaves looked =
      let H = L.holds in
      record {
        holds = record {
          front = narrow_on H.front L.here.1 looked;
          light = H.light;
          long = H.long;
          tally = omega (arith, H.tally);
        };
        here = L.here;
      }

  -- there is no such neighbour
  pub look_none : g.shape.next v k ≡ None → Looking g means v a notes entries (k + 1)
  look_none n = look_leaves (λ w c near move. let z : ◌≡◌ {A = ℕ} 0 1 = cc in absurd (omega arith))

  module _ {w : ℕ} (near : g.shape.next v k ≡ Some w) where
    same_move : (x : ℕ) (d : M) → g.shape.next v k ≡ Some x → Move g v x d → (w ≡ x) × (g.price v w ≡ d)
    same_move x d is move = let same : w ≡ x = cc in (same, ap (g.price v) same ∙ move.costs)

    -- the move to it may not be made
    pub look_shut : g.shape.free v w ≡ false → Looking g means v a notes entries (k + 1)
    look_shut shut = look_leaves (λ x d is move.
        let same : w ≡ x = cc in
        absurd (clash (sym shut ∙ ap (g.shape.free v) same ∙ move.free)))

    -- what is noted there is as good
    pub look_worse : worth g.sums (marks means notes w) (g.sums.plus a (g.price v w)) ≡ false
        → Looking g means v a notes entries (k + 1)
    look_worse bad = look_leaves (λ x d is move.
        let s = same_move x d is move in
        let move' : Move g v w (g.price v w) = subst₂ (λ y z. Move g v y z) (sym s.0) (sym s.1) move in
        subst₂ (λ y z. Within g (marks means notes) y (g.sums.plus a z)) s.0 s.1
        (within move' (worth_not g.sums (marks means notes w) sum bad)))
      where
        sum : M
        sum = g.sums.plus a (g.price v w)

        within : Move g v w (g.price v w)
            → ((b : M) × (p : ℕ) × (marks means notes w ≡ waits b p)
            × (g.sums.leq b (g.sums.plus a (g.price v w)) ≡ true))
            ⊎ ((b : M) × (p : ℕ) × (marks means notes w ≡ settled b p))
            → Within g (marks means notes) w (g.sums.plus a (g.price v w))
        within move (inl h) = (h.0, h.1, inl h.2, subst T (sym h.3) tt)
        within move (inr h) =
            already laws L.holds.front v w a h.0 (g.price v w) L.here.0 h.1 L.here.1 move h.2

    -- the sum of what was paid and of the move's price is exact
    pub look_sum : {price sum : C} → means price ≡ g.price v w → g.sums.bulk (means price) ≤ g.shape.dearest
        → g.shape.dearest * g.shape.size < 2 ^ 62
        → (g.sums.bulk a + g.sums.bulk (means price) < 2 ^ 62 → means sum ≡ g.sums.plus a (means price))
        → means sum ≡ g.sums.plus a (g.price v w)
    look_sum exact small room added =
        let B = g.shape.dearest in
        let few = count_le (marks means notes) g.shape.size in
        let up : B * settled_below (marks means notes) g.shape.size ≤ B * g.shape.size = mul-le-mul_left B few in
        added (omega (arith, L.holds.light.settled_bulk v a L.here.0 L.here.1)) ∙ ap (g.sums.plus a) exact

    -- a better amount is noted there, and its entry put in
    module _ {sum : C} {entries' : List (Entry C)} (exact : means sum ≡ g.sums.plus a (g.price v w))
        (put : IsPermutation (record { amount = sum; node = w } ∷ entries) entries') (one : length entries' ≡ length entries + 1)
        (inside : w < g.shape.size) (free : g.shape.free v w ≡ true)
        (small : g.sums.bulk (g.price v w) ≤ g.shape.dearest)
        (good : worth g.sums (marks means notes w) (means sum) ≡ true) where
      abbrev f : ℕ → Mark M
      f = marks means notes

      abbrev f' : ℕ → Mark M
      f' = marks means (set notes w (Waiting sum v))

      abbrev total : M
      total = g.sums.plus a (g.price v w)

      abbrev pending : ℕ → ℕ → Type 0
      pending = Ahead g.shape.next v k

      relaxing : Relaxing g f f' (Waits means entries) (Waits means entries') pending v w a (g.price v w)
      relaxing = record {
        front = L.holds.front;
        before = L.here.0;
        from = L.here.1;
        move = record { way = k; six = early; next = near; free = free; costs = refl };
        inside = inside;
        better = worth_is g.sums (f w) total (subst (λ m. worth g.sums (f w) m ≡ true) exact good);
        put = subst (λ m. Joined (Waits means entries) (Waits means entries') m w) exact
            (joined means (record { amount = sum; node = w }) entries entries' put);
        marked = subst (λ m. Marked f f' w (waits m v)) exact
            (marked means notes w (Waiting sum v) (omega (arith, L.holds.long)));
      }

      here' : f' v ≡ settled a L.here.0
      here' = settled_kept laws relaxing v a L.here.0 L.here.1

      pub look_better : Looking g means v a (set notes w (Waiting sum v)) entries' (k + 1)
      look_better = record {
        holds = record {
          front = narrow_on (relax laws relaxing) here' (λ x d is move.
              let s = same_move x d is move in
              subst₂ (λ y z. Within g f' y (g.sums.plus a z)) s.0 s.1 (relax_within laws relaxing));
          light = relax_light laws relaxing L.holds.light small;
          long = length-set notes w (Waiting sum v) ∙ L.holds.long;
          tally = omega (arith, L.holds.tally, one, relax_count laws relaxing);
        };
        here = (L.here.0, here');
      }
