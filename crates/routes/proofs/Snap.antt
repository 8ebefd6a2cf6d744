-- A route can be moved until each x coordinate that it goes to is a line, and it costs no more. The coordinates that are
-- no lines are removed one by one, from the least: all that is at k goes to the last line below k, or all to k + 1.
-- Assumes nothing.
use Rattle.std.proofs.Common.{◌≡◌, ℕ, zero, suc, ◌-◌, ◌<◌, ◌≤◌, T, List, [], ◌∷◌, sym, refl, ap, ◌∙◌, subst, inl, inr, arith}
use Rattle.std.proofs.lemmas.Bool.{cases_lt, cases_eq}
use Rattle.geometry.specs.declared.point.Point.{Point}
use Rattle.geometry.specs.Lists.{mem}
use Rattle.costs.specs.Amounts.{Tariff}
use Rattle.routes.specs.Routes.{Move, along_x, along_y, to_layer, after, end, Rules, lawful_move, lawful, cost}
use Rattle.routes.proofs.Bools.{decide}
use Rattle.routes.proofs.Moves.{this_move, later_moves, x_within}
use Rattle.routes.proofs.Sums.{Ordered, leq_refl}
use Rattle.routes.proofs.Numbers.{NoLine, line_apart, line_below, put, put_other}
use Rattle.routes.proofs.Balance.{balance_leq}
use Rattle.routes.proofs.Columns.{Kept, spot_parts, put_safe, put_kept, put_shrinks, up_to_line, past_all, spot}
use Rattle.routes.proofs.Shift.{xs, ys, Each, each_like, map_x, shift_x, shift_x_stays, end_map_x, ys_map_x, each_map_x}
use Rattle.routes.proofs.Shift.{Steady, lawful_map_x, cost_map_x, cost_balance}

-- r' is a lawful route in place of r, with the same y coordinates, and costs no more
pub record Improves {M : Type 0} (tf : Tariff M) (leq : M → M → Type 0) (R : Rules) (p : Point) (r r' : List Move) : Type 0 where
  pub is_lawful : T (lawful R p r')
  pub same_end : end p r' ≡ end p r
  pub same_ys : ys r' ≡ ys r
  pub no_dearer : leq (cost tf p r') (cost tf p r)

pub xs_within : (R : Rules) (p : Point) (r : List Move) → T (lawful R p r) → Each (λ x. x ≤ R.width) (xs r)
xs_within R p [] ok = tt
xs_within R p (along_x x ∷ r) ok = (
  x_within R p x (this_move (lawful_move R) p (along_x x) r ok),
  xs_within R (after p (along_x x)) r
      (later_moves (lawful_move R) p (along_x x) r ok),
)
xs_within R p (along_y y ∷ r) ok = xs_within R (after p (along_y y)) r (later_moves (lawful_move R) p (along_y y) r ok)
xs_within R p (to_layer l ∷ r) ok = xs_within R (after p (to_layer l)) r (later_moves (lawful_move R) p (to_layer l) r ok)

module _ {M : Type 0} (tf : Tariff M) {leq : M → M → Type 0} (laws : Ordered tf.sums leq) (R : Rules) (qs : List ℕ)
    (wires : Steady qs R.width R.wire) (vias : Steady qs R.width R.via) (p : Point) (fits : p.x ≤ R.width)
    (starts : T (mem p.x qs)) where
  -- a route in place of r, whose x coordinates below k are lines
  abbrev LinedBelow : ℕ → List Move → Type 0
  LinedBelow k r = (r' : List Move) × Improves tf leq R p r r' × Each (Kept qs R.width k) (xs r')

  module _ (k : ℕ) (off : T (mem k qs) → ⊥) (r : List Move) (ends : T (mem (end p r).x qs))
      (kept : Each (Kept qs R.width k) (xs r)) (ok : T (lawful R p r)) where
    start_kept : Kept qs R.width k p.x
    start_kept = (inl starts, fits)

    -- all that is at k goes to v
    with_k_at : (v : ℕ) → Kept qs R.width (suc k) v → NoLine qs k v → NoLine qs (suc v) (suc k)
        → leq (cost tf (shift_x (put k v) p) (map_x (put k v) r)) (cost tf p r) → LinedBelow (suc k) r
    with_k_at v v-kept up down cheaper =
        let f = put k v in
        let here : shift_x f p ≡ p = shift_x_stays f p (put_other k v p.x (line_apart qs k off p.x starts)) in
        let there : shift_x f (end p r) ≡ end p r =
        shift_x_stays f (end p r) (put_other k v (end p r).x (line_apart qs k off (end p r).x ends)) in
        let safe = put_safe qs R.width k v v-kept.1 up down in (
          map_x f r,
          record {
            is_lawful = subst (λ o. T (lawful R o (map_x f r))) here
                (lawful_map_x R qs wires vias f p r (safe p.x start_kept) (each_like _ _ safe (xs r) kept) ok);
            same_end = ap (λ o. end o (map_x f r)) (sym here) ∙ end_map_x f p r ∙ there;
            same_ys = ys_map_x f r;
            no_dearer = subst (λ o. leq (cost tf o (map_x f r)) (cost tf p r)) here cheaper;
          },
          each_map_x _ _ f (put_kept qs R.width k v v-kept) r kept,
        )

    to_left : (b : ℕ) → b < k → T (mem b qs) → NoLine qs (suc b) k
        → leq (cost tf (shift_x (put k b) p) (map_x (put k b) r)) (cost tf p r) → k ≤ R.width → LinedBelow (suc k) r
    to_left b below on clear cheaper within =
        with_k_at b (inl on, omega arith) (λ q m x y. omega arith)
        (λ q m x y. elim (cases_eq q k) [ inl e ↦ line_apart qs k off q m e | inr ne ↦ clear q m x (omega arith) ]) cheaper

    to_right : k < R.width → leq (cost tf (shift_x (put k (suc k)) p) (map_x (put k (suc k)) r)) (cost tf p r)
        → LinedBelow (suc k) r
    to_right inner cheaper =
        with_k_at (suc k) (inr (omega arith), inner) (λ q m x y. line_apart qs k off q m (omega arith))
        (λ q m x y. omega arith) cheaper

    -- With a line below k and room above, one of the two is no dearer. With no line below k nothing of the route is below
    -- k, and at the last coordinate nothing is above: there every move away from k gets shorter.
    remove : k ≤ R.width → LinedBelow (suc k) r
    remove within = elim (line_below qs k) [
      | inl found ↦
          let b = found.0 in
          let below : b < k = found.1 in
          let spots = spot qs R.width k b below found.3 in
          elim (cases_lt k R.width) [
            | inl inner ↦
                elim (balance_leq laws (k - b) (cost_balance tf laws (Kept qs R.width k) (k - b) (put k b) (put k (suc k))
                (λ x x' h h'. spot_parts k b x _ _ x' _ _ below (spots x h) (spots x' h')) p r start_kept kept)) [
                  | inl cheaper ↦ to_left b below found.2 found.3 cheaper within
                  | inr cheaper ↦ to_right inner cheaper
                ]
            | inr last ↦
                to_left b below found.2 found.3
                (cost_map_x tf laws (Kept qs R.width k) (put k b)
                (put_shrinks qs R.width k b
                (λ x h ne. inl (up_to_line qs R.width k b found.3 x h (omega arith), omega arith)))
                p r start_kept kept)
                within
          ]
      | inr empty ↦
          let past : k < p.x = past_all qs R.width k empty p.x start_kept (line_apart qs k off p.x starts) in
          let inner : k < R.width = omega arith in
          to_right inner
          (cost_map_x tf laws (Kept qs R.width k) (put k (suc k))
          (put_shrinks qs R.width k (suc k) (λ x h ne. inr (omega arith, past_all qs R.width k empty x h ne)))
          p r start_kept kept)
    ]

  lined_below : (k : ℕ) → k ≤ suc R.width → (r : List Move) → T (mem (end p r).x qs) → T (lawful R p r) → LinedBelow k r
  lined_below zero within r ends ok = (
    r,
    record { is_lawful = ok; same_end = refl; same_ys = refl; no_dearer = leq_refl laws _ },
    each_like _ _ (λ x h. (inr (omega arith), h)) (xs r) (xs_within R p r ok),
  )
  lined_below (suc k) within r ends ok =
      let prev = lined_below k (omega arith) r ends ok in
      let better : Improves tf leq R p r prev.0 = prev.1 in
      elim (decide (mem k qs)) [
        | inl on ↦ (prev.0, better, each_like _ _ (λ x h. past_line k on x h) (xs prev.0) prev.2)
        | inr off ↦
            let next = remove k off prev.0 (subst (λ o. T (mem o.x qs)) (sym better.same_end) ends) prev.2
            better.is_lawful (omega arith) in
            (next.0, improves_trans better next.1, next.2)
      ]
    where
      past_line : (k : ℕ) → T (mem k qs) → (x : ℕ) → Kept qs R.width k x → Kept qs R.width (suc k) x
      past_line k on x h = elim (cases_eq x k) [
        | inl e ↦ (inl (subst (λ i. T (mem i qs)) (sym e) on), h.1)
        | inr ne ↦ elim h.0 [ inl m ↦ (inl m, h.1) | inr ge ↦ (inr (omega arith), h.1) ]
      ]

      improves_trans : {r r' r'' : List Move} → Improves tf leq R p r r' → Improves tf leq R p r' r'' → Improves tf leq R p r r''
      improves_trans a b = record {
        is_lawful = b.is_lawful;
        same_end = b.same_end ∙ a.same_end;
        same_ys = b.same_ys ∙ a.same_ys;
        no_dearer = laws.trans b.no_dearer a.no_dearer;
      }

  -- each x coordinate is a line
  pub snap_x : (r : List Move) → T (mem (end p r).x qs) → T (lawful R p r)
      → (r' : List Move) × Improves tf leq R p r r' × Each (λ x. T (mem x qs)) (xs r')
  snap_x r ends ok =
      let last = lined_below (suc R.width) (omega arith) r ends ok in (
        last.0,
        last.1,
        each_like _ _ (λ x h. elim h.0 [ inl m ↦ m | inr ge ↦ absurd (past x h.1 ge) ]) (xs last.0)
            last.2,
      )
    where
      past : (x : ℕ) → x ≤ R.width → suc R.width ≤ x → ⊥
      past x a b = omega arith
