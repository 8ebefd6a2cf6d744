-- Neighbours among ascending numbers stand side by side. Assumes nothing.
use Rattle.std.proofs.Common.{◌≡◌, ℕ, ◌+◌, ◌-◌, ◌<◌, ◌≤◌, min, max, Bool, not, ◌&&◌, T, eqb, ltb, ◌⊎◌, List, [], ◌∷◌, length, get_or, sym, refl, subst, inl, inr, arith, eqb→eq, ltb→lt, lt→ltb}
use lib.Dec.{eqb_refl}
use Rattle.std.proofs.lemmas.Bool.{cases_lt, cases_order}
use Rattle.geometry.specs.Lists.{all_of, mem}
use Rattle.queue.specs.Distinct.{Climbs}
use Rattle.routes.specs.Lines.{between, none_between, neighbours}
use Rattle.routes.proofs.Bools.{left, right, both, either, refute, refuted}
use Rattle.routes.proofs.Listed.{all_of_from, mem_in}
use Rattle.search.proofs.Counting.{mem_place, place_mem}

pub all_mem : (test : ℕ → Bool) (ns : List ℕ) (n : ℕ) → T (all_of test ns) → T (mem n ns) → T (test n)
all_mem test [] n h k = absurd k
all_mem test (m ∷ ns) n h k = elim (either (eqb n m) (mem n ns) k) [
  | inl e ↦ subst (λ v. T (test v)) (sym (eqb→eq n m e)) (left (test m) (all_of test ns) h)
  | inr r ↦ all_mem test ns n (right (test m) (all_of test ns) h) r
]

module _ (ns : List ℕ) (climbs : Climbs ns) where
  -- a later number is no smaller
  rises : (i j : ℕ) → i ≤ j → j < length ns → get_or ns i 0 ≤ get_or ns j 0
  rises i j h k = elim (cases_lt i j) [
    | inl l ↦ omega (arith, climbs i j l k)
    | inr m ↦ let e : i ≡ j = omega arith in subst (λ v. get_or ns i 0 ≤ get_or ns v 0) e (omega arith)
  ]

  pub same_place : (i j : ℕ) → i < length ns → j < length ns → get_or ns i 0 ≡ get_or ns j 0 → i ≡ j
  same_place i j h k e = elim (cases_order i j) [
    | inl same ↦ same
    | inr apart ↦ elim apart [
      | inl l ↦ absurd (omega (arith, climbs i j l k, e))
      | inr l ↦ absurd (omega (arith, climbs j i l h, e))
    ]
  ]

  not_between : (a b q : ℕ) → ((min a b < q) × (q < max a b) → ⊥) → T (not (between a b q))
  not_between a b q h =
      refute (between a b q) (λ t. h (
        ltb→lt (min a b) q (left (ltb (min a b) q) (ltb q (max a b)) t),
        ltb→lt q (max a b) (right (ltb (min a b) q) (ltb q (max a b)) t),
      ))

  neighbours_from : (a b : ℕ) → T (mem a ns) → T (mem b ns) → (a ≡ b → ⊥) → ((q : ℕ) → T (mem q ns) → (min a b < q) × (q < max a b) → ⊥)
      → T (neighbours ns a b)
  neighbours_from a b h k apart none =
      both (mem a ns && mem b ns) (not (eqb a b) && none_between ns a b) (both (mem a ns) (mem b ns) h k)
      (both (not (eqb a b)) (none_between ns a b) (refute (eqb a b) (λ t. apart (eqb→eq a b t)))
      (all_of_from (λ q. not (between a b q)) ns (λ q i. not_between a b q (none q (mem_in q ns i)))))

  -- no number lies between one and the next
  gap_free : (i j q : ℕ) → i + 1 ≡ j → j < length ns → T (mem q ns) → (get_or ns i 0 < q) × (q < get_or ns j 0) → ⊥
  gap_free i j q e h m b =
      let p = mem_place q ns m in
      elim (cases_lt i p.0) [
        | inl l ↦ omega (arith, rises j p.0 (omega arith) p.1, p.2, b.1)
        | inr l ↦ omega (arith, rises p.0 i l (omega arith), p.2, b.0)
      ]

  -- numbers side by side are neighbours
  pub next_to : (i j : ℕ) → (j + 1 ≡ i) ⊎ (i + 1 ≡ j) → i < length ns → j < length ns → T (neighbours ns (get_or ns i 0) (get_or ns j 0))
  next_to i j (inl e) h k =
      let less : get_or ns j 0 < get_or ns i 0 = climbs j i (omega arith) h in
      neighbours_from _ _ (place_mem _ ns i h refl) (place_mem _ ns j k refl) (λ e. omega arith)
      (λ q m b. gap_free j i q e h m (omega (arith, b.0), omega (arith, b.1)))
  next_to i j (inr e) h k =
      let less : get_or ns i 0 < get_or ns j 0 = climbs i j (omega arith) k in
      neighbours_from _ _ (place_mem _ ns i h refl) (place_mem _ ns j k refl) (λ e. omega arith)
      (λ q m b. gap_free i j q e k m (omega (arith, b.0), omega (arith, b.1)))

  -- a neighbour of the number at i stands before it or behind it
  pub adjacent : (i v : ℕ) → i < length ns → T (neighbours ns (get_or ns i 0) v)
      → ((0 < i) × (get_or ns (i - 1) 0 ≡ v)) ⊎ ((i + 1 < length ns) × (get_or ns (i + 1) 0 ≡ v))
  adjacent i v h t =
      let a = get_or ns i 0 in
      let members = left (mem a ns && mem v ns) (not (eqb a v) && none_between ns a v) t in
      let others = right (mem a ns && mem v ns) (not (eqb a v) && none_between ns a v) t in
      let apart : a ≡ v → ⊥ = λ e. refuted (eqb a v) (left (not (eqb a v)) (none_between ns a v) others)
      (subst (λ w. T (eqb a w)) e (eqb_refl a)) in
      let none = right (not (eqb a v)) (none_between ns a v) others in
      let p = mem_place v ns (right (mem a ns) (mem v ns) members) in
      let j = p.0 in
      let clear : (q : ℕ) → T (mem q ns) → min a v < q → q < max a v → ⊥ =
      λ q m l u. refuted (between a v q) (all_mem (λ w. not (between a v w)) ns q none m)
      (both (ltb (min a v) q) (ltb q (max a v)) (lt→ltb (min a v) q l) (lt→ltb q (max a v) u)) in
      elim (cases_order i j) [
        | inl e ↦ absurd (apart (subst (λ w. get_or ns w 0 ≡ v) (sym e) p.2))
        | inr side ↦ elim side [
          | inl l ↦ elim (cases_lt (i + 1) j) [
            | inl far ↦ absurd (clear (get_or ns (i + 1) 0) (place_mem (get_or ns (i + 1) 0) ns (i + 1) (omega (arith, p.1)) refl)
                (omega (arith, climbs i (i + 1) (omega arith) (omega (arith, p.1))))
                (omega (arith, climbs (i + 1) j far p.1, p.2)))
            | inr near ↦ let e : j ≡ i + 1 = omega arith in inr (omega (arith, p.1), subst (λ w. get_or ns w 0 ≡ v) e p.2)
          ]
          | inr l ↦ elim (cases_lt j (i - 1)) [
            | inl far ↦ absurd (clear (get_or ns (i - 1) 0) (place_mem (get_or ns (i - 1) 0) ns (i - 1) (omega arith) refl)
                (omega (arith, climbs j (i - 1) far (omega arith), p.2))
                (omega (arith, climbs (i - 1) i (omega arith) h)))
            | inr near ↦ let e : j ≡ i - 1 = omega arith in inl (omega arith, subst (λ w. get_or ns w 0 ≡ v) e p.2)
          ]
        ]
      ]
