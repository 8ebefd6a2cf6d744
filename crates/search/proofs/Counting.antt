-- How many numbers are in a list without repeats. Assumes nothing.
use Rattle.std.proofs.Common.{◌≡◌, ℕ, zero, suc, ◌<◌, ◌≤◌, Bool, true, false, cond, not, ◌||◌, T, eqb, List, [], ◌∷◌, length, get_or, take, Some, None, Option, sym, refl, ap, ◌∙◌, subst, inl, inr, arith, eqb→eq, length-take, eqb-true, lt-ltb, ne_eqb}
use lib.Dec.{eqb_refl}
use Rattle.std.specs.Option.{unwrap_or, ok_or}
use Rattle.std.specs.List.{ContainsAt as Has, AllByRecursion, IsDistinct, position, position_or_len}
use Rattle.std.specs.Cmp.{nat_eq_equiv}
use Rattle.std.specs.Set.{unique_keys, distinct_count, is_member}
use Rattle.std.proofs.lemmas.Float.{T_from_true}
use Rattle.std.proofs.lemmas.Grind.{get_or_default_zero}
use Rattle.std.proofs.lemmas.Map.Keys.{IsDistinct-from_apart}
use Rattle.std.proofs.lemmas.Map.Made.{length-le_from_is_member, length-from_keys}
use Rattle.std.specs.List.Sorted.{IsPermutation}
use Rattle.std.proofs.lemmas.List.Sums.{prefix_len_passes}
use Rattle.std.proofs.lemmas.List.Quantifiers.{position-Some}
use Rattle.std.proofs.lemmas.Bool.{cases_lt}
use Rattle.geometry.specs.Lists.{mem, distinct}
use Rattle.queue.specs.Distinct.{Climbs, MoreThan, Collected, Drained, allowed}
use Rattle.queue.proofs.Uses.{drained_shuffled}
use Rattle.routes.proofs.Bools.{either, first, second}
use Rattle.routes.proofs.Listed.{mem_distinct}
use Rattle.search.specs.declared.lines.Undrawn.TheVariants.{TooManyLines}
use Rattle.search.specs.Lattices.{T_true}
use Rattle.search.specs.Located.{AtPlace}
use Rattle.search.specs.Drawing.{short_lists, ToldLines, ToldDrawn}

-- membership by a test and by a place

pub mem_place : (n : ℕ) (ns : List ℕ) → T (mem n ns) → (k : ℕ) × (k < length ns) × (get_or ns k 0 ≡ n)
mem_place n [] h = absurd h
mem_place n (m ∷ ns) h = elim (either (eqb n m) (mem n ns) h) [
  | inl e ↦ (0, omega arith, sym (eqb→eq n m e))
  | inr r ↦ let p = mem_place n ns r in (suc p.0, omega (arith, p.1), p.2)
]

pub place_mem : (n : ℕ) (ns : List ℕ) (k : ℕ) → k < length ns → get_or ns k 0 ≡ n → T (mem n ns)
place_mem n [] k h e = absurd (omega arith)
place_mem n (m ∷ ns) zero h e = first (eqb n m) (mem n ns) (subst (λ v. T (eqb n v)) (sym e) (eqb_refl n))
place_mem n (m ∷ ns) (suc k) h e = second (eqb n m) (mem n ns) (place_mem n ns k (omega arith) e)

-- the first place of a number

pub found_place : (n : ℕ) (ns : List ℕ) (i : ℕ) → Some i ≡ position (λ x. eqb x n) ns → AtPlace ns n i
found_place n ns i e =
    let s = position-Some (λ x. eqb x n) ns i 0 (sym e) in
    record { inside = s.0; is = eqb-true (get_or ns i 0) n s.1 }

pub no_place : (n : ℕ) (ns : List ℕ) → None ≡ position (λ x. eqb x n) ns → T (mem n ns) → ⊥
no_place n ns e h =
    let place = position_or_len (λ x. eqb x n) ns in
    let p = mem_place n ns h in
    elim (cases_lt place (length ns)) [
      | inl l ↦ absurd (let some : None ≡ Some place = e ∙ ap (λ b. cond b (Some place) None) (lt-ltb place (length ns) l) in
          let z : ◌≡◌ {A = ℕ} 0 1 = cc in omega arith)
      | inr l ↦ let f = prefix_len_passes (λ x. not (eqb x n)) ns p.0 0 (omega (arith, p.1, l)) in grind (arith, f, p.2)
    ]

pub has_mem : (n : ℕ) (ns : List ℕ) → Has ns n → T (mem n ns)
has_mem n ns h = place_mem n ns h.0 h.1 (h.2 0)

pub mem_has_all : (P : ℕ → Type 0) (ns : List ℕ) (n : ℕ) → AllByRecursion P ns → T (mem n ns) → P n
mem_has_all P [] n a h = absurd h
mem_has_all P (m ∷ ns) n a h = elim (either (eqb n m) (mem n ns) h) [
  | inl e ↦ subst P (sym (eqb→eq n m e)) a.0
  | inr r ↦ mem_has_all P ns n a.1 r
]

pub same_test : (a b : Bool) → (T a → T b) → (T b → T a) → a ≡ b
same_test true true f g = refl
same_test true false f g = absurd (f tt)
same_test false true f g = absurd (g tt)
same_test false false f g = refl

-- each number once, in std's words

mem_member : (n : ℕ) (ns : List ℕ) → mem n ns ≡ is_member eqb ns n
mem_member n [] = refl
mem_member n (m ∷ ns) = ap (λ b. eqb n m || b) (mem_member n ns)

distinct_keys : (ns : List ℕ) → distinct ns ≡ unique_keys eqb ns
distinct_keys [] = refl
distinct_keys (n ∷ ns) = λ i. cond (mem_member n ns i) (distinct_keys ns i) (n ∷ distinct_keys ns i)

pub climbs_once : (ns : List ℕ) → Climbs ns → IsDistinct eqb ns
climbs_once ns c = IsDistinct-from_apart eqb ns (λ i j d h k. ne_eqb (get_or ns i d) (get_or ns j d) (λ e.
    omega (arith, c i j h k, get_or_default_zero ns i d (omega arith), get_or_default_zero ns j d k, e)))

pub mem_undistinct : (n : ℕ) (ns : List ℕ) → T (mem n (distinct ns)) → T (mem n ns)
mem_undistinct n [] h = h
mem_undistinct n (m ∷ ns) h = pick (mem m ns) (mem_undistinct n ns) h
  where
    pick : (b : Bool) → (T (mem n (distinct ns)) → T (mem n ns)) → T (mem n (cond b (distinct ns) (m ∷ distinct ns)))
        → T (mem n (m ∷ ns))
    pick true f k = second (eqb n m) (mem n ns) (f k)
    pick false f k = elim (either (eqb n m) (mem n (distinct ns)) k) [
      | inl e ↦ first (eqb n m) (mem n ns) e
      | inr r ↦ second (eqb n m) (mem n ns) (f r)
    ]

mem_of_distinct : (n : ℕ) (ns : List ℕ) → mem n (distinct ns) ≡ mem n ns
mem_of_distinct n ns = same_test (mem n (distinct ns)) (mem n ns) (mem_undistinct n ns) (mem_distinct n ns)

-- the lines that were found

pub told_lines : (xs out : List ℕ) (n : ℕ) → Collected 1024 xs (take n out) → n ≤ 1024 → n ≤ length out
    → ToldLines (distinct xs) out n
told_lines xs out n c few inside =
    let d = c.distinct in
    let ys = take n out in
    let same : (v : ℕ) → mem v ys ≡ mem v xs = λ v. same_test (mem v ys) (mem v xs)
    (λ h. has_mem v xs (mem_has_all (Has xs) ys v d.among h)) (λ h. has_mem v ys (mem_has_all (Has ys) xs v d.all h)) in
    let count : length ys ≡ distinct_count eqb xs = length-from_keys nat_eq_equiv ys xs (climbs_once ys d.climbs)
    (λ v. sym (mem_member v ys) ∙ (same v ∙ mem_member v xs)) in
    record {
      number = omega (arith, length-take n out, count, ap length (distinct_keys xs));
      few = few;
      inside = inside;
      climbs = d.climbs;
      same = λ v. same v ∙ sym (mem_of_distinct v xs);
    }

pub too_many : (xs : List ℕ) → MoreThan 1024 xs → 1024 < length (distinct xs)
too_many xs m =
    let among : (v : ℕ) → is_member eqb m.some v ≡ true → is_member eqb (distinct xs) v ≡ true =
    λ v h. sym (mem_member v (distinct xs)) ∙ T_true _ (mem_distinct v xs
    (has_mem v xs (mem_has_all (Has xs) m.some v m.among (T_from_true _ (mem_member v m.some ∙ h))))) in
    omega (arith, m.count, length-le_from_is_member nat_eq_equiv m.some (distinct xs) (climbs_once m.some m.climbs) among)

-- where no list is too short
pub lines_long : (m j k : ℕ) → false ≡ short_lists m j k → 1024 ≤ k
lines_long m j k e = grind (arith, e)

-- what is drawn where the coordinates of the lines were put into an empty queue
module _ (xs ws old out : List ℕ) (put : IsPermutation xs ws) (long : 1024 ≤ length old) (kept : 1024 ≤ length out) where
  most : allowed 1024 old ≡ 1024
  most = omega arith

  pub told_drawn : (r : Option ℕ) → unwrap_or r (allowed 1024 old) ≤ allowed 1024 old → Drained (allowed 1024 old) ws out r
      → ToldDrawn (distinct xs) out (ok_or r TooManyLines)
  told_drawn r few d = pick r few (drained_shuffled 1024 xs ws out r put (subst (λ v. Drained v ws out r) most d))
    where
      pick : (r : Option ℕ) → unwrap_or r (allowed 1024 old) ≤ allowed 1024 old → Drained 1024 xs out r → ToldDrawn (distinct xs) out (ok_or r TooManyLines)
      pick (Some n) few c = told_lines xs out n c (omega (arith, most, few)) (omega (arith, most, few))
      pick None few m = too_many xs m
