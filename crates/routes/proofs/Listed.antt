-- What is in a list, and what a test that all of a list pass says of it. Assumes nothing.
use Rattle.std.proofs.Common.{◌≡◌, ℕ, Bool, true, false, cond, T, eqb, ◌⊎◌, List, [], ◌∷◌, ◌++◌, filter, sym, refl, subst, inl, inr, eqb→eq}
use lib.Dec.{eqb_refl}
use Rattle.geometry.specs.Lists.{all_of, flat, mem, distinct}
use Rattle.routes.specs.Lines.{among}
use Rattle.routes.proofs.Bools.{left, right, both, either, first, second}

abbrev pub In : {X : Type 0} → X → List X → Type 0
In x [] = ⊥
In x (y ∷ ys) = (y ≡ x) ⊎ In x ys

in_left : {X : Type 0} (x : X) (xs ys : List X) → In x xs → In x (xs ++ ys)
in_left x [] ys h = absurd h
in_left x (y ∷ xs) ys (inl e) = inl e
in_left x (y ∷ xs) ys (inr h) = inr (in_left x xs ys h)

in_right : {X : Type 0} (x : X) (xs ys : List X) → In x ys → In x (xs ++ ys)
in_right x [] ys h = h
in_right x (y ∷ xs) ys h = inr (in_right x xs ys h)

pub in_flat : {X Y : Type 0} (f : X → List Y) (x : X) (y : Y) (xs : List X) → In x xs → In y (f x) → In y (flat f xs)
in_flat f x y [] h k = absurd h
in_flat f x y (v ∷ xs) (inl e) k = in_left y (f v) (flat f xs) (subst (λ i. In y (f i)) (sym e) k)
in_flat f x y (v ∷ xs) (inr h) k = in_right y (f v) (flat f xs) (in_flat f x y xs h k)

pub in_kept : {X : Type 0} (keep : X → Bool) (x : X) (xs : List X) → In x xs → T (keep x) → In x (filter keep xs)
in_kept keep x [] h k = absurd h
in_kept keep x (v ∷ xs) (inl e) k = here (keep v) (subst (λ i. T (keep i)) (sym e) k)
  where
    here : (b : Bool) → T b → In x (cond b (v ∷ filter keep xs) (filter keep xs))
    here true h = inl e
    here false h = absurd h
in_kept keep x (v ∷ xs) (inr h) k = there (keep v) (in_kept keep x xs h k)
  where
    there : (b : Bool) → In x (filter keep xs) → In x (cond b (v ∷ filter keep xs) (filter keep xs))
    there true i = inr i
    there false i = i

pub all_of_says : {X : Type 0} (test : X → Bool) (xs : List X) → T (all_of test xs) → (x : X) → In x xs → T (test x)
all_of_says test [] h x i = absurd i
all_of_says test (y ∷ xs) h x (inl e) = subst (λ v. T (test v)) e (left _ _ h)
all_of_says test (y ∷ xs) h x (inr i) = all_of_says test xs (right _ _ h) x i

pub all_of_from : {X : Type 0} (test : X → Bool) (xs : List X) → ((x : X) → In x xs → T (test x)) → T (all_of test xs)
all_of_from test [] h = tt
all_of_from test (y ∷ xs) h = both _ _ (h y (inl refl)) (all_of_from test xs (λ x i. h x (inr i)))

-- what passes one test passes another
pub all_of_like : {X : Type 0} (f g : X → Bool) (xs : List X) → ((x : X) → In x xs → T (f x) → T (g x)) → T (all_of f xs)
    → T (all_of g xs)
all_of_like f g xs like h = all_of_from g xs (λ x i. like x i (all_of_says f xs h x i))

pub mem_in : (n : ℕ) (ns : List ℕ) → In n ns → T (mem n ns)
mem_in n [] i = absurd i
mem_in n (m ∷ ns) (inl e) = first _ _ (subst (λ k. T (eqb n k)) (sym e) (eqb_refl n))
mem_in n (m ∷ ns) (inr i) = second _ _ (mem_in n ns i)

pub mem_distinct : (n : ℕ) (ns : List ℕ) → T (mem n ns) → T (mem n (distinct ns))
mem_distinct n [] h = absurd h
mem_distinct n (m ∷ ns) h =
    let again : T (mem n ns) → T (mem n (distinct ns)) = mem_distinct n ns in
    let later : (b : Bool) → T (mem n ns) → T (mem n (cond b (distinct ns) (m ∷ distinct ns))) =
    λ b k. elim b as (λ v. T (mem n (cond v (distinct ns) (m ∷ distinct ns))))
    [ true ↦ again k | false ↦ second _ _ (again k) ] in
    elim (either _ _ h) [
      | inl e ↦ once (mem m ns) (λ k. again (subst (λ i. T (mem i ns)) (sym (eqb→eq _ _ e)) k)) e
      | inr k ↦ later (mem m ns) k
    ]
  where
    once : (b : Bool) → (T b → T (mem n (distinct ns))) → T (eqb n m) → T (mem n (cond b (distinct ns) (m ∷ distinct ns)))
    once true f e = f tt
    once false f e = first _ _ e

pub among_says : (ns qs : List ℕ) → T (among ns qs) → (n : ℕ) → T (mem n ns) → T (mem n qs)
among_says [] qs h n k = absurd k
among_says (m ∷ ns) qs h n k = elim (either _ _ k) [
  | inl e ↦ subst (λ i. T (mem i qs)) (sym (eqb→eq _ _ e)) (left _ _ h)
  | inr l ↦ among_says ns qs (right _ _ h) n l
]

pub among_itself : (ns : List ℕ) → T (among ns ns)
among_itself ns = all_of_from (λ n. mem n ns) ns (λ n i. mem_in n ns i)
