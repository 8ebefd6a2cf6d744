-- Tests over lists. Assumes nothing.
--     all_of test xs, any_of test xs     each element, or some element, passes a test
--     flat f xs                          the lists that f makes of each element, one behind the other
--     mem n ns, distinct ns              a number is among some; each number once
use Rattle.std.specs.Prelude.{ℕ, Bool, true, false, cond, ◌&&◌, ◌||◌, List, [], ◌∷◌, ◌++◌, nat_eq}

abbrev pub all_of : {X : Type 0} → (X → Bool) → List X → Bool
all_of test [] = true
all_of test (x ∷ xs) = test x && all_of test xs

abbrev pub any_of : {X : Type 0} → (X → Bool) → List X → Bool
any_of test [] = false
any_of test (x ∷ xs) = test x || any_of test xs

abbrev pub flat : {X Y : Type 0} → (X → List Y) → List X → List Y
flat f [] = []
flat f (x ∷ xs) = f x ++ flat f xs

abbrev pub mem : ℕ → List ℕ → Bool
mem n = any_of (nat_eq n)

abbrev pub distinct : List ℕ → List ℕ
distinct [] = []
distinct (n ∷ ns) = cond (mem n ns) (distinct ns) (n ∷ distinct ns)
