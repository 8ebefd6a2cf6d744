-- What is in the way, as std's test of each element. Assumes nothing.
use Rattle.std.proofs.Common.{◌≡◌, Bool, ◌&&◌, List, [], ◌∷◌, refl, ap}
use Rattle.std.specs.List.{list_all}
use Rattle.geometry.specs.Lists.{all_of}

pub all_of_list : {X : Type 0} (test : X → Bool) (xs : List X) → list_all test xs ≡ all_of test xs
all_of_list test [] = refl
all_of_list test (x ∷ xs) = ap (λ b. test x && b) (all_of_list test xs)
