-- What taking pieces out leaves in order, and what adding one does. Assumes nothing.
use Rattle.std.proofs.Common.{Bool, T, List, [], ◌∷◌, ◌++◌, filter, arith}
use Rattle.geometry.specs.Lists.{all_of}
use Rattle.geometry.specs.Clearance.{proper, keep_clear, clear, in_order}
use Rattle.geometry.specs.declared.piece.Piece.{Piece}

-- a test that all pass, the kept ones pass
kept_pass : {X : Type 0} (test keep : X → Bool) (xs : List X) → T (all_of test xs) → T (all_of test (filter keep xs))
kept_pass test keep [] h = tt
kept_pass test keep (x ∷ xs) h = grind (arith, kept_pass test keep xs)

kept_clear : (keep : Piece → Bool) (ps : List Piece) → T (clear ps) → T (clear (filter keep ps))
kept_clear keep [] h = tt
kept_clear keep (p ∷ ps) h = grind (arith, kept_pass (keep_clear p) keep ps, kept_clear keep ps)

pub kept_in_order : (keep : Piece → Bool) (ps : List Piece) → T (in_order ps) → T (in_order (filter keep ps))
kept_in_order keep ps h = grind (arith, kept_pass proper keep ps, kept_clear keep ps)

all_more : {X : Type 0} (test : X → Bool) (xs : List X) (x : X) → T (all_of test xs) → T (test x) → T (all_of test (xs ++ (x ∷ [])))
all_more test [] x h k = grind arith
all_more test (y ∷ xs) x h k = grind (arith, all_more test xs x)

clear_more : (ps : List Piece) (q : Piece) → T (clear ps) → T (all_of (λ p. keep_clear p q) ps) → T (clear (ps ++ (q ∷ [])))
clear_more [] q h k = tt
clear_more (p ∷ ps) q h k = grind (arith, all_more (keep_clear p) ps q, clear_more ps q)

-- a proper piece from which all keep clear
pub in_order_more :
    (ps : List Piece) (q : Piece) → T (proper q) → T (all_of (λ p. keep_clear p q) ps) → T (in_order ps) → T (in_order (ps ++ (q ∷ [])))
in_order_more ps q wide k h = grind (arith, all_more proper ps q, clear_more ps q)
