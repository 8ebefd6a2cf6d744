-- Orders in which places are swept. Assumes nothing.
use Rattle.std.proofs.Common.{◌≡◌, ℕ, ◌+◌, ◌-◌, ◌<◌, ◌≤◌, zero, suc, [], ◌∷◌, Option, Some, All, refl, arith}
use Rattle.std.specs.Iterator.{HoldsAlong}
use Rattle.std.specs.Iterator.Adapters.{rev_steps, rev_source}
use Rattle.std.specs.Range.{range_steps, range_steps_back}
use Rattle.std.specs.declared.ops.Range.{Range}
use Rattle.std.specs.declared.iter.Rev.{Rev}
use Rattle.flood.specs.Orders.{GivesBelow}

-- the next number, and those that come after it
pub next_below : {S : Type 0} (steps : S → Option ℕ → S → Type 0) (s t : S) (n x : ℕ)
    → GivesBelow steps s n → steps s (Some x) t → x < n
next_below steps s t n x gives e = gives.along (x ∷ []) t (t, e, refl) 0 0 (omega arith)

pub later_below : {S : Type 0} (steps : S → Option ℕ → S → Type 0) (s t : S) (n x : ℕ)
    → GivesBelow steps s n → steps s (Some x) t → GivesBelow steps t n
later_below steps s t n x gives e = record {
  along = λ xs u more k d within. gives.along (x ∷ xs) u (t, e, more) (suc k) d (omega (arith, within));
}

-- what gives a number below n and stays so at each step gives none but such numbers
along_below : {S : Type 0} (steps : S → Option ℕ → S → Type 0) (n : ℕ) (Within : S → Type 0)
    → ((s t : S) (x : ℕ) → Within s → steps s (Some x) t → (x < n) × Within t)
    → (s : S) → Within s → HoldsAlong steps s (All (λ i. i < n))
along_below steps n Within keeps s w [] t y k d l = absurd (omega (arith, l))
along_below steps n Within keeps s w (x ∷ xs) t y zero d l = (keeps s y.0 x w y.1).0
along_below steps n Within keeps s w (x ∷ xs) t y (suc k) d l =
    along_below steps n Within keeps y.0 (keeps s y.0 x w y.1).1 xs t y.2 k d (omega (arith, l))

abbrev pub gap : ℕ → ℕ → ℕ
gap a b = b - a

abbrev pub Follows : ℕ → ℕ → Type 0
Follows a b = b ≡ a + 1

-- a range that ends at n or below it, upward and downward
pub upward_below : (s : Range ℕ) (n : ℕ) → s.end ≤ n → GivesBelow (range_steps gap Follows) s n
upward_below s n h = record {
  along =
      along_below (range_steps gap Follows) n (λ r. r.end ≤ n)
      (λ r t x w e. (omega (arith, w, e.1.0, e.1.1), omega (arith, w, e.0))) s h;
}

pub downward_below : (s : Rev (Range ℕ)) (n : ℕ) → (rev_source s).end ≤ n
    → GivesBelow (rev_steps (range_steps_back gap Follows)) s n
downward_below s n h = record {
  along =
      along_below (rev_steps (range_steps_back gap Follows)) n (λ r. (rev_source r).end ≤ n)
      (λ r t x w e. (omega (arith, w, e.1.1, e.1.2), omega (arith, w, e.1.2))) s h;
}
