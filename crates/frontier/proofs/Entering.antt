-- Entries that come and go, in a list in any order. Assumes nothing.
use Rattle.std.proofs.Common.{◌≡◌, ℕ, zero, suc, ◌<◌, false, T, ◌⊎◌, List, ◌∷◌, length, get_or, sym, refl, ap, ◌∙◌, subst, inl, inr, ⊎_elim, arith}
use Rattle.std.specs.List.{ContainsAt as Has}
use Rattle.std.specs.List.Sorted.{IsPermutation}
use Rattle.std.proofs.ByRecursion.{all-has, has_shuffled}
use Rattle.std.proofs.lemmas.List.Sorted.{IsPermutation-sym}
use Rattle.costs.specs.Amounts.{Sums}
use Rattle.queue.specs.Order.{Least}
use Rattle.frontier.specs.declared.entry.Entry.{Entry}
use Rattle.frontier.specs.Entries.{cheaper, holds_from_not}
use Rattle.frontier.specs.Front.{Joined}
use Rattle.frontier.specs.Held.{Waits}

has_head : {X : Type 0} (x : X) (xs : List X) → Has (x ∷ xs) x
has_head x xs = (0, omega arith, λ d. refl)

has_tail : {X : Type 0} (y x : X) (xs : List X) → Has xs x → Has (y ∷ xs) x
has_tail y x xs h = (suc h.0, omega (arith, h.1), h.2)

has_cons : {X : Type 0} (y x : X) (xs : List X) → Has (y ∷ xs) x → Has xs x ⊎ (x ≡ y)
has_cons {X} y x xs h = split h.0 h.1 h.2
  where
    split : (k : ℕ) → k < length (y ∷ xs) → ((d : X) → get_or (y ∷ xs) k d ≡ x) → Has xs x ⊎ (x ≡ y)
    split zero l e = inr (sym (e x))
    split (suc k) l e = inl (k, omega arith, e)

module _ {C M : Type 0} (means : C → M) where
  -- an entry and the others make up the whole, in any order: what a queue says of an entry put in, and of one taken out
  pub joined : (e : Entry C) (few many : List (Entry C)) → IsPermutation (e ∷ few) many
      → Joined (Waits means few) (Waits means many) (means e.amount) e.node
  joined e few many s = record {
    this = (e, has_shuffled (e ∷ few) many e s (has_head e few), refl, refl);
    old = λ x y h. (h.0, has_shuffled (e ∷ few) many h.0 s (has_tail e h.0 few h.1), h.2, h.3);
    only = λ x y h. ⊎_elim
        (λ k. inl (h.0, k, h.2, h.3))
        (λ k. inr (sym h.2 ∙ ap (λ (t : Entry C). means t.amount) k, sym h.3 ∙ ap (λ (t : Entry C). t.node) k))
        (has_cons e h.0 few (has_shuffled many (e ∷ few) h.0 (IsPermutation-sym (e ∷ few) many s) h.1));
  }

  -- none of the entries has a lesser amount
  pub least_amount : (sums : Sums M) (e : Entry C) (entries : List (Entry C)) → Least (cheaper means sums) e entries
      → (x : M) (y : ℕ) → Waits means entries x y → T (sums.leq (means e.amount) x)
  least_amount sums e entries low x y h =
      let a = means e.amount in
      let no_less = holds_from_not _ (all-has (λ t. cheaper means sums t e ≡ false) entries h.0 low h.1) in
      subst (λ b. T (sums.leq a b)) h.2 no_less

  pub none_waits : (x : M) (y : ℕ) (entries : List (Entry C)) → length entries ≡ 0 → Waits means entries x y → ⊥
  none_waits x y entries none h = omega (arith, h.1.1)
