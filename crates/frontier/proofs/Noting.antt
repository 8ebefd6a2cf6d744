-- One note of the list is changed. Assumes nothing.
use Rattle.std.proofs.Common.{◌≡◌, ℕ, ◌+◌, ◌<◌, ◌≤◌, true, false, ◌⊎◌, List, length, get_or, set, sym, refl, ap, ◌∙◌, inl, inr, get_or-set_other, get_or-set_same}
use native.Mathlib.Decide.{ℕ_discrete}
use borrow.Author.Tests.{clash, not-true, not-false}
use Rattle.std.proofs.lemmas.List.{get_or_default}
use Rattle.costs.specs.Amounts.{Sums}
use Rattle.frontier.specs.declared.entry.Entry.{Entry}
use Rattle.frontier.specs.declared.note.Note.{Note}
use Rattle.frontier.specs.declared.note.Note.TheVariants.{Unseen, Waiting}
use Rattle.frontier.specs.Front.{Mark, unseen, waits, settled, once, Marked}
use Rattle.frontier.specs.Held.{mark, marks, worth, Stays}
use Rattle.frontier.proofs.Count.{count_same}
use Rattle.frontier.proofs.Marks.{not_both}

-- what an amount is better than
pub worth_is : {M : Type 0} (sums : Sums M) (m : Mark M) (sum : M) → worth sums m sum ≡ true
    → (m ≡ unseen) ⊎ ((b : M) × (p : ℕ) × (m ≡ waits b p) × (sums.leq b sum ≡ false))
worth_is sums unseen sum h = inl refl
worth_is sums (waits b p) sum h = inr (b, p, refl, not-true (sums.leq b sum) h)
worth_is sums (settled b p) sum h = absurd (clash h)

pub worth_not : {M : Type 0} (sums : Sums M) (m : Mark M) (sum : M) → worth sums m sum ≡ false
    → ((b : M) × (p : ℕ) × (m ≡ waits b p) × (sums.leq b sum ≡ true)) ⊎ ((b : M) × (p : ℕ) × (m ≡ settled b p))
worth_not sums unseen sum h = absurd (clash (sym h))
worth_not sums (waits b p) sum h = inl (b, p, refl, not-false (sums.leq b sum) h)
worth_not sums (settled b p) sum h = inr (b, p, refl)

worth_open : {M : Type 0} (sums : Sums M) (m : Mark M) (sum : M) → worth sums m sum ≡ true → once m ≡ 0
worth_open sums unseen sum h = refl
worth_open sums (waits b p) sum h = refl
worth_open sums (settled b p) sum h = absurd (clash h)

module _ {C M : Type 0} (means : C → M) where
  pub marked : (notes : List (Note C)) (w : ℕ) (x : Note C) → w < length notes
      → Marked (marks means notes) (marks means (set notes w x)) w (mark means x)
  marked notes w x h = record {
    here = ap (mark means) (get_or-set_same notes w x Unseen h);
    others = λ u n. ap (mark means) (get_or-set_other notes w u x Unseen n);
  }

  -- what the code reads: a note as it stands in the list
  pub mark_at : (notes : List (Note C)) (v : ℕ) (note : Note C) → v < length notes
      → mark means (get_or notes v note) ≡ marks means notes v
  mark_at notes v note l = ap (mark means) (get_or_default notes v note Unseen l)

  -- a node that was not settled is noted as waiting
  pub stays_put : (size : ℕ) (notes : List (Note C)) (w : ℕ) (sum : C) (p : ℕ) (entries entries' : List (Entry C)) (sums : Sums M)
      → w < length notes → worth sums (marks means notes w) (means sum) ≡ true → length entries' ≤ length entries + 1
      → Stays size means notes (set notes w (Waiting sum p)) entries entries' 1
  stays_put size notes w sum p entries entries' sums l better few = record {
    same = count_same (marks means notes) (marks means (set notes w (Waiting sum p))) size (λ u _. same_once u (ℕ_discrete u w));
    kept = λ u x q st. settled_was u x q st (ℕ_discrete u w);
    few = few;
  }
    where
      changed : Marked (marks means notes) (marks means (set notes w (Waiting sum p))) w (waits (means sum) p)
      changed = marked notes w (Waiting sum p) l

      same_once : (u : ℕ) → Dec (u ≡ w) → once (marks means (set notes w (Waiting sum p)) u) ≡ once (marks means notes u)
      same_once u (yes e) =
          ap once (ap (marks means (set notes w (Waiting sum p))) e ∙ changed.here)
          ∙ sym (ap once (ap (marks means notes) e) ∙ worth_open sums (marks means notes w) (means sum) better)
      same_once u (no n) = ap once (changed.others u n)

      settled_was : (u : ℕ) (x : M) (q : ℕ) → marks means (set notes w (Waiting sum p)) u ≡ settled x q → Dec (u ≡ w)
          → marks means notes u ≡ settled x q
      settled_was u x q st (yes e) =
          absurd (not_both (marks means (set notes w (Waiting sum p)) u) (means sum) x p q
          (ap (marks means (set notes w (Waiting sum p))) e ∙ changed.here) st)
      settled_was u x q st (no n) = sym (changed.others u n) ∙ st
