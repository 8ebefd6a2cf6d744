-- The order of the entries of a frontier. Assumes nothing.
--     cheaper means sums x y   x waits at a lesser amount than y; entries of equal amounts tie
--     cheaper_ranks            that is an order in which any two entries compare
use Rattle.std.specs.Prelude.{◌≡◌, Bool, true, false, not, T, refl}
use Rattle.std.proofs.Common.{sym, ⊎_elim}
use borrow.Author.Tests.{clash}
use Rattle.queue.specs.Order.{Ranks}
use Rattle.costs.specs.Amounts.{Sums, Laws}
use Rattle.frontier.specs.declared.entry.Entry.{Entry}

not_from_holds : (b : Bool) → T b → not b ≡ false
not_from_holds true t = refl
not_from_holds false t = absurd t

pub holds_from_not : (b : Bool) → not b ≡ false → T b
holds_from_not true e = tt
holds_from_not false e = absurd (clash (sym e))

never_both : (b : Bool) → not b ≡ true → T b → ⊥
never_both true e t = clash e
never_both false e t = t

module _ {C M : Type 0} (means : C → M) (sums : Sums M) where
  abbrev pub cheaper : Entry C → Entry C → Bool
  cheaper x y = not (sums.leq (means y.amount) (means x.amount))

  pub cheaper_ranks : Laws sums → Ranks cheaper
  cheaper_ranks laws = record {
    one_way = λ x y h.
        let a = means x.amount in
        let b = means y.amount in
        not_from_holds (sums.leq a b) (⊎_elim (λ t. absurd (never_both (sums.leq b a) h t)) (λ t. t) (laws.total b a));
    chain = λ x y z h k.
        let a = means x.amount in
        let b = means y.amount in
        let c = means z.amount in
        not_from_holds (sums.leq c a) (laws.trans c b a (holds_from_not (sums.leq c b) k) (holds_from_not (sums.leq b a) h));
  }
