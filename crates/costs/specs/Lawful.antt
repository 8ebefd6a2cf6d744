-- Money, pairs of vias and money, and the greater of two numbers keep the laws of amounts. Assumes nothing.
use Rattle.std.specs.Prelude.{◌≡◌, ℕ, refl}
use Rattle.std.proofs.Common.{arith}
use Rattle.std.proofs.lemmas.Bool.Decides.{nat_tests}
use Rattle.costs.specs.Amounts.{Laws}
use Rattle.costs.specs.Money.{money}
use Rattle.costs.specs.Vias.{pairs}
use Rattle.costs.specs.Maximum.{maximum}

pub money_laws : Laws money
money_laws = record {
  assoc = λ a b c. omega arith;
  comm = λ a b. omega arith;
  neutral = λ a. omega arith;
  total = λ a b. grind (arith, nat_tests);
  trans = λ a b c h k. grind (arith, nat_tests);
  antisym = λ a b h k. grind (arith, nat_tests);
  least = λ a. grind (arith, nat_tests);
  mono = λ a b c h. grind (arith, nat_tests);
  bulk_nothing = refl;
  bulk_plus = λ a b. omega arith;
}

pub same_pair : (a b : ℕ × ℕ) → a.0 ≡ b.0 → a.1 ≡ b.1 → a ≡ b
same_pair a b p q = λ i. (p i, q i)

pub pair_laws : Laws pairs
pair_laws = record {
  assoc = λ a b c. same_pair _ _ (omega arith) (omega arith);
  comm = λ a b. same_pair _ _ (omega arith) (omega arith);
  neutral = λ a. same_pair _ _ (omega arith) (omega arith);
  total = λ a b. grind (arith, nat_tests);
  trans = λ a b c h k. grind (arith, nat_tests);
  antisym = λ a b h k. same_pair a b (grind (arith, nat_tests)) (grind (arith, nat_tests));
  least = λ a. grind (arith, nat_tests);
  mono = λ a b c h. grind (arith, nat_tests);
  bulk_nothing = refl;
  bulk_plus = λ a b. omega arith;
}

pub maximum_laws : Laws maximum
maximum_laws = record {
  assoc = λ a b c. omega arith;
  comm = λ a b. omega arith;
  neutral = λ a. omega arith;
  total = money_laws.total;
  trans = money_laws.trans;
  antisym = money_laws.antisym;
  least = money_laws.least;
  mono = λ a b c h. grind (arith, nat_tests);
  bulk_nothing = refl;
  bulk_plus = λ a b. omega arith;
}
