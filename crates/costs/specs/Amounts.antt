-- What is asked of amounts of cost and of prices: sums in which order does not matter, a total order that sums keep, and a
-- bulk that bounds how large sums grow. Sums need not cancel, and a step may be free. Assumes nothing.
--   Sums, Laws    the meanings of amounts, and what holds of them
--   Prices        what a step costs on each layer; step_price, along an axis
--   Tariff        sums and prices, both in meanings
--   times s k a   a taken k times
use Rattle.std.specs.Prelude.{◌≡◌, ℕ, zero, suc, ◌+◌, ◌≤◌, Bool, T, ◌⊎◌}
use Rattle.geometry.specs.declared.axis.Axis.{Axis}
use Rattle.geometry.specs.declared.axis.Axis.TheVariants.{X, Y}

-- M is what amounts mean, one or more whole numbers without a ceiling
pub record Sums (M : Type 0) : Type 0 where
  pub nothing : M
  pub plus : M → M → M
  -- the first is not greater than the second
  pub leq : M → M → Bool
  -- how large a meaning is: a machine adds exactly while two bulks together are below 2 ^ 62
  pub bulk : M → ℕ

pub record Laws {M : Type 0} (s : Sums M) : Type 0 where
  -- the sum: in any grouping, in any order, and nothing adds nothing
  pub assoc : (a b c : M) → s.plus (s.plus a b) c ≡ s.plus a (s.plus b c)
  pub comm : (a b : M) → s.plus a b ≡ s.plus b a
  pub neutral : (a : M) → s.plus a s.nothing ≡ a
  -- the order: total, and two of which neither is greater are equal
  pub total : (a b : M) → T (s.leq a b) ⊎ T (s.leq b a)
  pub trans : (a b c : M) → T (s.leq a b) → T (s.leq b c) → T (s.leq a c)
  pub antisym : (a b : M) → T (s.leq a b) → T (s.leq b a) → a ≡ b
  -- nothing is greater than no amount, and adding the same to both sides keeps the order
  pub least : (a : M) → T (s.leq s.nothing a)
  pub mono : (a b c : M) → T (s.leq a b) → T (s.leq (s.plus a c) (s.plus b c))
  -- the bulk of a sum is at most the sum of the bulks
  pub bulk_nothing : s.bulk s.nothing ≡ 0
  pub bulk_plus : (a b : M) → s.bulk (s.plus a b) ≤ s.bulk a + s.bulk b

-- prices by layer: of a unit step along x and along y, and of the via between the layer and the next
pub record Prices (C : Type 0) : Type 0 where
  pub x : ℕ → C
  pub y : ℕ → C
  pub via : ℕ → C

-- of a unit step along an axis
abbrev pub step_price : {C : Type 0} → Axis → Prices C → ℕ → C
step_price X p l = p.x l
step_price Y p l = p.y l

-- sums, and prices that are meanings themselves
pub record Tariff (M : Type 0) : Type 0 where
  pub sums : Sums M
  pub prices : Prices M

-- what a kind's prices mean
abbrev pub tariff : {C M : Type 0} → Sums M → (C → M) → Prices C → Tariff M
tariff s means p = record {
  sums = s;
  prices = record { x = λ l. means (p.x l); y = λ l. means (p.y l); via = λ l. means (p.via l) };
}

-- a meaning k times over
abbrev pub times : {M : Type 0} → Sums M → ℕ → M → M
times s zero a = s.nothing
times s (suc k) a = s.plus a (times s k a)
