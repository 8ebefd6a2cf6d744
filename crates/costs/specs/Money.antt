-- Sums of money, and the prices in money that a price list gives. Assumes nothing.
use Rattle.std.specs.Prelude.{ℕ, ◌+◌, min, nat_le}
use Rattle.costs.specs.declared.money.Money.{Money}
use Rattle.costs.specs.declared.prices.PriceList.{PriceList}
use Rattle.costs.specs.Amounts.{Sums, Prices}
use Rattle.costs.specs.Rows.{row_of}

abbrev pub money : Sums ℕ
money = record { nothing = 0; plus = ◌+◌; leq = nat_le; bulk = λ n. n }

-- what 16 bits hold of a price: the price itself, since a row has no greater one
abbrev pub narrow : ℕ → ℕ
narrow n = min n 65535

-- a via costs t, and never more than 1,000,000
abbrev pub money_prices : PriceList → Prices Money
money_prices list = record {
  x = λ l. record { units = narrow (row_of list l).u };
  y = λ l. record { units = narrow (row_of list l).v };
  via = λ l. record { units = min (row_of list l).t 1000000 };
}
