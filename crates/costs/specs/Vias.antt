-- Pairs of a number of vias and the money of the runs, and the prices in such pairs. Assumes nothing.
use Rattle.std.specs.Prelude.{ℕ, ◌+◌, Bool, ◌&&◌, ◌||◌, ◌==◌, nat_le, nat_lt}
use Rattle.costs.specs.declared.vias.ViasMoney.{ViasMoney}
use Rattle.costs.specs.declared.prices.PriceList.{PriceList}
use Rattle.costs.specs.Amounts.{Sums, Prices}
use Rattle.costs.specs.Rows.{row_of}
use Rattle.costs.specs.Money.{narrow}

-- pairs add part by part
abbrev pub pair_plus : ℕ × ℕ → ℕ × ℕ → ℕ × ℕ
pair_plus a b = (a.0 + b.0, a.1 + b.1)

-- fewer vias, or as many and no more money
abbrev pub pair_leq : ℕ × ℕ → ℕ × ℕ → Bool
pair_leq a b = nat_lt a.0 b.0 || (a.0 == b.0 && nat_le a.1 b.1)

abbrev pub pair_bulk : ℕ × ℕ → ℕ
pair_bulk a = a.0 + a.1

abbrev pub pairs : Sums (ℕ × ℕ)
pairs = record { nothing = (0, 0); plus = pair_plus; leq = pair_leq; bulk = pair_bulk }

-- a run costs money and no via, a via is one via and no money
abbrev pub vias_prices : PriceList → Prices ViasMoney
vias_prices list = record {
  x = λ l. record { vias = 0; units = narrow (row_of list l).u };
  y = λ l. record { vias = 0; units = narrow (row_of list l).v };
  via = λ l. record { vias = 1; units = 0 };
}
