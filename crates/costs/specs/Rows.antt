-- What a price list holds, and what setting a row answers and leaves. Assumes nothing.
--   blank, blank_list   no prices: what an unset row holds, and a list of such rows
--   along a r           the price of a unit step along an axis, by a row
--   row_at, row_of      the row of a layer: absent, or blank, where there is no such layer
--   row_answer          what setting a row answers
--   rows_after          the list once a row was set or refused
use Rattle.std.specs.Prelude.{ℕ, ◌-◌, Bool, cond, ◌&&◌, replicate, Some, None, Ok, Err, Option, Result, nat_le, slice_index_or, slice_set}
use Rattle.std.specs.Option.{unwrap_or}
use Rattle.geometry.specs.declared.axis.Axis.{Axis}
use Rattle.geometry.specs.declared.axis.Axis.TheVariants.{X, Y}
use Rattle.costs.specs.declared.prices.Row.{Row}
use Rattle.costs.specs.declared.prices.PriceList.{PriceList}
use Rattle.costs.specs.declared.prices.RowRefusal.{RowRefusal}
use Rattle.costs.specs.declared.prices.RowRefusal.TheVariants.{Layer, Price}

abbrev pub blank : Row
blank = record { u = 0; v = 0; t = 0 }

abbrev pub blank_list : PriceList
blank_list = record { rows = replicate 8 blank }

abbrev pub along : Axis → Row → ℕ
along X r = r.u
along Y r = r.v

-- layers are counted from 1, and the row of layer 1 stands first
abbrev pub has_row : ℕ → Bool
has_row layer = nat_le 1 layer && nat_le layer 8

abbrev pub row_at : PriceList → ℕ → Option Row
row_at list layer = cond (has_row layer) (Some (slice_index_or list.rows (layer - 1) blank)) None

abbrev pub row_of : PriceList → ℕ → Row
row_of list layer = unwrap_or (row_at list layer) blank

-- the ranges of the prices along x, along y and of the via
abbrev pub in_range : ℕ → ℕ → ℕ → Bool
in_range u v t = nat_le u 65535 && nat_le v 65535 && nat_le t 1000000

abbrev pub row_answer : ℕ → ℕ → ℕ → ℕ → Result (Unit {0}) RowRefusal
row_answer layer u v t = cond (has_row layer) (cond (in_range u v t) (Ok tt) (Err Price)) (Err Layer)

abbrev pub rows_after : PriceList → ℕ → ℕ → ℕ → ℕ → PriceList
rows_after list layer u v t =
    cond (has_row layer && in_range u v t) (record { rows = slice_set list.rows (layer - 1) (record { u = u; v = v; t = t }) }) list
