-- Nodes as numbers, and their neighbours. Assumes nothing.
--     on_lattice l c       there is such a crossing
--     node_total l         how many nodes there are
--     node_at l c          the number of a crossing
--     crossing_at l n      the crossing of a number
--     way_of k             the directions, counted from 0
--     beside l w c         the neighbour of a crossing in a direction, or absent
--     ahead l n o          the same by numbers, absent in no direction
--     next_of l n k        the same by numbers, of directions too
use Rattle.std.specs.Prelude.{ℕ, ◌+◌, ◌-◌, ◌*◌, ◌/◌, ◌%◌, Bool, cond, ◌&&◌, Some, None, Option, ◌==◌, nat_lt}
use Rattle.std.specs.Option.{option_map}
use Rattle.search.specs.declared.lattice.Lattice.{Lattice}
use Rattle.search.specs.declared.nodes.Crossing.{Crossing}
use Rattle.search.specs.declared.nodes.Way.{Way}
use Rattle.search.specs.declared.nodes.Way.TheVariants.{Left, Right, Down, Up, Below, Above}

abbrev pub on_lattice : Lattice → Crossing → Bool
on_lattice l c = nat_lt c.column l.columns && (nat_lt c.row l.rows && nat_lt c.level l.layers)

abbrev pub node_total : Lattice → ℕ
node_total l = l.columns * l.rows * l.layers

abbrev pub node_at : Lattice → Crossing → ℕ
node_at l c = (c.level * l.rows + c.row) * l.columns + c.column

abbrev pub crossing_at : Lattice → ℕ → Crossing
crossing_at l n = record { column = n % l.columns; row = n / l.columns % l.rows; level = n / l.columns / l.rows }

abbrev pub node_known : Lattice → Crossing → Option ℕ
node_known l c = cond (on_lattice l c) (Some (node_at l c)) None

abbrev pub crossing_known : Lattice → ℕ → Option Crossing
crossing_known l n = cond (nat_lt n (node_total l)) (Some (crossing_at l n)) None

abbrev pub way_of : ℕ → Option Way
way_of k =
    cond (k == 0) (Some Left)
    (cond (k == 1) (Some Right)
    (cond (k == 2) (Some Down) (cond (k == 3) (Some Up) (cond (k == 4) (Some Below) (cond (k == 5) (Some Above) None)))))

abbrev pub in_column : Crossing → ℕ → Crossing
in_column c n = record { column = n; row = c.row; level = c.level }

abbrev pub in_row : Crossing → ℕ → Crossing
in_row c n = record { column = c.column; row = n; level = c.level }

abbrev pub on_level : Crossing → ℕ → Crossing
on_level c n = record { column = c.column; row = c.row; level = n }

abbrev pub beside : Lattice → Way → Crossing → Option Crossing
beside l Left c = cond (nat_lt 0 c.column) (Some (in_column c (c.column - 1))) None
beside l Right c = cond (nat_lt c.column (l.columns - 1)) (Some (in_column c (c.column + 1))) None
beside l Down c = cond (nat_lt 0 c.row) (Some (in_row c (c.row - 1))) None
beside l Up c = cond (nat_lt c.row (l.rows - 1)) (Some (in_row c (c.row + 1))) None
beside l Below c = cond (nat_lt 0 c.level) (Some (on_level c (c.level - 1))) None
beside l Above c = cond (nat_lt c.level (l.layers - 1)) (Some (on_level c (c.level + 1))) None

abbrev pub ahead : Lattice → ℕ → Option Way → Option ℕ
ahead l n None = None
ahead l n (Some w) = option_map (node_at l) (beside l w (crossing_at l n))

abbrev pub next_of : Lattice → ℕ → ℕ → Option ℕ
next_of l n k = ahead l n (way_of k)
