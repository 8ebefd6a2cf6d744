-- Where points are on a grid. Assumes nothing.
use Rattle.std.specs.Prelude.{◌≡◌, ℕ, ◌<◌, ◌≤◌, T, List, length, slice_index_or}
use Rattle.geometry.specs.declared.point.Point.{Point}
use Rattle.geometry.specs.Lists.{mem}
use Rattle.search.specs.declared.grid.Grid.{Grid}
use Rattle.search.specs.Grids.{grid_point}
use Rattle.search.specs.Nodes.{node_total}

-- n is the i-th of some numbers
pub record AtPlace (ns : List ℕ) (n i : ℕ) : Type 0 where
  pub inside : i < length ns
  pub is : slice_index_or ns i 0 ≡ n

-- n is the node at a point
pub record NodeOf {K P : Type 0} (g : Grid K P) (p : Point) (n : ℕ) : Type 0 where
  pub inside : n < node_total g.lattice
  pub is : grid_point g n ≡ p

-- the point is no crossing on a layer
abbrev pub NoNode : {K P : Type 0} → Grid K P → Point → Type 0
NoNode g p = T (mem p.x g.xs.now) → T (mem p.y g.ys.now) → 1 ≤ p.layer → p.layer ≤ g.lattice.layers → ⊥
