-- The sizes that a panel may have. Assumes nothing.
use Rattle.std.specs.Prelude.{Bool, ◌&&◌}
use Rattle.geometry.specs.Ranges.{ranges}
use Rattle.geometry.specs.declared.size.Size.{Size}

-- 1 to 60,000 units in each direction, and 1 to 8 layers
abbrev pub panel_size : Size → Bool
panel_size s = ranges 1 60000 s.width && ranges 1 60000 s.height && ranges 1 8 s.layers
