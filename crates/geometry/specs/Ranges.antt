-- Ranges of measures. Assumes nothing.
use Rattle.std.specs.Prelude.{ℕ, Bool, ◌&&◌, nat_le}

-- whether n is from low to high
abbrev pub ranges : ℕ → ℕ → ℕ → Bool
ranges low high n = nat_le low n && nat_le n high

-- the measures that a class may have
abbrev pub class_measures : ℕ → ℕ → ℕ → Bool
class_measures half space pad = ranges 1 500 half && ranges 0 1000 space && ranges half 1000 pad
