-- The measures of a class. Assumes nothing.
use Rattle.std.specs.Prelude.{◌≡◌, ℕ}
use Rattle.geometry.specs.declared.class.Class.{Class}

pub record HasMeasures (half space pad : ℕ) (c : Class) : Type 0 where
  pub half_is : c.half ≡ half
  pub space_is : c.space ≡ space
  pub pad_is : c.pad ≡ pad
