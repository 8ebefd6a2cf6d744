-- When two nets are different. Assumes nothing.
use Rattle.std.specs.Prelude.{ℕ, Bool, not, ◌&&◌, ◌==◌, nat_lt}

-- Two nets are different unless both are the same number above 0: a keep-out, net 0, differs from everything, itself included.
abbrev pub different_nets : ℕ → ℕ → Bool
different_nets a b = not (a == b && nat_lt 0 a)
