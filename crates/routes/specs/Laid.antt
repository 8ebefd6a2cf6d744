-- The pieces that are laid along a path. Assumes nothing.
use Rattle.std.specs.Prelude.{ℕ, min, max, cond, List, [], ◌∷◌, ◌++◌, ◌==◌}
use Rattle.geometry.specs.declared.class.Class.{Class}
use Rattle.geometry.specs.declared.piece.Mark.TheVariants.{Laid}
use Rattle.geometry.specs.declared.piece.Piece.{Piece}
use Rattle.geometry.specs.declared.point.Point.{Point}
use Rattle.geometry.specs.declared.rect.Rect.{Rect}
use Rattle.geometry.specs.Boxes.{box}
use Rattle.geometry.specs.Zones.{moved_out}

-- a laid piece has the net of the request and the space of its class
abbrev pub laid : Class → ℕ → ℕ → ℕ → Rect → Piece
laid c net job layer r = record { layer = layer; rect = r; net = net; space = c.space; job = job; mark = Laid }

-- a run is one piece, its centreline moved out by the half width
abbrev pub laid_run : Class → ℕ → ℕ → Point → Point → List Piece
laid_run c net job p q = laid c net job p.layer (moved_out c.half (box p q)) ∷ []

-- a via is two, squares moved out by the pad's half size, the lower layer first
abbrev pub laid_via : Class → ℕ → ℕ → Point → Point → List Piece
laid_via c net job p q =
    laid c net job (min p.layer q.layer) (moved_out c.pad (box p p))
    ∷ laid c net job (max p.layer q.layer) (moved_out c.pad (box p p))
    ∷ []

-- what joins two points that follow one another
abbrev pub joint : Class → ℕ → ℕ → Point → Point → List Piece
joint c net job p q = cond (p.layer == q.layer) (laid_run c net job p q) (laid_via c net job p q)

-- from a point on, by the points that follow
abbrev pub laid_from : Class → ℕ → ℕ → Point → List Point → List Piece
laid_from c net job p [] = []
laid_from c net job p (q ∷ qs) = joint c net job p q ++ laid_from c net job q qs

-- the pieces along a path, by its points, in path order
abbrev pub laid_along : Class → ℕ → ℕ → List Point → List Piece
laid_along c net job [] = []
laid_along c net job (p ∷ ps) = laid_from c net job p ps
