-- The lines of a request, and the routes along them. Assumes nothing.
--     borders axis c p                the borders of both zones of a piece along one axis
--     coordinates, lines              the lines of a request along one axis, with and without repeats
--     x_lines, y_lines                the lines of a request
--     enough_lines                    some lines have all lines of a request among them
--     neighbours qs a b               two lines with no other between them
--     line_move X Y p m               a move from a crossing of lines to the next one, or a via at a crossing
--     LineRoute, LinePath             a lawful route along the lines; a least-cost one that visits no node twice
use Rattle.std.specs.Prelude.{◌≡◌, ℕ, ◌*◌, min, max, Bool, cond, not, ◌&&◌, T, List, [], ◌∷◌, length, ℤ, pos, negsuc, filter, ◌==◌, nat_le, nat_lt}
use Rattle.geometry.specs.declared.class.Class.{Class}
use Rattle.geometry.specs.declared.piece.Piece.{Piece}
use Rattle.geometry.specs.declared.point.Point.{Point}
use Rattle.geometry.specs.declared.rect.Span.{Span}
use Rattle.geometry.specs.declared.rect.Rect.{Rect}
use Rattle.geometry.specs.Lists.{all_of, flat, mem, distinct}
use Rattle.geometry.specs.Nets.{different_nets}
use Rattle.geometry.specs.Zones.{zone}
use Rattle.costs.specs.Amounts.{Tariff}
use Rattle.routes.specs.Routes.{Move, along_x, along_y, to_layer, every, end, Rules, inside, lawful, cost, NoneCheaper}
use Rattle.routes.specs.Turns.{visited, none_twice}

-- both borders of the wire zone and of the via zone of a piece, along one axis
abbrev pub borders : (Rect → Span) → Class → Piece → List ℤ
borders axis c p =
    (axis (zone p c.half c.space)).low
    ∷ (axis (zone p c.half c.space)).high
    ∷ (axis (zone p c.pad c.space)).low
    ∷ (axis (zone p c.pad c.space)).high
    ∷ []

-- those of some numbers that lie from 0 to the size
abbrev pub on_panel : ℕ → List ℤ → List ℕ
on_panel size [] = []
on_panel size (pos n ∷ zs) = cond (nat_le n size) (n ∷ on_panel size zs) (on_panel size zs)
on_panel size (negsuc n ∷ zs) = on_panel size zs

-- the pieces of a net different from one, on whatever layer
abbrev pub others : ℕ → List Piece → List Piece
others net = filter (λ p. different_nets p.net net)

-- The coordinates of the lines along one axis: a and b of the terminals, and the borders, as far as they lie on the panel.
abbrev pub coordinates : (Rect → Span) → ℕ → Class → ℕ → List Piece → ℕ → ℕ → List ℕ
coordinates axis size c net pieces a b = a ∷ b ∷ on_panel size (flat (borders axis c) (others net pieces))

-- the lines, each once
abbrev pub lines : (Rect → Span) → ℕ → Class → ℕ → List Piece → ℕ → ℕ → List ℕ
lines axis size c net pieces a b = distinct (coordinates axis size c net pieces a b)

abbrev pub x_lines : ℕ → Class → ℕ → List Piece → ℕ → ℕ → List ℕ
x_lines = lines (λ r. r.x)

abbrev pub y_lines : ℕ → Class → ℕ → List Piece → ℕ → ℕ → List ℕ
y_lines = lines (λ r. r.y)

abbrev pub among : List ℕ → List ℕ → Bool
among ns qs = all_of (λ n. mem n qs) ns

-- whether X and Y have all lines of a request from s to t among them
abbrev pub enough_lines : ℕ → ℕ → Class → ℕ → List Piece → Point → Point → List ℕ → List ℕ → Bool
enough_lines width height c net pieces s t X Y =
    among (x_lines width c net pieces s.x t.x) X && among (y_lines height c net pieces s.y t.y) Y

-- whether q lies strictly between a and b, in either order
abbrev pub between : ℕ → ℕ → ℕ → Bool
between a b q = nat_lt (min a b) q && nat_lt q (max a b)

abbrev pub none_between : List ℕ → ℕ → ℕ → Bool
none_between qs a b = all_of (λ q. not (between a b q)) qs

abbrev pub neighbours : List ℕ → ℕ → ℕ → Bool
neighbours qs a b = (mem a qs && mem b qs) && (not (a == b) && none_between qs a b)

abbrev pub line_move : List ℕ → List ℕ → Point → Move → Bool
line_move X Y p (along_x x) = neighbours X p.x x && mem p.y Y
line_move X Y p (along_y y) = neighbours Y p.y y && mem p.x X
line_move X Y p (to_layer l) = mem p.x X && mem p.y Y

-- how many nodes there are: crossings of lines, on each layer
abbrev pub node_count : List ℕ → List ℕ → ℕ → ℕ
node_count X Y layers = length X * length Y * layers

-- A lawful route from s to t along the lines.
pub record LineRoute (R : Rules) (X Y : List ℕ) (s t : Point) (r : List Move) : Type 0 where
  pub starts : T (inside R s)
  pub on_lines : T (every (line_move X Y) s r)
  pub is_lawful : T (lawful R s r)
  pub ends : end s r ≡ t

-- One that visits no node twice, and costs no more than any lawful path.
pub record LinePath {M : Type 0} (tf : Tariff M) (R : Rules) (X Y : List ℕ) (s t : Point) (r : List Move) : Type 0 where
  pub route : LineRoute R X Y s t r
  pub simple : T (none_twice (visited s r))
  pub least : NoneCheaper R tf s t (cost tf s r)
