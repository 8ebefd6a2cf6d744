-- What is proved of routes, each as a sentence over every panel: its sizes, a class, a net and the pieces that stand. Where
-- costs are compared it is over every sum with the laws of amounts, and over all prices. Assumes nothing.
--     LinesSuffice                  every path has a line route that is no dearer
--     LeastOnLinesIsLeast           so a bound on the cost of the line routes is one on that of all paths
--     NoLineRouteNoPath             and without a line route there is no path
--     OwnLinesAreEnough             the lines of a request are enough lines for it
--     LinesLieOnThePanel            they lie on the panel
--     LinesAreFew                   they are at most four for each piece, and two
--     RoutesArePaths                a lawful route, in steps, is a lawful path of the same cost and points
--     LineRoutesAreUnitRoutes       so every line route stands for a path
--     StraightRuns                  a move is lawful exactly if its steps are
--     WholeRunsAreLawful            from point to point of a lawful route lead lawful runs and vias
--     RunKeepsClear, ViaKeepsClear  what is laid for a lawful move keeps its clearance
--     ClearPiecesKeepClear          and so do the pieces
--     LaidPiecesKeepOrder           pieces laid along a lawful route leave the standing pieces in order
use Rattle.std.specs.Prelude.{◌≡◌, ℕ, ◌+◌, ◌*◌, ◌≤◌, T, List, ◌++◌, length, nat_le, nat_lt}
use Rattle.geometry.specs.declared.class.Class.{Class}
use Rattle.geometry.specs.declared.piece.Piece.{Piece}
use Rattle.geometry.specs.declared.point.Point.{Point}
use Rattle.geometry.specs.declared.rect.Span.{Span}
use Rattle.geometry.specs.declared.rect.Rect.{Rect}
use Rattle.geometry.specs.Boxes.{box}
use Rattle.geometry.specs.Clearance.{proper, keep_clear, in_order}
use Rattle.geometry.specs.Lists.{all_of}
use Rattle.geometry.specs.Zones.{moved_out}
use Rattle.costs.specs.Amounts.{Sums, Prices, Tariff}
use Rattle.routes.specs.Routes.{Move, to_layer, is_run, after, end, every, Rules, inside, lawful_move, lawful, goes}
use Rattle.routes.specs.Routes.{Path, unit_steps, in_steps, cost, NoDearer, NoneCheaper, HasNoPath}
use Rattle.routes.specs.Turns.{points_of, whole_runs, visited}
use Rattle.routes.specs.Rules.{rules_of, clear_of}
use Rattle.routes.specs.Laid.{laid_along}
use Rattle.routes.specs.Lines.{coordinates, lines, x_lines, y_lines, enough_lines, LineRoute}

abbrev pub at_prices : {M : Type 0} → Sums M → Prices M → Tariff M
at_prices sums prices = record { sums = sums; prices = prices }

-- Whatever the lines, if they are enough, every lawful path has a lawful line route between the same points that costs no
-- more.
abbrev pub LinesSuffice : {M : Type 0} → Sums M → Type 0
LinesSuffice {M} sums =
    (prices : Prices M) (width height layers : ℕ) (c : Class) (net : ℕ) (pieces : List Piece) (s t : Point) (X Y : List ℕ)
    → let R = rules_of width height layers c net pieces in
    T (enough_lines width height c net pieces s t X Y)
    → (r : List Move) → Path R s t r
    → (r' : List Move) × LineRoute R X Y s t r' × NoDearer (at_prices sums prices) s r' r

-- What no lawful line route costs less than, no lawful path costs less than.
abbrev pub LeastOnLinesIsLeast : {M : Type 0} → Sums M → Type 0
LeastOnLinesIsLeast {M} sums =
    (prices : Prices M) (width height layers : ℕ) (c : Class) (net : ℕ) (pieces : List Piece) (s t : Point) (X Y : List ℕ)
    → let R = rules_of width height layers c net pieces in
    let tf = at_prices sums prices in
    T (enough_lines width height c net pieces s t X Y)
    → (m : M) → ((r : List Move) → LineRoute R X Y s t r → T (sums.leq m (cost tf s r)))
    → NoneCheaper R tf s t m

-- Where no line route is lawful, no path is.
abbrev pub NoLineRouteNoPath : Type 0
NoLineRouteNoPath =
    (width height layers : ℕ) (c : Class) (net : ℕ) (pieces : List Piece) (s t : Point) (X Y : List ℕ)
    → let R = rules_of width height layers c net pieces in
    T (enough_lines width height c net pieces s t X Y)
    → ((r : List Move) → LineRoute R X Y s t r → ⊥) → HasNoPath R s t

-- A request's own lines are enough.
abbrev pub OwnLinesAreEnough : Type 0
OwnLinesAreEnough =
    (width height : ℕ) (c : Class) (net : ℕ) (pieces : List Piece) (s t : Point)
    → let X = x_lines width c net pieces s.x t.x in
    let Y = y_lines height c net pieces s.y t.y in
    T (enough_lines width height c net pieces s t X Y)

-- They lie on the panel, if the terminals do.
abbrev pub LinesLieOnThePanel : Type 0
LinesLieOnThePanel =
    (axis : Rect → Span) (size : ℕ) (c : Class) (net : ℕ) (pieces : List Piece) (a b : ℕ)
    → a ≤ size → b ≤ size → T (all_of (λ n. nat_le n size) (lines axis size c net pieces a b))

-- They are no more than their coordinates with repeats, and these are at most four for each piece, and two.
abbrev pub LinesAreFew : Type 0
LinesAreFew =
    (axis : Rect → Span) (size : ℕ) (c : Class) (net : ℕ) (pieces : List Piece) (a b : ℕ)
    → (length (lines axis size c net pieces a b) ≤ length (coordinates axis size c net pieces a b))
    × (length (coordinates axis size c net pieces a b) ≤ 4 * length pieces + 2)

-- The steps of a route are a lawful path between the same points, which costs the same, and turns at the same points unless
-- a move of the route goes nowhere.
pub record InSteps {M : Type 0} (R : Rules) (tf : Tariff M) (s : Point) (r : List Move) : Type 0 where
  pub path : Path R s (end s r) (in_steps s r)
  pub same_cost : cost tf s (in_steps s r) ≡ cost tf s r
  pub same_points : T (every goes s r) → points_of s (in_steps s r) ≡ points_of s r

-- So it is with every lawful route.
abbrev pub RoutesArePaths : {M : Type 0} → Sums M → Type 0
RoutesArePaths {M} sums =
    (prices : Prices M) (width height layers : ℕ) (c : Class) (net : ℕ) (pieces : List Piece) (s : Point) (r : List Move)
    → let R = rules_of width height layers c net pieces in
    T (inside R s) → T (lawful R s r) → InSteps R (at_prices sums prices) s r

-- Every lawful line route has a lawful path between the same points that costs the same and turns at the same points.
abbrev pub LineRoutesAreUnitRoutes : {M : Type 0} → Sums M → Type 0
LineRoutesAreUnitRoutes {M} sums =
    (prices : Prices M) (width height layers : ℕ) (c : Class) (net : ℕ) (pieces : List Piece) (s t : Point) (X Y : List ℕ)
    → let R = rules_of width height layers c net pieces in
    let tf = at_prices sums prices in
    (r : List Move) → LineRoute R X Y s t r
    → (r' : List Move) × Path R s t r' × (cost tf s r' ≡ cost tf s r) × (points_of s r' ≡ points_of s r)

-- Where every piece has a width and a height, a move that goes somewhere is lawful exactly if its steps are.
abbrev pub StraightRuns : Type 0
StraightRuns =
    (width height layers : ℕ) (c : Class) (net : ℕ) (pieces : List Piece) (p : Point) (m : Move)
    → let R = rules_of width height layers c net pieces in
    T (all_of proper pieces) → T (inside R p) → T (goes p m) → lawful R p (unit_steps p m) ≡ lawful_move R p m

-- Where every piece has a width and a height, the whole runs of a lawful route are lawful, and lead from each of its points
-- to the next.
abbrev pub WholeRunsAreLawful : Type 0
WholeRunsAreLawful =
    (width height layers : ℕ) (c : Class) (net : ℕ) (pieces : List Piece) (s : Point) (r : List Move)
    → let R = rules_of width height layers c net pieces in
    T (all_of proper pieces) → T (every goes s r) → T (lawful R s r)
    → T (lawful R s (whole_runs s r)) × (visited s (whole_runs s r) ≡ points_of s r)

-- The centreline of a lawful run, moved out by the half width, lies apart from every piece of a different net on its layer, by
-- the larger of the class's space and the piece's.
abbrev pub RunKeepsClear : Type 0
RunKeepsClear =
    (width height layers : ℕ) (c : Class) (net : ℕ) (pieces : List Piece) (p : Point) (m : Move)
    → T (is_run m) → T (lawful_move (rules_of width height layers c net pieces) p m)
    → T (all_of (clear_of p.layer net c.space (moved_out c.half (box p (after p m)))) pieces)

-- So does the point of a lawful via, moved out by the pad's half size, on both layers.
abbrev pub ViaKeepsClear : Type 0
ViaKeepsClear =
    (width height layers : ℕ) (c : Class) (net : ℕ) (pieces : List Piece) (p : Point) (l : ℕ)
    → let pad = moved_out c.pad (box p p) in
    T (lawful_move (rules_of width height layers c net pieces) p (to_layer l))
    → T (all_of (clear_of p.layer net c.space pad) pieces) × T (all_of (clear_of l net c.space pad) pieces)

-- A piece whose rectangle is clear of another piece keeps the clearance that the two owe one another.
abbrev pub ClearPiecesKeepClear : Type 0
ClearPiecesKeepClear =
    (a o : Piece) → T (clear_of a.layer a.net a.space a.rect o) → T (keep_clear o a) × T (keep_clear a o)

-- Where the standing pieces are in order, with a width and a height each and clear of one another, they are so with the pieces
-- that are laid along the points of a lawful route.
abbrev pub LaidPiecesKeepOrder : Type 0
LaidPiecesKeepOrder =
    (width height layers : ℕ) (c : Class) (net job : ℕ) (pieces : List Piece) (s : Point) (r : List Move)
    → T (nat_lt 0 net) → T (in_order pieces) → T (every goes s r) → T (lawful (rules_of width height layers c net pieces) s r)
    → T (in_order (pieces ++ laid_along c net job (points_of s r)))
