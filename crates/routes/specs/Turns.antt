-- The points of a route: where it turns, and where it comes by. Assumes nothing.
--     heading p m          the direction of a run
--     turns p r            the end of each straight run, taken whole, and of each via
--     points_of p r        the start of a route and its turns
--     whole_runs p r       the route with each straight run as one move
--     visited p r          the start of a route and the end of each of its moves
use Rattle.std.specs.Prelude.{ℕ, Bool, true, false, cond, not, ◌&&◌, List, [], ◌∷◌, ◌==◌, nat_lt}
use Rattle.geometry.specs.declared.point.Point.{Point}
use Rattle.geometry.specs.Lists.{any_of}
use Rattle.routes.specs.Routes.{Move, along_x, along_y, to_layer, after}

-- the direction of a run: right 1, left 2, up 3, down 4; 0 for a via
abbrev pub heading : Point → Move → ℕ
heading p (along_x x) = cond (nat_lt p.x x) 1 2
heading p (along_y y) = cond (nat_lt p.y y) 3 4
heading p (to_layer l) = 0

-- whether a run is continued straight on by the next move
abbrev pub straight_on : Point → Move → List Move → Bool
straight_on p m [] = false
straight_on p m (m' ∷ r) = nat_lt 0 (heading p m) && heading p m == heading (after p m) m'

abbrev pub turns : Point → List Move → List Point
turns p [] = []
turns p (m ∷ r) = cond (straight_on p m r) (turns (after p m) r) (after p m ∷ turns (after p m) r)

abbrev pub points_of : Point → List Move → List Point
points_of p r = p ∷ turns p r

-- A move that is continued straight on is left out: the next one, from where it began, has its way too.
abbrev pub whole_runs : Point → List Move → List Move
whole_runs p [] = []
whole_runs p (m ∷ r) = cond (straight_on p m r) (whole_runs p r) (m ∷ whole_runs (after p m) r)

-- the end of each move
abbrev pub stops : Point → List Move → List Point
stops p [] = []
stops p (m ∷ r) = after p m ∷ stops (after p m) r

abbrev pub visited : Point → List Move → List Point
visited p r = p ∷ stops p r

abbrev pub same_point : Point → Point → Bool
same_point p q = p.layer == q.layer && (p.x == q.x && p.y == q.y)

abbrev pub none_twice : List Point → Bool
none_twice [] = true
none_twice (p ∷ ps) = not (any_of (same_point p) ps) && none_twice ps
