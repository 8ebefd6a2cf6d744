-- Routes on the layers of a panel: where they end, which are lawful and what they cost. Assumes nothing.
--     after p m, end p r              where a move from a point ends, and a route
--     Rules                           what a panel allows: its size, and which boxes are free for wires and for vias
--     lawful_move R p m               a move stays on the panel and on free ground
--     lawful R p r                    each move of a route is lawful
--     step p m, Path R s t r          a move by one unit; a lawful path from s to t, all of steps
--     unit_steps p m, in_steps p r    a move, and a route, cut into steps
--     price tf p m, cost tf p r       what a move costs, and a route
use Rattle.std.specs.Prelude.{◌≡◌, ℕ, zero, suc, ◌+◌, ◌-◌, min, max, Bool, true, false, cond, not, ◌&&◌, T, List, [], ◌∷◌, ◌++◌, ◌==◌, nat_le, nat_lt}
use Rattle.geometry.specs.declared.point.Point.{Point}
use Rattle.geometry.specs.declared.rect.Rect.{Rect}
use Rattle.geometry.specs.Boxes.{box}
use Rattle.geometry.specs.Ranges.{ranges}
use Rattle.costs.specs.Amounts.{Tariff, times}

-- A move is straight, along one axis, to the given coordinate. A move along x or y is a run of wire, one to a layer is a via.
pub data Move : Type 0 where
  along_x : ℕ → Move
  along_y : ℕ → Move
  to_layer : ℕ → Move

abbrev pub is_run : Move → Bool
is_run (along_x x) = true
is_run (along_y y) = true
is_run (to_layer l) = false

abbrev pub after : Point → Move → Point
after p (along_x x) = record { layer = p.layer; x = x; y = p.y }
after p (along_y y) = record { layer = p.layer; x = p.x; y = y }
after p (to_layer l) = record { layer = l; x = p.x; y = p.y }

-- where a route from a point ends
abbrev pub end : Point → List Move → Point
end p [] = p
end p (m ∷ r) = end (after p m) r

-- whether each move of a route passes a test, which is given the point that the move starts from
abbrev pub every : (Point → Move → Bool) → Point → List Move → Bool
every test p [] = true
every test p (m ∷ r) = test p m && every test (after p m) r

-- how far apart two coordinates are
abbrev pub gap : ℕ → ℕ → ℕ
gap a b = max a b - min a b

-- What a panel allows to one request: its size, and on each layer which closed boxes are free for a wire, and for a via.
pub record Rules : Type 0 where
  pub width : ℕ
  pub height : ℕ
  pub layers : ℕ
  pub wire : ℕ → Rect → Bool
  pub via : ℕ → Rect → Bool

abbrev pub inside : Rules → Point → Bool
inside R p = ranges 1 R.layers p.layer && (nat_le p.x R.width && nat_le p.y R.height)

-- A wire, ends included, is on free ground of its layer. A via joins a layer and the next, and is on free ground of both.
abbrev pub on_free_ground : Rules → Point → Move → Bool
on_free_ground R p (along_x x) = R.wire p.layer (box p (after p (along_x x)))
on_free_ground R p (along_y y) = R.wire p.layer (box p (after p (along_y y)))
on_free_ground R p (to_layer l) = gap p.layer l == 1 && (R.via p.layer (box p p) && R.via l (box p p))

abbrev pub lawful_move : Rules → Point → Move → Bool
lawful_move R p m = inside R (after p m) && on_free_ground R p m

abbrev pub lawful : Rules → Point → List Move → Bool
lawful R = every (lawful_move R)

-- how far a move goes, in units or layers
abbrev pub distance : Point → Move → ℕ
distance p (along_x x) = gap p.x x
distance p (along_y y) = gap p.y y
distance p (to_layer l) = gap p.layer l

-- A step is a move by one unit, or by one layer.
abbrev pub step : Point → Move → Bool
step p m = distance p m == 1

-- whether a move goes anywhere
abbrev pub goes : Point → Move → Bool
goes p m = not (distance p m == 0)

-- A lawful path from s to t: a chain of steps within the panel, each lawful.
pub record Path (R : Rules) (s t : Point) (r : List Move) : Type 0 where
  pub starts : T (inside R s)
  pub steps : T (every step s r)
  pub is_lawful : T (lawful R s r)
  pub ends : end s r ≡ t

-- The steps of a run along an axis: k of them up from a, and k of them down.
abbrev pub upward : (ℕ → Move) → ℕ → ℕ → List Move
upward axis a zero = []
upward axis a (suc k) = axis (a + 1) ∷ upward axis (a + 1) k

abbrev pub downward : (ℕ → Move) → ℕ → ℕ → List Move
downward axis a zero = []
downward axis a (suc k) = axis (a - 1) ∷ downward axis (a - 1) k

-- A move in steps; a via is one.
abbrev pub unit_steps : Point → Move → List Move
unit_steps p (along_x x) = cond (nat_lt p.x x) (upward along_x p.x (x - p.x)) (downward along_x p.x (p.x - x))
unit_steps p (along_y y) = cond (nat_lt p.y y) (upward along_y p.y (y - p.y)) (downward along_y p.y (p.y - y))
unit_steps p (to_layer l) = to_layer l ∷ []

abbrev pub in_steps : Point → List Move → List Move
in_steps p [] = []
in_steps p (m ∷ r) = unit_steps p m ++ in_steps (after p m) r

-- What a move costs, and a route. The via between two layers has the price of the lower one.
abbrev pub price : {M : Type 0} → Tariff M → Point → Move → M
price tf p (along_x x) = times tf.sums (gap p.x x) (tf.prices.x p.layer)
price tf p (along_y y) = times tf.sums (gap p.y y) (tf.prices.y p.layer)
price tf p (to_layer l) = tf.prices.via (min p.layer l)

abbrev pub cost : {M : Type 0} → Tariff M → Point → List Move → M
cost tf p [] = tf.sums.nothing
cost tf p (m ∷ r) = tf.sums.plus (price tf p m) (cost tf (after p m) r)

-- A route from p costs no more than another.
abbrev pub NoDearer : {M : Type 0} → Tariff M → Point → List Move → List Move → Type 0
NoDearer tf p r r' = T (tf.sums.leq (cost tf p r) (cost tf p r'))

-- No lawful path from s to t costs less than m.
abbrev pub NoneCheaper : {M : Type 0} → Rules → Tariff M → Point → Point → M → Type 0
NoneCheaper R tf s t m = (r : List Move) → Path R s t r → T (tf.sums.leq m (cost tf s r))

abbrev pub HasNoPath : Rules → Point → Point → Type 0
HasNoPath R s t = (r : List Move) → Path R s t r → ⊥
