-- What a search for a path answers. Assumes nothing.
--     GridOf ps g              g is the grid of its request where these pieces stand
--     Passed q ps j k k'       no check turns the request down before its nodes are counted
--     ToldRefusal              why it is turned down, and that no check before does
--     ToldAxis                 the lines along an axis stand first in a list, or are too many
--     ToldLattice              the lines of the request stand first in the lists of lines
--     LeastPath tf R s t a     some lawful path costs a, and none costs less
--     Led, LedBack             the notes of a search lead back along a least-cost path
--     ToldPath, ToldCost       the least cost of a lawful path, or that there is none, or a refusal
use Rattle.std.specs.Prelude.{◌≡◌, ℕ, ◌+◌, ◌*◌, ◌<◌, Bool, true, false, List, ◌∷◌, map, reverse, length, Some, None, Ok, Err, Option, Result}
use Rattle.costs.specs.Amounts.{Tariff}
use Rattle.frontier.specs.declared.note.Note.{Note}
use Rattle.frontier.specs.Ways.{Leads}
use Rattle.geometry.specs.declared.axis.Axis.TheVariants.{X, Y}
use Rattle.geometry.specs.declared.piece.Piece.{Piece}
use Rattle.geometry.specs.declared.point.Point.{Point}
use Rattle.geometry.specs.Lists.{mem}
use Rattle.queue.specs.Distinct.{Climbs}
use Rattle.routes.specs.Lines.{LinePath}
use Rattle.routes.specs.Routes.{Move, Rules, Path, cost, NoneCheaper, HasNoPath}
use Rattle.search.specs.declared.grid.Grid.{Grid}
use Rattle.search.specs.declared.lattice.Lattice.{Lattice}
use Rattle.search.specs.declared.request.Refusal.{Refusal}
use Rattle.search.specs.declared.request.Refusal.TheVariants.{Improper, ShortLists, TooManyLines, ShortNodes}
use Rattle.search.specs.declared.request.Request.{Request}
use Rattle.search.specs.Drawing.{ToldLines}
use Rattle.search.specs.Grids.{grid_point, joins}
use Rattle.search.specs.Located.{NodeOf}
use Rattle.search.specs.Nodes.{node_total}
use Rattle.search.specs.Requests.{proper, request_rules, request_lines, lists_short, many_lines, request_nodes, nodes_short}

-- the lines ascend, and are those of the request, each once
pub record LinesOf (ls found : List ℕ) : Type 0 where
  pub number : length found ≡ length ls
  pub climbs : Climbs found
  pub same : (v : ℕ) → mem v found ≡ mem v ls

pub record GridOf {K P : Type 0} (ps : List Piece) (g : Grid K P) : Type 0 where
  pub layers_is : g.lattice.layers ≡ g.request.size.layers
  pub across : LinesOf (request_lines g.request X ps) g.xs.now
  pub upright : LinesOf (request_lines g.request Y ps) g.ys.now

-- where the list of coordinates has j places, and the lists of lines k and k'
pub record Passed (q : Request) (ps : List Piece) (j k k' : ℕ) : Type 0 where
  pub is_proper : proper q ≡ true
  pub long : lists_short (length ps) j k k' ≡ false
  pub few : many_lines q ps ≡ false

abbrev pub ToldRefusal : Request → List Piece → ℕ → ℕ → ℕ → Refusal → Type 0
ToldRefusal q ps j k k' Improper = proper q ≡ false
ToldRefusal q ps j k k' (ShortLists n) = (proper q ≡ true) × (lists_short (length ps) j k k' ≡ true) × (n ≡ 4 * length ps + 2)
ToldRefusal q ps j k k' TooManyLines = (proper q ≡ true) × (lists_short (length ps) j k k' ≡ false) × (many_lines q ps ≡ true)
ToldRefusal q ps j k k' (ShortNodes n) = ⊥

abbrev pub ToldAxis : List ℕ → List ℕ → Result ℕ Refusal → Type 0
ToldAxis ls out (Ok n) = ToldLines ls out n
ToldAxis ls out (Err Improper) = ⊥
ToldAxis ls out (Err (ShortLists n)) = ⊥
ToldAxis ls out (Err TooManyLines) = 1024 < length ls
ToldAxis ls out (Err (ShortNodes n)) = ⊥

-- the lists hold xs and ys then
pub record LatticeOf (q : Request) (ps : List Piece) (xs ys : List ℕ) (l : Lattice) : Type 0 where
  pub layers_is : l.layers ≡ q.size.layers
  pub across : ToldLines (request_lines q X ps) xs l.columns
  pub upright : ToldLines (request_lines q Y ps) ys l.rows

abbrev pub ToldLattice : Request → List Piece → ℕ → ℕ → ℕ → List ℕ → List ℕ → Result Lattice Refusal → Type 0
ToldLattice q ps j k k' xs ys (Ok l) = Passed q ps j k k' × LatticeOf q ps xs ys l
ToldLattice q ps j k k' xs ys (Err r) = ToldRefusal q ps j k k' r

-- whether a request is refused before its lines are drawn, so that no list has changed
abbrev pub early : Refusal → Bool
early Improper = true
early (ShortLists n) = true
early TooManyLines = false
early (ShortNodes n) = false

abbrev pub is_early : {X : Type 0} → Result X Refusal → Bool
is_early (Ok x) = false
is_early (Err r) = early r

pub record LeastPath {M : Type 0} (tf : Tariff M) (R : Rules) (s t : Point) (a : M) : Type 0 where
  pub moves : List Move
  pub path : Path R s t moves
  pub costs : cost tf s moves ≡ a
  pub least : NoneCheaper R tf s t a

-- where there are so many notes and entries; means tells what amounts mean
module _ {C M : Type 0} (tf : Tariff M) (means : C → M) (q : Request) (ps : List Piece) where
  abbrev pub ToldPath : ℕ → ℕ → Result (Option C) Refusal → Type 0
  ToldPath notes entries (Ok (Some a)) =
      (nodes_short (request_nodes q ps) notes entries ≡ false)
      × LeastPath tf (request_rules q ps) q.first q.second (means a)
  ToldPath notes entries (Ok None) =
      (nodes_short (request_nodes q ps) notes entries ≡ false) × HasNoPath (request_rules q ps) q.first q.second
  ToldPath notes entries (Err Improper) = ⊥
  ToldPath notes entries (Err (ShortLists n)) = ⊥
  ToldPath notes entries (Err TooManyLines) = ⊥
  ToldPath notes entries (Err (ShortNodes n)) = (n ≡ request_nodes q ps) × (nodes_short n notes entries ≡ true)

  abbrev pub ToldCost : ℕ → ℕ → ℕ → ℕ → ℕ → Result (Option C) Refusal → Type 0
  ToldCost j k k' notes entries (Ok o) = Passed q ps j k k' × ToldPath notes entries (Ok o)
  ToldCost j k k' notes entries (Err Improper) = ToldRefusal q ps j k k' Improper
  ToldCost j k k' notes entries (Err (ShortLists n)) = ToldRefusal q ps j k k' (ShortLists n)
  ToldCost j k k' notes entries (Err TooManyLines) = ToldRefusal q ps j k k' TooManyLines
  ToldCost j k k' notes entries (Err (ShortNodes n)) = Passed q ps j k k' × ToldPath notes entries (Err (ShortNodes n))

-- The notes lead back from one node to another, by fewer nodes than there are; from there on, that way is a least-cost path
-- along the lines of the grid, which visits no node twice, and costs a.
pub record Led {K P C M : Type 0} (tf : Tariff M) (ps : List Piece) (g : Grid K P) (notes : List (Note C)) (a : M)
    (from to : ℕ) : Type 0 where
  pub back : List ℕ
  pub leads : Leads notes from to back
  pub few : length back < node_total g.lattice
  pub path : LinePath tf (request_rules g.request ps) g.xs.now g.ys.now g.request.first g.request.second
      (joins (map (grid_point g) (reverse (to ∷ back))))
  pub costs : cost tf g.request.first (joins (map (grid_point g) (reverse (to ∷ back)))) ≡ a

abbrev pub LedBack : {K P C M : Type 0} → Tariff M → (C → M) → List Piece → Grid K P → List (Note C) → Result (Option C) Refusal → Type 0
LedBack tf means ps g notes (Ok (Some a)) =
    (from to : ℕ) → NodeOf g g.request.first from → NodeOf g g.request.second to → Led tf ps g notes (means a) from to
LedBack tf means ps g notes (Ok None) = Unit {0}
LedBack tf means ps g notes (Err r) = Unit {0}
