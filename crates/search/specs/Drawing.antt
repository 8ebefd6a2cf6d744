-- How the lines of a request are drawn. Assumes nothing.
--     HasRoom k q              k more numbers can wait
--     Puts ns q q'             the numbers ns wait too
--     zone_borders far d s     both borders of a span moved out by d, as far as they lie from 0 to far
--     piece_borders e p        the borders of both zones of a piece, as far as they lie on the panel
--     all_borders e ps         those of the pieces of a different net
--     short_lists m j k        the list of coordinates or that of lines is too short, where m pieces stand
--     ToldLines ls out n       the first n of out are the lines ls, ascending, each once
--     ToldDrawn ls out r       r tells how many lines there are, or that they are too many
use Rattle.std.specs.Prelude.{◌≡◌, ℕ, ◌+◌, ◌*◌, ◌<◌, ◌≤◌, Bool, true, false, ◌||◌, List, [], ◌∷◌, ◌++◌, length, take, Ok, Err, Result, nat_lt}
use Rattle.std.specs.List.Sorted.{IsPermutation}
use Rattle.geometry.specs.declared.piece.Piece.{Piece}
use Rattle.geometry.specs.declared.rect.Span.{Span}
use Rattle.geometry.specs.Axes.{axis_of}
use Rattle.geometry.specs.Lists.{flat, mem}
use Rattle.geometry.specs.Zones.{widened}
use Rattle.queue.specs.declared.heap.Queue.{Queue}
use Rattle.queue.specs.Distinct.{Climbs}
use Rattle.queue.specs.Waiting.{waiting, room, Keeps}
use Rattle.routes.specs.Lines.{on_panel, borders, others}
use Rattle.search.specs.declared.lines.Undrawn.{Undrawn}
use Rattle.search.specs.declared.lines.Undrawn.TheVariants.{ShortLists, TooManyLines}
use Rattle.search.specs.declared.request.Extent.{Extent}

abbrev pub HasRoom : ℕ → Queue ℕ → Type 0
HasRoom k q = length (waiting q) + k ≤ room q

pub record Puts (ns : List ℕ) (q q' : Queue ℕ) : Type 0 where
  pub waits : (xs : List ℕ) → IsPermutation xs (waiting q) → IsPermutation (xs ++ ns) (waiting q')
  pub order : Keeps nat_lt q q'
  pub room_stays : room q' ≡ room q

abbrev pub zone_borders : ℕ → ℕ → Span → List ℕ
zone_borders far d s = on_panel far ((widened d s).low ∷ (widened d s).high ∷ [])

abbrev pub piece_borders : Extent → Piece → List ℕ
piece_borders e p = on_panel e.size (borders (axis_of e.axis) e.class p)

abbrev pub all_borders : Extent → List Piece → List ℕ
all_borders e pieces = on_panel e.size (flat (borders (axis_of e.axis) e.class) (others e.net pieces))

abbrev pub short_lists : ℕ → ℕ → ℕ → Bool
short_lists m coordinates lines = nat_lt coordinates (4 * m + 2) || nat_lt lines 1024

abbrev pub is_short : {X : Type 0} → Result X Undrawn → Bool
is_short (Ok n) = false
is_short (Err ShortLists) = true
is_short (Err TooManyLines) = false

pub record ToldLines (ls out : List ℕ) (n : ℕ) : Type 0 where
  pub number : n ≡ length ls
  pub few : n ≤ 1024
  pub inside : n ≤ length out
  pub climbs : Climbs (take n out)
  pub same : (v : ℕ) → mem v (take n out) ≡ mem v ls

abbrev pub ToldDrawn : List ℕ → List ℕ → Result ℕ Undrawn → Type 0
ToldDrawn ls out (Ok n) = ToldLines ls out n
ToldDrawn ls out (Err ShortLists) = Unit {0}
ToldDrawn ls out (Err TooManyLines) = 1024 < length ls
