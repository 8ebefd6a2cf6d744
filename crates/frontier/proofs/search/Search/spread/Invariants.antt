-- The search stands between two turns, and the target is not settled.
use Rattle.std.proofs.Common.{◌≡◌, ℕ, ◌+◌, ◌-◌, ◌*◌, length}
use Rattle.queue.specs.Waiting.{waiting, Ordered}
use Rattle.frontier.specs.Entries.{cheaper}
use Rattle.frontier.specs.Routes.{search_from}
use Rattle.frontier.specs.Front.{settled, settled_below, Nothing}
use Rattle.frontier.specs.Held.{Holds, SameWork, marks}
use Rattle.frontier.proofs.search.Search.spread.Given as goal

abbrev pub invariant-loop-entry : goal.invariant-loop-entry
invariant-loop-entry g l =
    let m = g.C.Amount in
    let shape = g.G.Graph.shape l.initial.self.graph.now in
    let price = g.G.Graph.price m.sums m.means l.initial.self.graph.now in
    SameWork l.initial.self l.self
    × Holds (search_from m.sums shape price l.from) m.means l.self.notes.now (waiting l.self.queue.now) Nothing 0
    × ((x : m.Meaning) (p : ℕ) → marks m.means l.self.notes.now l.to ≡ settled x p → ⊥)
    × Ordered (cheaper m.means m.sums) l.self.queue.now

-- each turn takes out an entry, and a node that is settled puts in six at most
abbrev pub decreases-loop-entry : goal.decreases-loop-entry
decreases-loop-entry g l =
    let n = (g.G.Graph.shape l.initial.self.graph.now).size in
    length (waiting l.self.queue.now) + 6 * (n - settled_below (marks g.C.Amount.means l.self.notes.now) n)
