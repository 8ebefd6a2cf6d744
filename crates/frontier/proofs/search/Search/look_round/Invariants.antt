-- The neighbours before this one were looked at.
use Rattle.std.proofs.Common.{ℕ}
use Rattle.queue.specs.Waiting.{waiting, Keeps}
use Rattle.frontier.specs.Entries.{cheaper}
use Rattle.frontier.specs.Routes.{search_from}
use Rattle.frontier.specs.Held.{Looking, Stays, SameWork}
use Rattle.frontier.proofs.search.Search.look_round.Given as goal

abbrev pub invariant-loop-k : goal.invariant-loop-k
invariant-loop-k g l =
    let m = g.C.Amount in
    let shape = g.G.Graph.shape l.initial.self.graph.now in
    let price = g.G.Graph.price m.sums m.means l.initial.self.graph.now in
    SameWork l.initial.self l.self
    × ((from : ℕ) → Looking (search_from m.sums shape price from) m.means l.node (m.means l.amount)
    l.initial.self.notes.now (waiting l.initial.self.queue.now) 0
    → Looking (search_from m.sums shape price from) m.means l.node (m.means l.amount) l.self.notes.now
    (waiting l.self.queue.now) l.k)
    × Stays shape.size m.means l.initial.self.notes.now l.self.notes.now (waiting l.initial.self.queue.now) (waiting l.self.queue.now) l.k
    × Keeps (cheaper m.means m.sums) l.initial.self.queue.now l.self.queue.now
