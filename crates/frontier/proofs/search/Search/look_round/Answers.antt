use Rattle.std.proofs.Common.{◌≡◌, subst, arith}
use Rattle.queue.specs.Waiting.{waiting}
use Rattle.frontier.specs.Held.{Stays}
use Rattle.frontier.proofs.Looks.{look_over}
use Rattle.frontier.proofs.search.Search.look_round.Goals as goal

pub returns-clause-holds : goal.returns-clause-holds
returns-clause-holds g c = λ from L. look_over c.loop-k.k (omega arith) (c.loop-k.invariant.1 from L)

pub returns-clause-stays : goal.returns-clause-stays
returns-clause-stays g c =
    let size = (g.G.Graph.shape c.args.self.now.graph.now).size in
    let was = c.args.self.now in
    let is = c.loop-k.self in
    let all : c.loop-k.k ≡ 6 = omega arith in
    subst (λ n. Stays size g.C.Amount.means was.notes.now is.notes.now (waiting was.queue.now) (waiting is.queue.now) n) all
    c.loop-k.invariant.2
