use Rattle.std.proofs.Common.{drop}
use Rattle.frontier.specs.Routes.{search_from}
use Rattle.frontier.proofs.Walk.{found_front}
use Rattle.frontier.proofs.find.find_least.Goals as goal

pub returns-clause-traced : goal.returns-clause-traced
returns-clause-traced g c =
    let m = g.C.Amount in
    let graph = c.args.graph.now in
    found_front {C = g.row.C.Denot} c.run_search.new.notes (drop c.size-size.result c.args.notes.now)
    (search_from m.sums (g.G.Graph.shape graph) (g.G.Graph.price m.sums m.means graph) c.args.from) m.means c.args.to
    c.run_search.result c.run_search.ensures
