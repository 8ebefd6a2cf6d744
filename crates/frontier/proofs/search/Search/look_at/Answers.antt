use Rattle.std.proofs.Common.{◌≡◌, ◌<◌, ◌≤◌, length, sym, ap, ◌∙◌, subst, arith, true}
use Rattle.std.proofs.lemmas.Result.{MatchResult-at_ok}
use Rattle.frontier.specs.Graphs.{Priced}
use Rattle.frontier.specs.Held.{marks, worth}
use Rattle.frontier.proofs.Looks.{look_none, look_shut, look_worse, look_better, look_sum}
use Rattle.frontier.proofs.Noting.{mark_at, stays_put}
use Rattle.frontier.proofs.search.Search.look_at.Given as given
use Rattle.frontier.proofs.search.Search.look_at.Goals as goal
use Rattle.frontier.proofs.search.Search.look_at.Goals.{In-Some, Else-not-better}

-- the move to the neighbour, as the graph tells it
priced : (g : given.Over) (c : In-Some g)
    → Priced g.C.Amount.sums g.C.Amount.means (g.G.Graph.shape c.args.self.now.graph.now)
    (g.G.Graph.price g.C.Amount.sums g.C.Amount.means c.args.self.now.graph.now) c.args.node c.args.k
    c.in-Some.step
priced g c = c.in-Some.ensures c.requires.node c.requires.way

inside : (g : given.Over) (c : In-Some g) → c.in-Some.step.0 < (g.G.Graph.shape c.args.self.now.graph.now).size
inside g c = (g.G.Graph.bounded c.args.self.now.graph.now).inside _ _ _ c.requires.node c.requires.way (priced g c).next

fits : (g : given.Over) (c : In-Some g) → c.in-Some.step.0 < length c.args.self.now.notes.now
fits g c = omega (arith, c.args.self.now.long, inside g c)

-- the sum is better than what is noted there
good : (g : given.Over) (c : Else-not-better g) → c.in-Some.step.0 < length c.args.self.now.notes.now
    → worth g.C.Amount.sums (marks g.C.Amount.means c.args.self.now.notes.now c.in-Some.step.0) (g.C.Amount.means c.sum-sum.result) ≡ true
good g c l =
    let m = g.C.Amount in
    let read = mark_at m.means c.args.self.now.notes.now c.in-Some.step.0 c.index-self-neighbour.result l in
    ap (λ x. worth m.sums x (m.means c.sum-sum.result)) (sym read) ∙ sym c.better.ensures ∙ c.if-not-better.false

pub returns-in_default-clause-looking : goal.returns-in_default-clause-looking
returns-in_default-clause-looking g c = λ from L.
    look_none g.C.Amount.laws c.requires.way L (c.in_default.ensures c.requires.node c.requires.way)

pub returns-then-not-better-clause-looking : goal.returns-then-not-better-clause-looking
returns-then-not-better-clause-looking g c =
    let m = g.C.Amount in
    let w = c.in-Some.step.0 in
    let s = (goal.at.returns-then-not-better-clause-looking g c).In-Some in
    let p = priced g s in
    let read = mark_at m.means c.args.self.now.notes.now w c.index-self-neighbour.result (fits g s) in
    let small = (g.G.Graph.bounded c.args.self.now.graph.now).small in λ from L.
    let exact = look_sum m.laws c.requires.way L p.next p.exact p.light small c.sum-sum.ensures in
    look_worse m.laws c.requires.way L p.next
    (ap (worth m.sums (marks m.means c.args.self.now.notes.now w)) (sym exact)
    ∙ ap (λ x. worth m.sums x (m.means c.sum-sum.result)) (sym read) ∙ sym c.better.ensures ∙ c.if-not-better.true)

pub returns-then-not-is_free-clause-looking : goal.returns-then-not-is_free-clause-looking
returns-then-not-is_free-clause-looking g c =
    let next = (priced g (goal.at.returns-then-not-is_free-clause-looking g c).In-Some).next in
    let shut = sym (c.is_free.ensures c.args.k c.requires.node c.requires.way next) ∙ c.if-not-is_free.true in
    λ from L. look_shut g.C.Amount.laws c.requires.way L next shut

pub returns-clause-looking : goal.returns-clause-looking
returns-clause-looking g c =
    let m = g.C.Amount in
    let s = (goal.at.returns-clause-looking g c).In-Some in
    let p = priced g s in
    let shape = g.G.Graph.shape c.args.self.now.graph.now in
    let small = (g.G.Graph.bounded c.args.self.now.graph.now).small in
    let free = sym (c.is_free.ensures c.args.k c.requires.node c.requires.way p.next) ∙ c.if-not-is_free.false in
    let light = subst (λ x. m.sums.bulk x ≤ shape.dearest) p.exact p.light in
    let went = c.unwrap.ensures in λ from L.
    let exact = look_sum m.laws c.requires.way L p.next p.exact p.light small c.sum-sum.ensures in
    look_better m.laws c.requires.way L p.next exact (MatchResult-at_ok _ _ _ went c.put.ensures.waits)
    (MatchResult-at_ok _ _ _ went c.put.ensures.len) (inside g s) free light
    (good g (goal.at.returns-clause-looking g c).Else-not-better (fits g s))

pub returns-clause-stays : goal.returns-clause-stays
returns-clause-stays g c =
    let m = g.C.Amount in
    let s = goal.at.returns-clause-stays g c in
    let one = MatchResult-at_ok _ _ _ c.unwrap.ensures c.put.ensures.len in
    stays_put m.means _ _ c.in-Some.step.0 _ _ _ _ m.sums (fits g s.In-Some) (good g s.Else-not-better (fits g s.In-Some)) (omega (arith, one))
