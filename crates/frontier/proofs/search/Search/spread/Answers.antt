use Rattle.std.proofs.Common.{refl, set, ◌≡◌, ◌<◌, ◌∷◌, length, sym, ap, ◌∙◌, subst, arith, rules}
use Rattle.std.specs.List.Sorted.{IsPermutation}
use Rattle.std.proofs.lemmas.Result.{MatchResult-at_ok}
use Rattle.std.proofs.lemmas.List.Sorted.{IsPermutation-sym}
use Rattle.queue.specs.Waiting.{waiting}
use Rattle.frontier.specs.declared.entry.Entry.{Entry}
use Rattle.frontier.specs.declared.note.Note.TheVariants.{Settled}
use Rattle.frontier.specs.Routes.{search_from}
use Rattle.frontier.specs.Front.{waits}
use Rattle.frontier.specs.Held.{mark, marks, LookedRound, Stays}
use Rattle.frontier.proofs.Count.{count_le}
use Rattle.frontier.proofs.Noting.{mark_at}
use Rattle.frontier.proofs.Turn.{begin_held, begin_open, none_held, not_waiting, Taken}
use Rattle.frontier.proofs.Turn.{turn_node, turn_stale, turn_reached, turn_looking, turn_open, turn_wanes}
use Rattle.frontier.proofs.search.Search.spread.Given as given
use Rattle.frontier.proofs.search.Search.spread.Goals as goal
use Rattle.frontier.proofs.search.Search.spread.Goals.{In-Some, In-Waiting, After-look_round}

pub loop-entry-init : goal.loop-entry-init
loop-entry-init g c =
    let m = g.C.Amount in
    let shape = g.G.Graph.shape c.args.self.now.graph.now in
    let price = g.G.Graph.price m.sums m.means c.args.self.now.graph.now in
    let S = search_from m.sums shape price c.args.from in
    let e = c.put.ensures in
    let empty = ap length c.requires.empty in
    let first : Entry g.row.C.Denot = record { amount = c.zero-none.result; node = c.args.from } in
    let entries = waiting c.put.new.self in
    let put = subst (λ xs. IsPermutation (first ∷ xs) entries) c.requires.empty (MatchResult-at_ok _ _ _ c.unwrap.ensures e.waits) in
    let one : length (waiting c.put.new.self) ≡ 1 = omega (arith, MatchResult-at_ok _ _ _ c.unwrap.ensures e.len, empty) in (
      record { graph = refl; notes = refl },
      begin_held S m.laws m.means c.args.self.now.notes.now c.zero-none.result entries c.requires.blank c.args.self.now.long
          c.requires.start c.zero-none.ensures put one,
      begin_open S m.laws m.means c.args.self.now.notes.now c.zero-none.result entries c.requires.blank c.args.self.now.long
          c.requires.start c.zero-none.ensures put one c.args.to,
      e.order c.requires.order,
    )

pub returns-in_default-clause-answer : goal.returns-in_default-clause-answer
returns-in_default-clause-answer g c =
    let m = g.C.Amount in
    let i = c.loop-entry.invariant in
    none_held _ m.laws m.means c.loop-entry.self.notes.now (waiting c.loop-entry.self.queue.now) i.1 c.in_default.ensures.len
    c.args.to i.2

-- what the queue says of the entry
taken : (g : given.Over) (c : In-Some g)
    → Taken (search_from g.C.Amount.sums (g.G.Graph.shape c.args.self.now.graph.now)
    (g.G.Graph.price g.C.Amount.sums g.C.Amount.means c.args.self.now.graph.now) c.args.from)
    g.C.Amount.means c.loop-entry.self.notes.now (waiting c.loop-entry.self.queue.now) (waiting c.take.new.self)
    c.in-Some.entry
taken g c =
    let i = c.loop-entry.invariant in
    let t = c.in-Some.ensures in
    record { holds = i.1; took = IsPermutation-sym _ _ t.waits; less = t.len; low = t.least i.3 }

fits : (g : given.Over) (c : In-Some g) → c.in-Some.entry.node < length c.loop-entry.self.notes.now
fits g c = omega (arith, turn_node g.C.Amount.laws (taken g c), c.loop-entry.invariant.1.long)

-- so does its place among the notes as they were lent
first_fits : (g : given.Over) (c : In-Some g) → c.in-Some.entry.node < length c.args.self.now.notes.now
first_fits g c =
    let same = ap (λ r. (g.G.Graph.shape r.now).size) c.loop-entry.invariant.0.graph in
    omega (arith, same, fits g c, c.loop-entry.self.long, c.args.self.now.long)

-- the node of the entry waits
waited : (g : given.Over) (c : In-Waiting g) → c.in-Some.entry.node < length c.loop-entry.self.notes.now
    → marks g.C.Amount.means c.loop-entry.self.notes.now c.in-Some.entry.node ≡ waits
    (g.C.Amount.means c.in-Waiting._best) c.in-Waiting.before
waited g c l =
    let means = g.C.Amount.means in
    sym (mark_at means c.loop-entry.self.notes.now c.in-Some.entry.node c.index-self-entry.result l)
    ∙ ap (mark means) c.in-Waiting.is

pub bounds-self-entry : goal.bounds-self-entry
bounds-self-entry g c = fits g (goal.at.bounds-self-entry g c).In-Some

pub offset_bounds-self-entry : goal.offset_bounds-self-entry
offset_bounds-self-entry g c =
    let h = first_fits g (goal.at.offset_bounds-self-entry g c).In-Some in
    search rules

pub bounds-self-entry-in-Waiting : goal.bounds-self-entry-in-Waiting
bounds-self-entry-in-Waiting g c = fits g (goal.at.bounds-self-entry-in-Waiting g c).In-Some

pub offset_bounds-self-entry-in-Waiting : goal.offset_bounds-self-entry-in-Waiting
offset_bounds-self-entry-in-Waiting g c =
    let h = first_fits g (goal.at.offset_bounds-self-entry-in-Waiting g c).In-Some in
    search rules

pub returns-then-entry-to-clause-answer : goal.returns-then-entry-to-clause-answer
returns-then-entry-to-clause-answer g c =
    let s = goal.at.returns-then-entry-to-clause-answer g c in
    let was = waited g s.In-Waiting (fits g s.In-Some) in
    turn_reached g.C.Amount.laws (taken g s.In-Some) was c.args.to c.if-entry-to.true

pub look_round-requires : goal.look_round-requires
look_round-requires g c =
    let s = goal.at.look_round-requires g c in
    let same = ap (λ r. (g.G.Graph.shape r.now).size) c.loop-entry.invariant.0.graph in
    let laws = g.C.Amount.laws in
    let K = taken g s.In-Some in
    let L = turn_looking laws K (waited g s.In-Waiting (fits g s.In-Some)) in
    let below = count_le (marks g.C.Amount.means
    (set c.loop-entry.self.notes.now c.in-Some.entry.node (Settled c.in-Some.entry.amount c.in-Waiting.before)))
    (g.G.Graph.shape c.args.self.now.graph.now).size in
    record { node = omega (arith, same, turn_node laws K); few = omega (arith, same, below, L.holds.tally) }

-- what the neighbours' turn comes to, by the graph that the search began with
round : (g : given.Over) (c : After-look_round g) →
    let m = g.C.Amount in
    let shape = g.G.Graph.shape c.args.self.now.graph.now in
    let notes = set c.loop-entry.self.notes.now c.in-Some.entry.node (Settled c.in-Some.entry.amount c.in-Waiting.before) in
    let is = c.look_round.new.self in
    LookedRound m.sums m.means shape (g.G.Graph.price m.sums m.means c.args.self.now.graph.now) c.in-Some.entry.node
    (m.means c.in-Some.entry.amount) notes (waiting c.take.new.self) is.notes.now (waiting is.queue.now)
    × Stays shape.size m.means notes is.notes.now (waiting c.take.new.self) (waiting is.queue.now) 6
round g c =
    let m = g.C.Amount in
    let e = c.look_round.ensures in
    let same = c.loop-entry.invariant.0.graph in
    let notes = set c.loop-entry.self.notes.now c.in-Some.entry.node (Settled c.in-Some.entry.amount c.in-Waiting.before) in
    let is = c.look_round.new.self in (
      subst (λ r. LookedRound m.sums m.means (g.G.Graph.shape r.now) (g.G.Graph.price m.sums m.means r.now) c.in-Some.entry.node
          (m.means c.in-Some.entry.amount) notes (waiting c.take.new.self) is.notes.now (waiting is.queue.now)) same e.holds,
      subst (λ r. Stays (g.G.Graph.shape r.now).size m.means notes is.notes.now (waiting c.take.new.self) (waiting is.queue.now) 6) same e.stays,
    )

pub loop-entry-smaller-in-Waiting : goal.loop-entry-smaller-in-Waiting
loop-entry-smaller-in-Waiting g c =
    let s = goal.at.loop-entry-smaller-in-Waiting g c in
    turn_wanes g.C.Amount.laws (taken g s.In-Some) (waited g s.In-Waiting (fits g s.In-Some))
    (round g s.After-look_round).1

pub loop-entry-preserved-in-Waiting : goal.loop-entry-preserved-in-Waiting
loop-entry-preserved-in-Waiting g c =
    let s = goal.at.loop-entry-preserved-in-Waiting g c in
    let laws = g.C.Amount.laws in
    let K = taken g s.In-Some in
    let was = waited g s.In-Waiting (fits g s.In-Some) in
    let i = c.loop-entry.invariant in
    let e = c.look_round.ensures in
    let r = round g s.After-look_round in
    let t = c.in-Some.ensures in (
      record { graph = e.same.graph ∙ i.0.graph; notes = e.same.notes ∙ i.0.notes },
      r.0 c.args.from (turn_looking laws K was),
      turn_open laws K was r.1 c.args.to c.if-entry-to.false i.2,
      e.order (t.order i.3),
    )

pub loop-entry-preserved : goal.loop-entry-preserved
loop-entry-preserved g c =
    let s = goal.at.loop-entry-preserved g c in
    let m = g.C.Amount in
    let note = c.index-self-entry in
    let i = c.loop-entry.invariant in
    let t = c.in-Some.ensures in
    let old = not_waiting m.means c.loop-entry.self.notes.now c.in-Some.entry.node note.result (fits g s.In-Some)
    c.in_default-note.not-Waiting in (
      record { graph = i.0.graph; notes = i.0.notes },
      turn_stale m.laws (taken g s.In-Some) old,
      i.2,
      t.order i.3,
    )
