use Rattle.std.proofs.Common.{length, rules}
use Rattle.std.proofs.lemmas.Float.{T_from_true}
use Rattle.search.proofs.Leasts.{first_found, second_found, told_search}
use Rattle.search.proofs.grid.Grid.find_path.Goals as goal
use Rattle.search.proofs.grid.Grid.find_path.Goals.{in_default-via-in-Some+in_default, in_default-via-in_default}

pub returns-in_default-clause-answer : goal.returns-in_default-clause-answer
returns-in_default-clause-answer g c h of =
    let grid = c.args.self.now in
    elim c.in_default.branch [
      | in_default-via-in-Some+in_default w ↦ absurd (second_found _ grid (T_from_true _ h) of w.in_default.ensures')
      | in_default-via-in_default w ↦ absurd (first_found _ grid (T_from_true _ h) of (rw w.in_default.is-0 at c.node.ensures))
    ]

pub returns-clause-answer : goal.returns-clause-answer
returns-clause-answer g c h of =
    let grid = c.args.self.now in
    let a = g.K.Amount.Amount in
    let from = c.in-Some-Some.ensures in
    let to = c.in-Some-Some.ensures' in
    let found = c.find_least.ensures in
    (told_search (g.P.Pieces.pieces grid.register.now) grid (T_from_true _ h) of (g.K.CostKind.prices grid.kind) a.sums a.laws a.means
    c.in-Some-Some.from c.in-Some-Some.to from to (length c.args.nodes.now) (length c.args.frontier.now) c.find_least.new.notes
    c.find_least.result c.map_err.result _ found.refused found.answer found.traced c.map_err.ensures.cases
    (λ e f k. search rules)).0

pub returns-clause-led : goal.returns-clause-led
returns-clause-led g c h of =
    let grid = c.args.self.now in
    let a = g.K.Amount.Amount in
    let from = c.in-Some-Some.ensures in
    let to = c.in-Some-Some.ensures' in
    let found = c.find_least.ensures in
    (told_search (g.P.Pieces.pieces grid.register.now) grid (T_from_true _ h) of (g.K.CostKind.prices grid.kind) a.sums a.laws a.means
    c.in-Some-Some.from c.in-Some-Some.to from to (length c.args.nodes.now) (length c.args.frontier.now) c.find_least.new.notes
    c.find_least.result c.map_err.result _ found.refused found.answer found.traced c.map_err.ensures.cases
    (λ e f k. search rules)).1
