use Rattle.std.proofs.Common.{◌≤◌, sym, subst, arith}
use Rattle.search.proofs.Joins.{run_light, reach_along}
use Rattle.search.proofs.grid.Grid.price.Goals as goal

pub returns-clause-light : goal.returns-clause-light
returns-clause-light g c =
    let a = g.K.Amount.Amount in
    let axis = c.run_axis-axis.result in
    let p = c.args.p.now in
    let step = a.means c.step-step.result in
    let far : c.abs_diff.result ≤ 60000 =
    omega (arith, c.abs_diff.ensures, c.along.ensures, c.along-2.ensures, reach_along axis p c.requires.0, reach_along axis c.args.q.now c.requires.1) in
    let small : a.sums.bulk step ≤ 65535 =
    subst (λ v. a.sums.bulk v ≤ 65535) (sym (c.step-step.ensures c.requires.0.lowest c.requires.0.highest))
    (g.met.K.CostKind.step_bulk c.args.self.now.kind axis p.layer c.requires.0.lowest c.requires.0.highest) in
    run_light a.sums a.laws c.abs_diff.result step (a.means c.times.result) far small c.times.ensures
