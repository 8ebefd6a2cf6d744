use Rattle.std.proofs.Common.{rules}
use Rattle.search.proofs.Counting.{found_place, no_place}
use Rattle.search.proofs.grid.Grid.node.Goals as goal

pub returns-in_err-column : goal.returns-in_err-column
returns-in_err-column g c =
    let none = no_place c.args.p.now.x c.args.self.now.xs.now c.in_err-column.ensures in search rules

pub returns-in_err-row : goal.returns-in_err-row
returns-in_err-row g c =
    let none = no_place c.args.p.now.y c.args.self.now.ys.now c.in_err-row.ensures in search rules

pub returns : goal.returns
returns g c =
    let column = found_place c.args.p.now.x c.args.self.now.xs.now c.in_ok-column.column c.in_ok-column.ensures in
    let row = found_place c.args.p.now.y c.args.self.now.ys.now c.in_ok-row.row c.in_ok-row.ensures in
    search rules
