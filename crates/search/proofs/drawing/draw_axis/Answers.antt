use Rattle.std.proofs.Common.{◌∙◌, subst, rules}
use Rattle.search.specs.Requests.{request_lines}
use Rattle.search.specs.Told.{ToldAxis}
use Rattle.search.proofs.Drawings.{told_axis}
use Rattle.search.proofs.drawing.draw_axis.Goals as goal

pub returns-in_err-count : goal.returns-in_err-count
returns-in_err-count g c =
    let drawn = c.draw_lines-drawn.ensures in
    let ps = g.P.Pieces.pieces c.args.register.now in
    let told = subst (ToldAxis (request_lines c.args.request.now c.args.axis ps) c.draw_lines-drawn.new.lines) c.in_err-count.was
    (told_axis _ _ ps _ c.draw_lines-drawn.result c.map_err.result _ c.extent.ensures drawn.lines (drawn.short ∙ c.requires) c.map_err.ensures.cases
    (λ e f k. search rules)) in
    search rules

pub returns : goal.returns
returns g c =
    let drawn = c.draw_lines-drawn.ensures in
    let ps = g.P.Pieces.pieces c.args.register.now in
    subst (ToldAxis (request_lines c.args.request.now c.args.axis ps) c.draw_lines-drawn.new.lines) c.in_ok-count.was
    (told_axis _ _ ps _ c.draw_lines-drawn.result c.map_err.result _ c.extent.ensures drawn.lines (drawn.short ∙ c.requires) c.map_err.ensures.cases
    (λ e f k. search rules))
