use Rattle.std.proofs.Common.{◌≤◌, length, [], sym, subst, arith}
use Rattle.std.specs.List.Sorted.{IsPermutation}
use Rattle.std.proofs.lemmas.List.Sorted.{IsPermutation-refl}
use Rattle.queue.specs.Waiting.{waiting}
use Rattle.search.specs.Axes.{extent_coordinates, extent_lines}
use Rattle.search.specs.Drawing.{ToldDrawn}
use Rattle.search.proofs.Counting.{lines_long, told_drawn}
use Rattle.search.proofs.lines.draw_lines.Goals as goal

pub returns-clause-lines : goal.returns-clause-lines
returns-clause-lines g c =
    let e = c.args.extent.now in
    let ps = g.P.Pieces.pieces c.args.register.now in
    let xs = extent_coordinates e ps in
    let ws = waiting c.put_coordinates.new.queue in
    let out = c.drain_distinct.new.out in
    let put : IsPermutation xs ws =
    c.put_coordinates.ensures.waits [] (subst (IsPermutation []) (sym c.new-queue.ensures.waits) (IsPermutation-refl [])) in
    let d = c.drain_distinct.ensures in
    let long : 1024 ≤ length c.args.lines.now = lines_long _ _ _ c.if-are_short.ensures in
    subst (ToldDrawn (extent_lines e ps) out) (sym c.ok_or.ensures.value)
    (told_drawn xs ws c.args.lines.now out put long (omega (arith, long)) c.drain_distinct.result d.front.count
    (d.distinct (c.put_coordinates.ensures.order c.new-queue.ensures.order)))
