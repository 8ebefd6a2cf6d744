use Rattle.geometry.specs.declared.axis.Axis.TheVariants.{X, Y}
use Rattle.std.proofs.lemmas.Float.{T_from_true}
use Rattle.search.proofs.Costs.{part_long, part_near, narrow, low}
use Rattle.search.proofs.Leasts.{lines_on}
use Rattle.search.proofs.least.least_cost.Goals as goal

pub invariant_of-grid : goal.invariant_of-grid
invariant_of-grid g c =
    let q = c.args.request.now in
    let ps = g.P.Pieces.pieces c.args.register.now in
    let a = c.in_ok-lattice.ensures.answer in
    let h = T_from_true _ a.0.is_proper in
    let l = c.in_ok-lattice.lattice in
    let across = a.1.across in
    let upright = a.1.upright in record {
      columns = part_long _ c.draw_lattice.new.xs l.columns across;
      rows = part_long _ c.draw_lattice.new.ys l.rows upright;
      near = part_near _ c.draw_lattice.new.xs l.columns across q.size.width (lines_on q h X ps) (narrow q h);
      close = part_near _ c.draw_lattice.new.ys l.rows upright q.size.height (lines_on q h Y ps) (low q h);
    }
