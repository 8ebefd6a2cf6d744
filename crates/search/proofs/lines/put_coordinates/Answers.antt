use Rattle.std.proofs.Common.{[], ◌∷◌}
use Rattle.search.specs.Drawing.{all_borders}
use Rattle.search.proofs.Putting.{puts_one, puts_more}
use Rattle.search.proofs.lines.put_coordinates.Goals as goal

pub returns : goal.returns
returns g c =
    let e = c.args.extent.now in
    let q = c.args.queue.now in
    let q₁ = c.put.new.self in
    let q₂ = c.put-2.new.self in
    let p = c.put.ensures in
    let p₂ = c.put-2.ensures in
    let one = puts_one q q₁ e.first c.put.result c.unwrap.ensures p.waits p.order p.slots in
    let two = puts_one q₁ q₂ e.second c.put-2.result c.unwrap-2.ensures p₂.waits p₂.order p₂.slots in
    puts_more q q₂ c.put_pieces.new.queue (e.first ∷ e.second ∷ []) (all_borders e (g.P.Pieces.pieces c.args.register.now))
    (puts_more q q₁ q₂ (e.first ∷ []) (e.second ∷ []) one two) c.put_pieces.ensures
