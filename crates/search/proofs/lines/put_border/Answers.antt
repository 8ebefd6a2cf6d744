use Rattle.std.proofs.Common.{[], ◌∷◌, ap, ◌∙◌, subst, w64}
use Rattle.std.proofs.lemmas.Int.{to_z-of_z}
use Rattle.routes.specs.Lines.{on_panel}
use Rattle.search.specs.Drawing.{Puts}
use Rattle.search.proofs.Putting.{puts_one}
use Rattle.search.proofs.lines.put_border.Goals as goal

pub returns-in-Some : goal.returns-in-Some
returns-in-Some c =
    let p = c.put.ensures in
    let same = to_z-of_z w64 c.args.border c.ranges.border in
    let is = c.in-Some.ensures ∙ ap (λ z. on_panel c.args.far (z ∷ [])) same in
    subst (λ ns. Puts ns c.args.queue.now c.put.new.self) is
    (puts_one c.args.queue.now c.put.new.self c.in-Some.x c.put.result c.unwrap.ensures p.waits p.order p.slots)
