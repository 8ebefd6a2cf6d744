use Rattle.std.proofs.Common.{[], ◌∷◌, ◌∙◌, subst, arith, w64, SFits, rules}
use Rattle.std.proofs.lemmas.Int.{to_z-of_z}
use Rattle.routes.specs.Lines.{on_panel}
use Rattle.search.specs.Drawing.{Puts}
use Rattle.search.proofs.Putting.{panel_more, panel_room}
use Rattle.search.proofs.lines.put_zone.Goals as goal

pub put_border-requires-2 : goal.put_border-requires-2
put_border-requires-2 c =
    panel_room c.args.far (_ ∷ []) c.args.queue.now c.put_border.new.queue 2 1 c.put_border.ensures c.requires (omega arith)

pub returns : goal.returns
returns c =
    let zone = c.zone_axis-low in
    let far = c.args.far in
    let fits_low : SFits w64 zone.result.0 = search rules in
    let fits-high : SFits w64 zone.result.1 = search rules in
    let low = to_z-of_z w64 zone.result.0 fits_low ∙ zone.ensures.low in
    let high = to_z-of_z w64 zone.result.1 fits-high ∙ zone.ensures.high in
    panel_more far (_ ∷ []) (_ ∷ []) c.args.queue.now c.put_border.new.queue c.put_border-2.new.queue
    (subst (λ z. Puts (on_panel far (z ∷ [])) c.args.queue.now c.put_border.new.queue) low c.put_border.ensures)
    (subst (λ z. Puts (on_panel far (z ∷ [])) c.put_border.new.queue c.put_border-2.new.queue) high c.put_border-2.ensures)
