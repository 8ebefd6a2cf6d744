use Rattle.std.proofs.lemmas.List.{take_more, take_all}
use Rattle.panel.specs.declared.calls.Call.{Call}
use Rattle.panel.specs.declared.calls.Call.TheVariants.{Place}
use Rattle.panel.proofs.Driving.{so_far_more, driven_by}
use Rattle.panel.proofs.run.run_calls.Goals as goal

pub loop-call-preserved : goal.loop-call-preserved
loop-call-preserved g c =
    let none : Call = Place (record { layer = 0; x1 = 0; y1 = 0; x2 = 0; y2 = 0; net = 0; space = 0 }) in
    rw (take_more c.args.calls.now c.loop-call.call-index none c.loop-call-test.true, c.in_ok-push.ensures.items)
    (so_far_more c.loop-call.invariant c.make.ensures)

pub returns : goal.returns
returns g c =
    driven_by c.open-panel.ensures (rw (take_all c.loop-call.call-index c.args.calls.now c.loop-call-test.false) at c.loop-call.invariant)
