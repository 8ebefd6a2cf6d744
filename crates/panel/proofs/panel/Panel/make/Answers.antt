use Rattle.std.proofs.Common.{sym, ap}
use Rattle.std.specs.Result.{result_map_both}
use Rattle.std.proofs.lemmas.Result.{err_from_is_err_and}
use Rattle.panel.specs.Runs.{placing, lifting}
use Rattle.panel.specs.declared.calls.Done.TheVariants.{Placed, Lifted}
use Rattle.panel.proofs.Driving.{mapped}
use Rattle.panel.proofs.panel.Panel.make.Goals as goal

pub returns-in-Place : goal.returns-in-Place
returns-in-Place g c = record {
  event = placing c.in-Place.a c.place.result;
  of_call = sym c.in-Place.is;
  of_answer = mapped Placed c.place.result c.map.result c.map.ensures.cases;
  is_right = c.place.ensures.answer;
  leaves = c.place.ensures.stands;
}

pub returns-in_ok-lift-in-Lift : goal.returns-in_ok-lift-in-Lift
returns-in_ok-lift-in-Lift g c = record {
  event = lifting c.in-Lift.job c.lift.result;
  of_call = sym c.in-Lift.is;
  of_answer = ap (result_map_both Lifted (λ e. e)) c.in_ok-lift-in-Lift.was;
  is_right = c.lift.ensures.answer;
  leaves = c.lift.ensures.stands;
}

pub returns-in_err-lift-in-Lift : goal.returns-in_err-lift-in-Lift
returns-in_err-lift-in-Lift g c =
    let p = err_from_is_err_and c.from_residual.result c.from_residual.ensures.1 in
    record {
      event = lifting c.in-Lift.job c.lift.result;
      of_call = sym c.in-Lift.is;
      of_answer = rw (p.1, p.2) (ap (result_map_both Lifted (λ e. e)) c.in_err-lift-in-Lift.was);
      is_right = c.lift.ensures.answer;
      leaves = c.lift.ensures.stands;
    }
