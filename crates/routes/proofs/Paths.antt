-- Routes as paths, and straight runs, where pieces stand. Assumes nothing.
use Rattle.std.proofs.lemmas.Bool.Decides.{nat_tests}
use Rattle.std.proofs.Common.{◌≡◌, ℕ, Bool, T, List, [], ◌∷◌, sym, ap, subst, append-nil, arith}
use Rattle.geometry.specs.declared.point.Point.{Point}
use Rattle.costs.specs.Amounts.{Sums, Laws}
use Rattle.routes.specs.Routes.{Move, after, every, Rules, lawful_move, lawful, goes, Path}
use Rattle.routes.specs.Routes.{unit_steps, in_steps}
use Rattle.routes.specs.Rules.{rules_of}
use Rattle.routes.specs.Lines.{line_move}
use Rattle.routes.specs.Claims.{at_prices, RoutesArePaths, LineRoutesAreUnitRoutes, StraightRuns, WholeRunsAreLawful}
use Rattle.routes.proofs.Moves.{this_move, later_moves, more_moves}
use Rattle.routes.proofs.Sums.{ordered, no_tariff, no_tariff_laws}
use Rattle.routes.proofs.InSteps.{unit_steps_do, in_steps_steps, in_steps_lawful, in_steps_end, in_steps_cost, in_steps_turns}
use Rattle.routes.proofs.Whole.{whole_runs_lawful, whole_runs_visited}
use Rattle.routes.proofs.Ground.{parts_free, joins_free}

same_verdict : (a b : Bool) → (T a → T b) → (T b → T a) → a ≡ b
same_verdict a b f g = grind (arith, nat_tests)

pub routes_are_paths : {M : Type 0} (sums : Sums M) → Laws sums → RoutesArePaths sums
routes_are_paths sums laws prices width height layers c net pieces s r starts ok =
    let R = rules_of width height layers c net pieces in
    let tf = at_prices sums prices in
    let parts = parts_free width height layers c net pieces in
    record {
      path = record {
        starts = starts;
        steps = in_steps_steps R tf (ordered laws) parts s r starts ok;
        is_lawful = in_steps_lawful R tf (ordered laws) parts s r starts ok;
        ends = in_steps_end R tf (ordered laws) s r;
      };
      same_cost = in_steps_cost R tf (ordered laws) s r;
      same_points = λ go. ap (λ ts. s ∷ ts) (in_steps_turns R tf (ordered laws) s r go);
    }

-- a move between neighbouring nodes goes somewhere
line_move_goes : (R : Rules) (X Y : List ℕ) (p : Point) (m : Move) → T (line_move X Y p m) → T (lawful_move R p m) → T (goes p m)
line_move_goes R X Y p m h ok = grind (arith, nat_tests)

line_moves_go : (R : Rules) (X Y : List ℕ) (p : Point) (r : List Move) → T (every (line_move X Y) p r) → T (lawful R p r)
    → T (every goes p r)
line_moves_go R X Y p [] h ok = tt
line_moves_go R X Y p (m ∷ r) h ok =
    more_moves goes p m r (line_move_goes R X Y p m (this_move (line_move X Y) p m r h) (this_move (lawful_move R) p m r ok))
    (line_moves_go R X Y (after p m) r (later_moves (line_move X Y) p m r h) (later_moves (lawful_move R) p m r ok))

pub line_routes_are_unit_routes : {M : Type 0} (sums : Sums M) → Laws sums → LineRoutesAreUnitRoutes sums
line_routes_are_unit_routes sums laws prices width height layers c net pieces s t X Y r line =
    let R = rules_of width height layers c net pieces in
    let w = routes_are_paths sums laws prices width height layers c net pieces s r line.starts line.is_lawful in (
      in_steps s r,
      subst (λ o. Path R s o (in_steps s r)) line.ends w.path,
      w.same_cost,
      w.same_points (line_moves_go R X Y s r line.on_lines line.is_lawful),
    )

pub straight_runs : StraightRuns
straight_runs width height layers c net pieces p m are-proper here go =
    let R = rules_of width height layers c net pieces in
    let d = unit_steps_do R no_tariff (ordered no_tariff_laws) p m [] in
    same_verdict (lawful R p (unit_steps p m)) (lawful_move R p m)
    (λ h. d.move_back (joins_free width height layers c net pieces are-proper) go
    (subst (λ r. T (lawful R p r)) (sym (append-nil (unit_steps p m))) h))
    (λ h. subst (λ r. T (lawful R p r)) (append-nil (unit_steps p m))
    (d.is_lawful (parts_free width height layers c net pieces) here h tt))

pub whole_runs_are_lawful : WholeRunsAreLawful
whole_runs_are_lawful width height layers c net pieces s r are-proper go ok =
    let R = rules_of width height layers c net pieces in (
      whole_runs_lawful R no_tariff (ordered no_tariff_laws) (joins_free width height layers c net pieces are-proper) s r go ok,
      whole_runs_visited R no_tariff (ordered no_tariff_laws) s r go,
    )
