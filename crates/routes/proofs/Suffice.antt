-- Lines suffice: a lawful path is moved onto the lines along x, then along y, and cut where it passes over a line. Assumes
-- nothing.
use Rattle.std.proofs.Common.{◌≡◌, ℕ, ◌≤◌, T, List, [], ◌∷◌, sym, ap, ◌∙◌, subst}
use Rattle.geometry.specs.declared.axis.Axis.TheVariants.{X as AxisX, Y as AxisY}
use Rattle.geometry.specs.declared.point.Point.{Point}
use Rattle.geometry.specs.Axes.{axis_of}
use Rattle.geometry.specs.Lists.{mem}
use Rattle.costs.specs.Amounts.{Sums, Laws, Tariff}
use Rattle.routes.specs.Routes.{Move, along_x, along_y, to_layer, after, end, every, Rules, lawful, cost}
use Rattle.routes.specs.Rules.{rules_of}
use Rattle.routes.specs.Lines.{neighbours, line_move}
use Rattle.routes.specs.Claims.{at_prices, LinesSuffice, LeastOnLinesIsLeast, NoLineRouteNoPath}
use Rattle.routes.proofs.Bools.{left, right, both}
use Rattle.routes.proofs.Moves.{more_moves, x_inside, y_inside}
use Rattle.routes.proofs.Sums.{Ordered, ordered, no_tariff, no_tariff_laws}
use Rattle.routes.proofs.Shift.{xs, ys, Steady}
use Rattle.routes.proofs.Snap.{Improves, snap_x}
use Rattle.routes.proofs.Refine.{walks, refine_x}
use Rattle.routes.proofs.Flip.{flip, flip_point, flip_rules, flip_tariff, xs_flip, ys_flip, end_flip, lawful_flip, cost_flip}
use Rattle.routes.proofs.Zoned.{free_steady}
use Rattle.routes.proofs.Enough.{first_terminal, second_terminal, wire_zones_lined, via_zones_lined}

neighbour_line : (qs : List ℕ) (a b : ℕ) → T (neighbours qs a b) → T (mem b qs)
neighbour_line qs a b h = right (mem a qs) (mem b qs) (left _ _ h)

-- what goes from line to line along both axes is on the lines
on_lines_from_walks : (X Y : List ℕ) (p : Point) (r : List Move) → T (mem p.x X) → T (mem p.y Y)
    → T (walks X p.x (xs r)) → T (walks Y p.y (ys r))
    → T (every (line_move X Y) p r)
on_lines_from_walks X Y p [] on_x on_y wx wy = tt
on_lines_from_walks X Y p (along_x x ∷ r) on_x on_y wx wy =
    let next = left _ _ wx in
    more_moves (line_move X Y) p (along_x x) r (both _ _ next on_y)
    (on_lines_from_walks X Y (after p (along_x x)) r (neighbour_line X p.x x next) on_y (right _ _ wx) wy)
on_lines_from_walks X Y p (along_y y ∷ r) on_x on_y wx wy =
    let next = left _ _ wy in
    more_moves (line_move X Y) p (along_y y) r (both _ _ next on_x)
    (on_lines_from_walks X Y (after p (along_y y)) r on_x (neighbour_line Y p.y y next) wx (right _ _ wy))
on_lines_from_walks X Y p (to_layer l ∷ r) on_x on_y wx wy =
    more_moves (line_move X Y) p (to_layer l) r (both _ _ on_x on_y)
    (on_lines_from_walks X Y (after p (to_layer l)) r on_x on_y wx wy)

-- a route in place of r that goes from line to line along x
abbrev WalksX : {M : Type 0} → Tariff M → (M → M → Type 0) → Rules → List ℕ → Point → List Move → Type 0
WalksX tf leq R X p r = (r' : List Move) × Improves tf leq R p r r' × T (walks X p.x (xs r'))

onto_lines_x : {M : Type 0} (tf : Tariff M) {leq : M → M → Type 0} → Ordered tf.sums leq → (R : Rules) (qs : List ℕ)
    → Steady qs R.width R.wire → Steady qs R.width R.via → (p : Point) → p.x ≤ R.width → T (mem p.x qs)
    → (r : List Move) → T (mem (end p r).x qs) → T (lawful R p r) → WalksX tf leq R qs p r
onto_lines_x tf {leq} laws R qs wires vias p fits starts r ends ok =
    let s = snap_x tf laws R qs wires vias p fits starts r ends ok in
    let i = s.1 in
    let t = refine_x tf laws R qs wires p s.0 fits starts s.2 i.is_lawful in (
      t.route,
      record {
        is_lawful = t.is_lawful;
        same_end = t.same_end ∙ i.same_end;
        same_ys = t.same_ys ∙ i.same_ys;
        no_dearer = subst (λ a. leq a (cost tf p r)) (sym t.same_cost) i.no_dearer;
      },
      t.walk,
    )

-- a route in place of r that goes from line to line along both axes
record Walks {M : Type 0} (tf : Tariff M) (leq : M → M → Type 0) (R : Rules) (X Y : List ℕ) (p : Point)
    (r : List Move) : Type 0 where
  route : List Move
  is_lawful : T (lawful R p route)
  same_end : end p route ≡ end p r
  no_dearer : leq (cost tf p route) (cost tf p r)
  walk_x : T (walks X p.x (xs route))
  walk_y : T (walks Y p.y (ys route))

-- first along x, then along y as along x with the axes exchanged
both_axes : {M : Type 0} (tf : Tariff M) {leq : M → M → Type 0} → Ordered tf.sums leq
    → (R : Rules) (X Y : List ℕ) (p : Point) (r : List Move)
    → WalksX tf leq R X p r
    → ((r' : List Move) → T (lawful R p r') → end p r' ≡ end p r → WalksX (flip_tariff tf) leq (flip_rules R) Y (flip_point
    p) (flip r'))
    → Walks tf leq R X Y p r
both_axes tf {leq} laws R X Y p r along-first then-second =
    let r₁ = along-first.0 in
    let i₁ = along-first.1 in
    let second = then-second r₁ i₁.is_lawful i₁.same_end in
    let r₂ = second.0 in
    let i₂ = second.1 in
    let cheaper : leq (cost tf p (flip r₂)) (cost tf p r₁) =
    subst (leq (cost tf p (flip r₂))) (cost_flip tf p r₁)
    (subst (λ a. leq a (cost (flip_tariff tf) (flip_point p) (flip r₁))) (sym (cost_flip (flip_tariff tf) (flip_point p) r₂))
    i₂.no_dearer) in
    record {
      route = flip r₂;
      is_lawful = lawful_flip (flip_rules R) (flip_point p) r₂ i₂.is_lawful;
      same_end = end_flip (flip_point p) r₂ ∙ ap flip_point (i₂.same_end ∙ end_flip p r₁) ∙ i₁.same_end;
      no_dearer = laws.trans cheaper i₁.no_dearer;
      walk_x = subst (λ ts. T (walks X p.x ts)) (sym (xs_flip r₂ ∙ i₂.same_ys ∙ ys_flip r₁)) along-first.2;
      walk_y = subst (λ ts. T (walks Y p.y ts)) (sym (ys_flip r₂)) second.2;
    }

pub lines_suffice : {M : Type 0} (sums : Sums M) → Laws sums → LinesSuffice sums
lines_suffice sums laws prices width height layers c net pieces s t X Y enough r path =
    let R = rules_of width height layers c net pieces in
    let tf = at_prices sums prices in
    let on_x = left _ _ enough in
    let on_y = right _ _ enough in
    let sx = first_terminal (axis_of AxisX) width c net pieces s.x t.x X on_x in
    let tx = second_terminal (axis_of AxisX) width c net pieces s.x t.x X on_x in
    let sy = first_terminal (axis_of AxisY) height c net pieces s.y t.y Y on_y in
    let ty = second_terminal (axis_of AxisY) height c net pieces s.y t.y Y on_y in
    let w = both_axes tf (ordered laws) R X Y s r
    (onto_lines_x tf (ordered laws) R X
    (free_steady AxisX X width net c.half c.space pieces (wire_zones_lined (axis_of AxisX) width c net pieces s.x t.x X on_x))
    (free_steady AxisX X width net c.pad c.space pieces (via_zones_lined (axis_of AxisX) width c net pieces s.x t.x X on_x))
    s (x_inside R s path.starts) sx r (subst (λ o. T (mem o.x X)) (sym path.ends) tx) path.is_lawful)
    (λ r' ok' ends'. onto_lines_x (flip_tariff tf) (ordered laws) (flip_rules R) Y
    (free_steady AxisY Y height net c.half c.space pieces
    (wire_zones_lined (axis_of AxisY) height c net pieces s.y t.y Y on_y))
    (free_steady AxisY Y height net c.pad c.space pieces (via_zones_lined (axis_of AxisY) height c net pieces s.y t.y Y on_y))
    (flip_point s) (y_inside R s path.starts) sy (flip r')
    (subst (λ o. T (mem o.x Y)) (sym (end_flip s r' ∙ ap flip_point (ends' ∙ path.ends))) ty)
    (lawful_flip R s r' ok')) in (
      w.route,
      record {
        starts = path.starts;
        on_lines = on_lines_from_walks X Y s w.route sx sy w.walk_x w.walk_y;
        is_lawful = w.is_lawful;
        ends = w.same_end ∙ path.ends;
      },
      w.no_dearer,
    )

pub least_on_lines_is_least : {M : Type 0} (sums : Sums M) → Laws sums → LeastOnLinesIsLeast sums
least_on_lines_is_least sums laws prices width height layers c net pieces s t X Y enough m least r path =
    let better = lines_suffice sums laws prices width height layers c net pieces s t X Y enough r path in
    laws.trans m (cost (at_prices sums prices) s better.0) (cost (at_prices sums prices) s r)
    (least better.0 better.1) better.2

pub no_line_route_no_path : NoLineRouteNoPath
no_line_route_no_path width height layers c net pieces s t X Y enough none r path =
    let found = lines_suffice no_tariff.sums no_tariff_laws no_tariff.prices width height layers c net pieces s t X Y
    enough r path in
    none found.0 found.1
