-- The least cost along the lines of a request is the least cost of its paths. Assumes nothing.
use Rattle.std.proofs.Common.{◌≡◌, ℕ, ◌*◌, ◌<◌, ◌≤◌, ◌||◌, false, ◌&&◌, T, eqb, leb, List, [], ◌∷◌, map, reverse, length, get_or, Some, None, Ok, Err, Option, Result, MatchOption, MatchResult, IfSome, sym, refl, ap, ◌∙◌, subst, inl, inr, arith, leb→le}
use lib.Dec.{eqb_refl}
use Rattle.std.specs.List.{IsDistinct}
use Rattle.std.specs.Result.{is_err, IsErrAnd}
use Rattle.std.proofs.lemmas.Bool.{cases_lt, lt-leb}
use Rattle.std.proofs.Math.ListN.{get_or-eq_default}
use Rattle.costs.specs.Amounts.{Sums, Laws, Prices, Tariff, tariff}
use Rattle.frontier.specs.declared.note.Note.{Note}
use Rattle.frontier.specs.declared.find.Unfit.{Unfit}
use Rattle.frontier.specs.Findings.{unfit, Answer, Leaves}
use Rattle.frontier.specs.Held.{marks, Traced}
use Rattle.frontier.proofs.Trails.{turned, trail_route}
use Rattle.frontier.specs.Routes.{Search, Route, LeastCost, HasNoRoute}
use Rattle.geometry.specs.declared.piece.Piece.{Piece}
use Rattle.geometry.specs.declared.point.Point.{Point}
use Rattle.geometry.specs.Lists.{all_of, mem}
use Rattle.geometry.specs.Axes.{axis_of, coordinate_of}
use Rattle.geometry.specs.Sizes.{has}
use Rattle.geometry.specs.Ranges.{ranges}
use Rattle.routes.specs.Lines.{enough_lines, among, LineRoute, LinePath}
use Rattle.routes.specs.Turns.{none_twice}
use Rattle.routes.specs.Rules.{rules_of}
use Rattle.routes.specs.Routes.{Move, Rules, cost, NoneCheaper, HasNoPath}
use Rattle.routes.proofs.Bools.{left, right, both, first, second}
use Rattle.routes.proofs.Few.{lines_lie_on_the_panel}
use Rattle.routes.proofs.Listed.{all_of_from, mem_in, mem_distinct}
use Rattle.routes.proofs.Paths.{line_routes_are_unit_routes}
use Rattle.routes.proofs.Suffice.{least_on_lines_is_least, no_line_route_no_path}
use Rattle.search.specs.declared.grid.Grid.{Grid}
use Rattle.geometry.specs.declared.axis.Axis.{Axis}
use Rattle.geometry.specs.declared.axis.Axis.TheVariants.{X, Y}
use Rattle.search.specs.declared.request.Extent.{Extent}
use Rattle.search.specs.declared.request.Refusal.{Refusal}
use Rattle.search.specs.declared.request.Refusal.TheVariants.{ShortNodes}
use Rattle.search.specs.declared.request.Request.{Request}
use Rattle.search.specs.Axes.{extent_coordinates, extent_lines}
use Rattle.search.specs.Located.{NodeOf, NoNode}
use Rattle.search.specs.Grids.{grid_point, grid_rules, joins}
use Rattle.search.specs.Nodes.{node_total}
use Rattle.search.specs.Requests.{proper, sized, side, extent, request_rules, request_lines, request_nodes, nodes_short}
use Rattle.search.specs.Told.{GridOf, LeastPath, Led, ToldPath, LedBack}
use Rattle.search.proofs.Adjacent.{all_mem}
use Rattle.search.proofs.Counting.{place_mem}
use Rattle.search.proofs.Leading.{turned_apart, trail_turned, points_apart}
use Rattle.search.proofs.Following.{Ruled, S, point_inside, same_node, Followed, follow, trace_back}

-- lines lie where those of the request lie

pub lines_below : (ls found : List ℕ) (size : ℕ) → ((v : ℕ) → mem v found ≡ mem v ls) → T (all_of (λ n. leb n size) ls)
    → (i : ℕ) → get_or found i 0 ≤ size
lines_below ls found size same on i = elim (cases_lt i (length found)) [
  | inl h ↦
      let v = get_or found i 0 in
      leb→le v size (all_mem (λ n. leb n size) ls v on (subst T (same v) (place_mem v found i h refl)))
  | inr h ↦ omega (arith, get_or-eq_default found 0 h)
]

all_among : (ls found : List ℕ) → ((v : ℕ) → mem v found ≡ mem v ls) → T (among ls found)
all_among ls found same = all_of_from (λ n. mem n found) ls (λ n i. subst T (sym (same n)) (mem_in n ls i))

module _ (q : Request) (is_proper : T (proper q)) where
  first_on : T (has q.size q.first)
  first_on = left (has q.size q.first) (has q.size q.second) (right (sized q) _ is_proper)

  second_on : T (has q.size q.second)
  second_on = right (has q.size q.first) (has q.size q.second) (right (sized q) _ is_proper)

  -- a coordinate of a point of the panel
  inside_of : (a : Axis) (p : Point) → T (has q.size p) → coordinate_of a p ≤ side a q.size
  inside_of X p h = leb→le p.x q.size.width (left (leb p.x q.size.width) (leb p.y q.size.height) (right (ranges 1 q.size.layers p.layer) _ h))
  inside_of Y p h = leb→le p.y q.size.height (right (leb p.x q.size.width) (leb p.y q.size.height) (right (ranges 1 q.size.layers p.layer) _ h))

  pub lines_on : (a : Axis) (ps : List Piece) → T (all_of (λ n. leb n (side a q.size)) (request_lines q a ps))
  lines_on a ps = lines_lie_on_the_panel (axis_of a) (side a q.size) q.class q.net ps (coordinate_of a q.first) (coordinate_of a q.second)
      (inside_of a q.first first_on) (inside_of a q.second second_on)

-- the lines of a request's grid ascend and lie on the panel
pub ruled_grid : {K P : Type 0} (ps : List Piece) (g : Grid K P) → T (proper g.request) → GridOf ps g → Ruled g
ruled_grid ps g is_proper of = record {
  Xs = of.across.climbs;
  Ys = of.upright.climbs;
  right = lines_below (request_lines g.request X ps) g.xs.now g.request.size.width of.across.same (lines_on g.request is_proper X ps);
  top = lines_below (request_lines g.request Y ps) g.ys.now g.request.size.height of.upright.same (lines_on g.request is_proper Y ps);
}

-- a search between two nodes is refused only for short lists
unfit_nodes : (size from to j k : ℕ) → from < size → to < size → unfit size from to j k ≡ nodes_short size j k
unfit_nodes size from to j k h h' =
    ap (λ b. b || (leb size to || nodes_short size j k)) (lt-leb size from h) ∙ ap (λ b. b || nodes_short size j k) (lt-leb size to h')

-- the nodes of a grid are those of the request
pub total_request : {K P : Type 0} (ps : List Piece) (g : Grid K P) → GridOf ps g → node_total g.lattice ≡ request_nodes g.request ps
total_request ps g of =
    let x = request_lines g.request X ps in
    let y = request_lines g.request Y ps in
    ap (λ n. n * g.lattice.rows * g.lattice.layers) (g.columns ∙ of.across.number)
    ∙ (ap (λ n. length x * n * g.lattice.layers) (g.rows ∙ of.upright.number) ∙ ap (λ n. length x * length y * n) of.layers_is)

module _ {K P C M : Type 0} (ps : List Piece) (g : Grid K P) (is_proper : T (proper g.request)) (of : GridOf ps g)
    (prices : Prices C) (sums : Sums M) (laws : Laws sums) (means : C → M) (from to : ℕ)
    (from_at : NodeOf g g.request.first from) (to_at : NodeOf g g.request.second to) where
  abbrev q : Request
  q = g.request

  abbrev tf : Tariff M
  tf = tariff sums means prices

  abbrev R : Rules
  R = grid_rules ps g

  abbrev X' : List ℕ
  X' = g.xs.now

  abbrev Y' : List ℕ
  Y' = g.ys.now

  abbrev s : Point
  s = grid_point g from

  abbrev t : Point
  t = grid_point g to

  abbrev pub ruled : Ruled g
  ruled = ruled_grid ps g is_proper of

  -- the graph, from the first terminal
  abbrev graph : Search M
  graph = S g ruled ps prices sums means from

  -- the rules of the grid are those of the request
  rules_same : R ≡ request_rules q ps
  rules_same = λ i. rules_of q.size.width q.size.height (of.layers_is i) q.class q.net ps

  enough : T (enough_lines q.size.width q.size.height q.class q.net ps q.first q.second X' Y')
  enough = both _ _ (all_among (request_lines q X ps) X' of.across.same) (all_among (request_lines q Y ps) Y' of.upright.same)

  enough_here : T (enough_lines q.size.width q.size.height q.class q.net ps s t X' Y')
  enough_here = subst T (λ i. enough_lines q.size.width q.size.height q.class q.net ps (sym from_at.is i) (sym to_at.is i) X' Y') enough

  line_route : (nodes : List ℕ) (a : M) → (f : Followed g ruled ps prices sums means from from nodes to a)
      → LineRoute R X' Y' s t f.moves
  line_route nodes a f = record {
    starts = point_inside g ruled ps prices sums means from from from_at.inside;
    on_lines = f.on_lines;
    is_lawful = f.is_lawful;
    ends = f.ends;
  }

  -- every lawful route along the lines is a route of the graph
  as_route : (r : List Move) → LineRoute R X' Y' s t r → (nodes : List ℕ) × Route graph from nodes to (cost tf s r)
  as_route r line =
      let b = trace_back g ruled ps prices sums means from from r from_at.inside line.on_lines line.is_lawful in
      let there : b.to ≡ to = same_node g ruled b.to to b.stays to_at.inside (sym b.ends ∙ line.ends) in
      (b.nodes, subst (λ w. Route graph from b.nodes w (cost tf s r)) there b.route)

  least_here : (a : M) → LeastCost graph to a → LeastPath tf R s t a
  least_here a l =
      let f = follow g ruled ps prices sums means from from l.nodes to a from_at.inside l.route in
      let u = line_routes_are_unit_routes sums laws tf.prices q.size.width q.size.height g.lattice.layers q.class q.net ps s t X' Y'
      f.moves (line_route l.nodes a f) in
      record {
        moves = u.0;
        path = u.1;
        costs = u.2 ∙ f.costs;
        least = least_on_lines_is_least sums laws tf.prices q.size.width q.size.height g.lattice.layers q.class q.net ps s t X' Y'
            enough_here a (λ r line. let n = as_route r line in l.lowest n.0 (cost tf s r) n.1);
      }

  pub least_path : (a : M) → LeastCost graph to a → LeastPath tf (request_rules q ps) q.first q.second a
  least_path a l = subst (λ v. v) (λ i. LeastPath tf (rules_same i) (from_at.is i) (to_at.is i) a) (least_here a l)

  no_path_here : HasNoRoute graph to → HasNoPath R s t
  no_path_here none =
      no_line_route_no_path q.size.width q.size.height g.lattice.layers q.class q.net ps s t X' Y' enough_here
      (λ r line. let n = as_route r line in none n.0 (cost tf s r) n.1)

  pub no_path : HasNoRoute graph to → HasNoPath (request_rules q ps) q.first q.second
  no_path none = subst (λ v. v) (λ i. HasNoPath (rules_same i) (from_at.is i) (to_at.is i)) (no_path_here none)

  -- the notes lead back along a least-cost path
  pub led : (notes : List (Note C)) (a : M) → LeastCost graph to a → Traced graph means notes to a → Led tf ps g notes a from to
  led notes a least traced =
      let f = marks means notes in
      let back = traced.back in
      let nodes = turned to back [] in
      let all = reverse (to ∷ back) in
      let turn : all ≡ from ∷ nodes = trail_turned graph f back to a [] traced.trail in
      let way = follow g ruled ps prices sums means from from nodes to a from_at.inside (trail_route graph laws f back to a traced.trail) in
      let are : way.moves ≡ joins (map (grid_point g) all) = way.are ∙ ap (λ ns. joins (map (grid_point g) ns)) (sym turn) in
      let apart = subst (IsDistinct eqb) turn (turned_apart graph f back to a traced.trail) in
      let once : T (none_twice (map (grid_point g) (from ∷ nodes))) =
      points_apart (grid_point g) (node_total g.lattice) (same_node g ruled) (from ∷ nodes) (from_at.inside, way.stay) apart in
      let path : LinePath tf R X' Y' s t way.moves = record {
        route = line_route nodes a way;
        simple = subst (λ ps. T (none_twice (s ∷ ps))) (sym way.visits) once;
        least = subst (λ m. NoneCheaper R tf s t m) (sym way.costs) (least_here a least).least;
      } in
      record {
        back = back;
        leads = traced.leads;
        few = traced.few;
        path = subst (λ ms. LinePath tf (request_rules q ps) X' Y' q.first q.second ms) are
            (subst (λ v. v) (λ i. LinePath tf (rules_same i) X' Y' (from_at.is i) (to_at.is i) way.moves) path);
        costs = subst (λ ms. cost tf q.first ms ≡ a) are (subst (λ p. cost tf p way.moves ≡ a) from_at.is way.costs);
      }

  -- what a search answers is told of the request
  told_path : (j k : ℕ) → nodes_short (node_total g.lattice) j k ≡ false → (r : Option C)
      → MatchOption r (HasNoRoute graph to) (λ a. LeastCost graph to (means a)) → ToldPath tf means q ps j k (Ok r)
  told_path j k long None none = (ap (λ n. nodes_short n j k) (sym (total_request ps g of)) ∙ long, no_path none)
  told_path j k long (Some a) least = (ap (λ n. nodes_short n j k) (sym (total_request ps g of)) ∙ long, least_path (means a) least)

  -- from whatever number the first terminal's node has to that of the second's
  led_back : (notes : List (Note C)) (r : Option C) → MatchOption r (HasNoRoute graph to) (λ a. LeastCost graph to (means a))
      → IfSome r (λ a. Traced graph means notes to (means a)) → LedBack tf means ps g notes (Ok r)
  led_back notes None none traced = tt
  led_back notes (Some a) least traced = λ u w u_at w_at.
      let from_is : from ≡ u = same_node g ruled from u from_at.inside u_at.inside (from_at.is ∙ sym u_at.is) in
      let to_is : to ≡ w = same_node g ruled to w to_at.inside w_at.inside (to_at.is ∙ sym w_at.is) in
      subst (λ v. v) (λ i. Led tf ps g notes (means a) (from_is i) (to_is i)) (led notes (means a) least traced)

  -- the same, where a refusal names how many nodes there are
  pub told_search : (j k : ℕ) (notes : List (Note C)) (r : Result (Option C) Unfit) (s : Result (Option C) Refusal)
      (P : Unfit → Refusal → Type 0) → is_err r ≡ unfit (node_total g.lattice) from to j k → Answer graph means to r
      → Leaves graph means to notes r → MatchResult r (λ o. s ≡ Ok o) (λ e. IsErrAnd s (P e))
      → ((e : Unfit) (f : Refusal) → P e f → f ≡ ShortNodes (node_total g.lattice))
      → ToldPath tf means q ps j k s × LedBack tf means ps g notes s
  told_search j k notes (Ok o) s P refused answer traced same name =
      let long : nodes_short (node_total g.lattice) j k ≡ false = sym (unfit_nodes _ _ _ _ _ from_at.inside to_at.inside) ∙ sym refused in
      subst (λ v. ToldPath tf means q ps j k v × LedBack tf means ps g notes v) (sym same)
      (told_path j k long o answer, led_back notes o answer traced)
  told_search j k notes (Err e) (Ok o) P refused answer traced same name = absurd same
  told_search j k notes (Err e) (Err f) P refused answer traced same name =
      subst (λ v. ToldPath tf means q ps j k (Err v) × LedBack tf means ps g notes (Err v)) (sym (name e f same))
      ((total_request ps g of, sym (unfit_nodes _ _ _ _ _ from_at.inside to_at.inside) ∙ sym refused), tt)

-- both terminals are nodes
module _ {K P : Type 0} (ps : List Piece) (g : Grid K P) (is_proper : T (proper g.request)) (of : GridOf ps g) where
  found_at : (p : Point) → T (has g.request.size p) → T (mem p.x (request_lines g.request X ps))
      → T (mem p.y (request_lines g.request Y ps)) → NoNode g p → ⊥
  found_at p on x y none =
      let deepest = g.request.size.layers in
      let deep = left (ranges 1 deepest p.layer) (leb p.x g.request.size.width && leb p.y g.request.size.height) on in
      none (subst T (sym (of.across.same p.x)) x) (subst T (sym (of.upright.same p.y)) y)
      (leb→le 1 p.layer (left (leb 1 p.layer) (leb p.layer deepest) deep))
      (subst (λ n. p.layer ≤ n) (sym of.layers_is) (leb→le p.layer deepest (right (leb 1 p.layer) (leb p.layer deepest) deep)))

  first_line : (e : Extent) → T (mem e.first (extent_lines e ps))
  first_line e = mem_distinct e.first (extent_coordinates e ps) (first (eqb e.first e.first) _ (eqb_refl e.first))

  second_line : (e : Extent) → T (mem e.second (extent_lines e ps))
  second_line e = mem_distinct e.second (extent_coordinates e ps)
      (second (eqb e.second e.first) _ (first (eqb e.second e.second) _ (eqb_refl e.second)))

  pub first_found : NoNode g g.request.first → ⊥
  first_found = found_at g.request.first (first_on g.request is_proper) (first_line (extent g.request X)) (first_line (extent g.request Y))

  pub second_found : NoNode g g.request.second → ⊥
  second_found = found_at g.request.second (second_on g.request is_proper) (second_line (extent g.request X)) (second_line (extent g.request Y))
