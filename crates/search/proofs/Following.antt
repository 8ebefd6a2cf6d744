-- The routes of a grid as a graph are the lawful routes along its lines. Assumes nothing.
use Rattle.std.proofs.Common.{◌≡◌, ℕ, ◌+◌, ◌<◌, ◌≤◌, T, List, [], ◌∷◌, map, get_or, Some, sym, refl, ap, ◌∙◌, subst, arith, le→leb}
use Rattle.std.specs.Option.{option_map}
use Rattle.std.specs.List.{AllByRecursion}
use Rattle.std.proofs.lemmas.Float.{T_from_true}
use Rattle.costs.specs.Amounts.{Sums, Prices, Tariff, tariff}
use Rattle.frontier.specs.Routes.{Search, search_from, Route, Move as Hop}
use Rattle.geometry.specs.declared.piece.Piece.{Piece}
use Rattle.geometry.specs.declared.point.Point.{Point}
use Rattle.queue.specs.Distinct.{Climbs}
use Rattle.routes.specs.Lines.{line_move}
use Rattle.routes.specs.Routes.{Move, after, end, every, Rules, inside, on_free_ground, lawful_move, lawful, price, cost}
use Rattle.routes.specs.Turns.{stops}
use Rattle.routes.proofs.Bools.{left, right, both}
use Rattle.search.specs.declared.grid.Grid.{Grid}
use Rattle.search.specs.declared.nodes.Way.{Way}
use Rattle.search.specs.declared.nodes.Way.TheVariants.{Left, Right, Down, Up, Below, Above}
use Rattle.search.specs.Grids.{grid_point, grid_rules, grid_shape, grid_price, join, joins_from}
use Rattle.search.specs.Lattices.{T_true, crossing_on, crossing_back, node_back, node_inside, beside_on, next_says}
use Rattle.search.specs.Nodes.{node_total, node_at, crossing_at, way_of, ahead}
use Rattle.search.proofs.Adjacent.{same_place}
use Rattle.search.proofs.Points.{place}
use Rattle.search.proofs.Stepping.{Joined, beside_joined, move_steps}

number : Way → ℕ
number Left = 0
number Right = 1
number Down = 2
number Up = 3
number Below = 4
number Above = 5

number_six : (w : Way) → number w < 6
unfolding number
number_six Left = omega arith
number_six Right = omega arith
number_six Down = omega arith
number_six Up = omega arith
number_six Below = omega arith
number_six Above = omega arith

number_way : (w : Way) → way_of (number w) ≡ Some w
unfolding number
number_way Left = refl
number_way Right = refl
number_way Down = refl
number_way Up = refl
number_way Below = refl
number_way Above = refl

-- a grid whose lines ascend and lie on the panel
pub record Ruled {K P : Type 0} (g : Grid K P) : Type 0 where
  pub Xs : Climbs g.xs.now
  pub Ys : Climbs g.ys.now
  pub right : (i : ℕ) → get_or g.xs.now i 0 ≤ g.request.size.width
  pub top : (i : ℕ) → get_or g.ys.now i 0 ≤ g.request.size.height

-- one node lies at a point
pub same_node : {K P : Type 0} (g : Grid K P) → Ruled g → (u w : ℕ) → u < node_total g.lattice → w < node_total g.lattice
    → grid_point g u ≡ grid_point g w → u ≡ w
same_node g ruled u w h k e =
    let l = g.lattice in
    let c = crossing_at l u in
    let d = crossing_at l w in
    let o = crossing_on l u h in
    let o' = crossing_on l w k in
    let column : c.column ≡ d.column =
    same_place g.xs.now ruled.Xs c.column d.column (omega (arith, o.column, g.columns))
    (omega (arith, o'.column, g.columns)) (ap (λ p. p.x) e) in
    let row : c.row ≡ d.row =
    same_place g.ys.now ruled.Ys c.row d.row (omega (arith, o.row, g.rows)) (omega (arith, o'.row, g.rows))
    (ap (λ p. p.y) e) in
    let level : c.level ≡ d.level = omega (arith, ap (λ p. p.layer) e) in
    let same : c ≡ d = λ i. record { column = column i; row = row i; level = level i } in
    sym (node_back l u) ∙ (ap (node_at l) same ∙ node_back l w)

module _ {K P C M : Type 0} (g : Grid K P) (ruled : Ruled g) (pieces : List Piece) (prices : Prices C) (sums : Sums M)
    (means : C → M) (from : ℕ) where
  abbrev pub S : Search M
  S = search_from sums (grid_shape pieces g) (grid_price prices sums means g) from

  abbrev pub R : Rules
  R = grid_rules pieces g

  abbrev pub tf : Tariff M
  tf = tariff sums means prices

  abbrev X : List ℕ
  X = g.xs.now

  abbrev Y : List ℕ
  Y = g.ys.now

  abbrev pt : ℕ → Point
  pt = grid_point g

  pub point_inside : (u : ℕ) → u < node_total g.lattice → T (inside R (pt u))
  point_inside u h =
      let o = crossing_on g.lattice u h in
      let c = crossing_at g.lattice u in
      both _ _ (both _ _ (le→leb 1 (c.level + 1) (omega arith)) (le→leb (c.level + 1) g.lattice.layers (omega (arith, o.level))))
      (both _ _ (le→leb (pt u).x g.request.size.width (ruled.right c.column)) (le→leb (pt u).y g.request.size.height (ruled.top c.row)))

  -- a hop from node to node is a lawful move along the lines

  record Hopped (u w : ℕ) (c : M) : Type 0 where
    stays : w < node_total g.lattice
    line : T (line_move X Y (pt u) (join (pt u) (pt w)))
    allowed : T (lawful_move R (pt u) (join (pt u) (pt w)))
    arrives : after (pt u) (join (pt u) (pt w)) ≡ pt w
    costs : price tf (pt u) (join (pt u) (pt w)) ≡ c

  hopped : (u w : ℕ) (c : M) → u < node_total g.lattice → Hop S u w c → Hopped u w c
  hopped u w c h hop =
      let l = g.lattice in
      let s = next_says l u hop.way w h hop.next in
      let d = s.1 in
      let o = crossing_on l u h in
      let on = beside_on l s.0 (crossing_at l u) d o s.3 in
      let stays : w < node_total l = subst (λ n. n < node_total l) (sym s.4) (node_inside l d on) in
      let back : crossing_at l w ≡ d = ap (crossing_at l) s.4 ∙ crossing_back l d on in
      let j : Joined X Y (pt u) (pt w) = subst (λ v. Joined X Y (pt u) (place X Y v)) (sym back)
      (beside_joined l X Y g.columns g.rows ruled.Xs ruled.Ys s.0 (crossing_at l u) d o s.3) in
      record {
        stays = stays;
        line = j.on_lines;
        allowed = both (inside R (after (pt u) (join (pt u) (pt w)))) (on_free_ground R (pt u) (join (pt u) (pt w)))
            (subst (λ v. T (inside R v)) (sym j.arrives) (point_inside w stays)) (T_from_true _ hop.free);
        arrives = j.arrives;
        costs = hop.costs;
      }

  pub record Followed (u : ℕ) (nodes : List ℕ) (t : ℕ) (a : M) : Type 0 where
    pub moves : List Move
    pub on_lines : T (every (line_move X Y) (pt u) moves)
    pub is_lawful : T (lawful R (pt u) moves)
    pub ends : end (pt u) moves ≡ pt t
    pub costs : cost tf (pt u) moves ≡ a
    pub visits : stops (pt u) moves ≡ map pt nodes
    pub are : moves ≡ joins_from (pt u) (map pt nodes)
    pub stay : AllByRecursion (λ v. v < node_total g.lattice) nodes

  pub follow : (u : ℕ) (nodes : List ℕ) (t : ℕ) (a : M) → u < node_total g.lattice → Route S u nodes t a → Followed u nodes t a
  follow u [] t a h r = record { moves = []; on_lines = tt; is_lawful = tt; ends = ap pt r.0; costs = sym r.1; visits = refl; are = refl; stay = tt }
  follow u (v ∷ nodes) t a h r =
      let hop = hopped u v r.0 h r.1 in
      let b = r.2 in
      let rest = follow v nodes t b hop.stays r.3 in
      let m = join (pt u) (pt v) in
      let there = sym hop.arrives in
      record {
        moves = m ∷ rest.moves;
        on_lines = both (line_move X Y (pt u) m) _ hop.line (subst (λ p. T (every (line_move X Y) p rest.moves)) there rest.on_lines);
        is_lawful = both (lawful_move R (pt u) m) _ hop.allowed (subst (λ p. T (lawful R p rest.moves)) there rest.is_lawful);
        ends = ap (λ p. end p rest.moves) hop.arrives ∙ rest.ends;
        costs =
            ap (λ c. sums.plus c (cost tf (after (pt u) m) rest.moves)) hop.costs
            ∙ (ap (λ p. sums.plus r.0 (cost tf p rest.moves)) hop.arrives
            ∙ (ap (sums.plus r.0) rest.costs ∙ sym r.4));
        visits =
            ap (λ p. p ∷ stops p rest.moves) hop.arrives ∙ ap (λ ps. pt v ∷ ps) rest.visits;
        are = ap (λ ms. m ∷ ms) rest.are;
        stay = (hop.stays, rest.stay);
      }

  -- a lawful move along the lines is a hop

  record Reached (u : ℕ) (m : Move) : Type 0 where
    to : ℕ
    stays : to < node_total g.lattice
    arrives : after (pt u) m ≡ pt to
    hop : Hop S u to (price tf (pt u) m)

  reached : (u : ℕ) (m : Move) → u < node_total g.lattice → T (line_move X Y (pt u) m) → T (lawful_move R (pt u) m) → Reached u m
  reached u m h line allowed =
      let l = g.lattice in
      let o = crossing_on l u h in
      let s = move_steps l X Y g.columns g.rows ruled.Xs ruled.Ys R refl (crossing_at l u) m o line allowed in
      let on = beside_on l s.way (crossing_at l u) s.to o s.found in
      let w = node_at l s.to in
      let here : pt w ≡ place X Y s.to = ap (place X Y) (crossing_back l s.to on) in
      let joins : join (pt u) (pt w) ≡ m = ap (join (pt u)) here ∙ s.joins in
      record {
        to = w;
        stays = node_inside l s.to on;
        arrives = sym (here ∙ s.arrives);
        hop = record {
          way = number s.way;
          six = number_six s.way;
          next = ap (ahead l u) (number_way s.way) ∙ ap (option_map (node_at l)) (sym s.found);
          free =
              ap (on_free_ground R (pt u)) joins
              ∙ T_true _ (right (inside R (after (pt u) m)) (on_free_ground R (pt u) m) allowed);
          costs = ap (price tf (pt u)) joins;
        };
      }

  pub record TracedBack (u : ℕ) (r : List Move) : Type 0 where
    pub nodes : List ℕ
    pub to : ℕ
    pub stays : to < node_total g.lattice
    pub ends : end (pt u) r ≡ pt to
    pub route : Route S u nodes to (cost tf (pt u) r)

  pub trace_back : (u : ℕ) (r : List Move) → u < node_total g.lattice → T (every (line_move X Y) (pt u) r) → T (lawful R (pt u) r)
      → TracedBack u r
  trace_back u [] h line allowed = record { nodes = []; to = u; stays = h; ends = refl; route = (refl, refl) }
  trace_back u (m ∷ r) h line allowed =
      let one = reached u m h (left (line_move X Y (pt u) m) _ line) (left (lawful_move R (pt u) m) _ allowed) in
      let v = one.to in
      let rest = trace_back v r one.stays
      (subst (λ p. T (every (line_move X Y) p r)) one.arrives (right (line_move X Y (pt u) m) _ line))
      (subst (λ p. T (lawful R p r)) one.arrives (right (lawful_move R (pt u) m) _ allowed)) in
      record {
        nodes = v ∷ rest.nodes;
        to = rest.to;
        stays = rest.stays;
        ends = ap (λ p. end p r) one.arrives ∙ rest.ends;
        route =
            (price tf (pt u) m, one.hop, cost tf (pt v) r, rest.route, ap (λ p. sums.plus (price tf (pt u) m) (cost tf p r)) one.arrives);
      }
