-- A step from a crossing to a neighbour is a move along the lines, and each such move is a step. Assumes nothing.
use Rattle.std.proofs.Common.{◌≡◌, ℕ, ◌+◌, ◌-◌, ◌≤◌, Bool, true, cond, not, ◌&&◌, T, eqb, ltb, leb, List, length, get_or, Some, None, sym, refl, ap, ◌∙◌, subst, inl, inr, arith, eqb→eq, leb→le, lt-ltb}
use lib.Dec.{eqb_refl}
use Rattle.std.proofs.lemmas.Bool.{cases_order}
use Rattle.geometry.specs.declared.point.Point.{Point}
use Rattle.geometry.specs.Lists.{mem}
use Rattle.geometry.specs.Ranges.{ranges}
use Rattle.queue.specs.Distinct.{Climbs}
use Rattle.routes.specs.Lines.{neighbours, none_between, line_move}
use Rattle.routes.specs.Routes.{Move, along_x, along_y, to_layer, after, gap, Rules, inside, on_free_ground, lawful_move}
use Rattle.routes.proofs.Bools.{left, right, both, refuted}
use Rattle.search.specs.declared.lattice.Lattice.{Lattice}
use Rattle.search.specs.declared.nodes.Crossing.{Crossing}
use Rattle.search.specs.declared.nodes.Way.{Way}
use Rattle.search.specs.declared.nodes.Way.TheVariants.{Left, Right, Down, Up, Below, Above}
use Rattle.search.specs.Grids.{join}
use Rattle.search.specs.Lattices.{On, beside_moved}
use Rattle.search.specs.Nodes.{beside, in_column, in_row, on_level}
use Rattle.search.proofs.Adjacent.{next_to, adjacent}
use Rattle.search.proofs.Counting.{place_mem}
use Rattle.search.proofs.Joins.{join_x, join_y, join_via}
use Rattle.search.proofs.Points.{place}

-- the move that joins two points is along the lines, and leads from the one to the other
pub record Joined (X Y : List ℕ) (p q : Point) : Type 0 where
  pub on_lines : T (line_move X Y p (join p q))
  pub arrives : after p (join p q) ≡ q

joined_by : (X Y : List ℕ) (p q : Point) (m : Move) → join p q ≡ m → T (line_move X Y p m) → after p m ≡ q → Joined X Y p q
joined_by X Y p q m e h a = record {
  on_lines = subst (λ v. T (line_move X Y p v)) (sym e) h;
  arrives = ap (after p) e ∙ a;
}

differ : (qs : List ℕ) (a b : ℕ) → T (neighbours qs a b) → a ≡ b → ⊥
differ qs a b t e =
    refuted (eqb a b)
    (left (not (eqb a b)) (none_between qs a b) (right (mem a qs && mem b qs) (not (eqb a b) && none_between qs a b) t))
    (subst (λ v. T (eqb a v)) e (eqb_refl a))

module _ (l : Lattice) (X Y : List ℕ) (wide : l.columns ≡ length X) (high : l.rows ≡ length Y) (Xs : Climbs X) (Ys : Climbs Y) where
  in_X : (c : Crossing) → On l c → T (mem (get_or X c.column 0) X)
  in_X c o = place_mem _ X c.column (omega (arith, o.column)) refl

  in_Y : (c : Crossing) → On l c → T (mem (get_or Y c.row 0) Y)
  in_Y c o = place_mem _ Y c.row (omega (arith, o.row)) refl

  across : (c : Crossing) (j : ℕ) → On l c → T (neighbours X (get_or X c.column 0) (get_or X j 0))
      → Joined X Y (place X Y c) (place X Y (in_column c j))
  across c j o t = joined_by X Y (place X Y c) (place X Y (in_column c j)) (along_x (get_or X j 0))
      (join_x (place X Y c) (place X Y (in_column c j)) refl refl) (both _ _ t (in_Y c o)) refl

  upright : (c : Crossing) (j : ℕ) → On l c → T (neighbours Y (get_or Y c.row 0) (get_or Y j 0))
      → Joined X Y (place X Y c) (place X Y (in_row c j))
  upright c j o t = joined_by X Y (place X Y c) (place X Y (in_row c j)) (along_y (get_or Y j 0))
      (join_y (place X Y c) (place X Y (in_row c j)) refl (differ Y (get_or Y c.row 0) (get_or Y j 0) t)) (both _ _ t (in_X c o)) refl

  through : (c : Crossing) (j : ℕ) → On l c → (c.level + 1 ≡ j + 1 → ⊥) → Joined X Y (place X Y c) (place X Y (on_level c j))
  through c j o apart = joined_by X Y (place X Y c) (place X Y (on_level c j)) (to_layer (j + 1))
      (join_via (place X Y c) (place X Y (on_level c j)) apart) (both _ _ (in_X c o) (in_Y c o)) refl

  pub beside_joined : (w : Way) (c d : Crossing) → On l c → Some d ≡ beside l w c → Joined X Y (place X Y c) (place X Y d)
  beside_joined w c d o e = elim (beside_moved l w c d o e) [
    | inl m ↦ subst (λ v. Joined X Y (place X Y c) (place X Y v)) (sym m.2)
        (across c m.0 o (next_to X Xs c.column m.0 m.1.near (omega (arith, o.column)) (omega (arith, m.1.inside))))
    | inr side ↦ elim side [
      | inl m ↦ subst (λ v. Joined X Y (place X Y c) (place X Y v)) (sym m.2)
          (upright c m.0 o (next_to Y Ys c.row m.0 m.1.near (omega (arith, o.row)) (omega (arith, m.1.inside))))
      | inr m ↦ subst (λ v. Joined X Y (place X Y c) (place X Y v)) (sym m.2) (through c m.0 o (λ h. omega (arith, m.1.near)))
    ]
  ]

-- a step of the lattice that a move makes
pub record Steps (l : Lattice) (X Y : List ℕ) (c : Crossing) (m : Move) : Type 0 where
  pub way : Way
  pub to : Crossing
  pub found : Some to ≡ beside l way c
  pub arrives : place X Y to ≡ after (place X Y c) m
  pub joins : join (place X Y c) (place X Y to) ≡ m

present : {Z : Type 0} (b : Bool) (z : Z) → b ≡ true → Some z ≡ cond b (Some z) None
present b z e = ap (λ v. cond v (Some z) None) (sym e)

module _ (l : Lattice) (X Y : List ℕ) (wide : l.columns ≡ length X) (high : l.rows ≡ length Y) (Xs : Climbs X) (Ys : Climbs Y)
    (R : Rules) (deep : R.layers ≡ l.layers) where
  x_step : (c : Crossing) (x j : ℕ) (w : Way) → T (neighbours X (get_or X c.column 0) x) → get_or X j 0 ≡ x
      → Some (in_column c j) ≡ beside l w c → Steps l X Y c (along_x x)
  x_step c x j w t e f = record {
    way = w;
    to = in_column c j;
    found = f;
    arrives = λ i. record { layer = c.level + 1; x = e i; y = get_or Y c.row 0 };
    joins = join_x (place X Y c) (place X Y (in_column c j)) refl refl ∙ ap along_x e;
  }

  y_step : (c : Crossing) (y j : ℕ) (w : Way) → T (neighbours Y (get_or Y c.row 0) y) → get_or Y j 0 ≡ y
      → Some (in_row c j) ≡ beside l w c → Steps l X Y c (along_y y)
  y_step c y j w t e f = record {
    way = w;
    to = in_row c j;
    found = f;
    arrives = λ i. record { layer = c.level + 1; x = get_or X c.column 0; y = e i };
    joins = join_y (place X Y c) (place X Y (in_row c j)) refl (λ h. differ Y (get_or Y c.row 0) y t (h ∙ e)) ∙ ap along_y e;
  }

  l_step : (c : Crossing) (k j : ℕ) (w : Way) → (c.level + 1 ≡ k → ⊥) → j + 1 ≡ k → Some (on_level c j) ≡ beside l w c
      → Steps l X Y c (to_layer k)
  l_step c k j w apart e f = record {
    way = w;
    to = on_level c j;
    found = f;
    arrives = λ i. record { layer = e i; x = get_or X c.column 0; y = get_or Y c.row 0 };
    joins = join_via (place X Y c) (place X Y (on_level c j)) (λ h. apart (h ∙ e)) ∙ ap to_layer e;
  }

  pub move_steps : (c : Crossing) (m : Move) → On l c → T (line_move X Y (place X Y c) m) → T (lawful_move R (place X Y c) m)
      → Steps l X Y c m
  move_steps c (along_x x) o t h =
      let a = get_or X c.column 0 in
      let n = left (neighbours X a x) (mem (get_or Y c.row 0) Y) t in
      elim (adjacent X Xs c.column x (omega (arith, o.column)) n) [
        | inl s ↦ x_step c x (c.column - 1) Left n s.1 (present (ltb 0 c.column) (in_column c (c.column - 1)) (lt-ltb 0 c.column s.0))
        | inr s ↦ x_step c x (c.column + 1) Right n s.1
            (present (ltb c.column (l.columns - 1)) (in_column c (c.column + 1)) (lt-ltb c.column (l.columns - 1) (omega (arith, s.0))))
      ]
  move_steps c (along_y y) o t h =
      let a = get_or Y c.row 0 in
      let n = left (neighbours Y a y) (mem (get_or X c.column 0) X) t in
      elim (adjacent Y Ys c.row y (omega (arith, o.row)) n) [
        | inl s ↦ y_step c y (c.row - 1) Down n s.1 (present (ltb 0 c.row) (in_row c (c.row - 1)) (lt-ltb 0 c.row s.0))
        | inr s ↦ y_step c y (c.row + 1) Up n s.1
            (present (ltb c.row (l.rows - 1)) (in_row c (c.row + 1)) (lt-ltb c.row (l.rows - 1) (omega (arith, s.0))))
      ]
  move_steps c (to_layer k) o t h =
      let p = place X Y c in
      let q = after p (to_layer k) in
      let in_range = left (ranges 1 R.layers k) (leb p.x R.width && leb p.y R.height)
      (left (inside R q) (on_free_ground R p (to_layer k)) h) in
      let low : 1 ≤ k = leb→le 1 k (left (leb 1 k) (leb k R.layers) in_range) in
      let top : k ≤ R.layers = leb→le k R.layers (right (leb 1 k) (leb k R.layers) in_range) in
      let one : gap (c.level + 1) k ≡ 1 = eqb→eq (gap (c.level + 1) k) 1
      (left (eqb (gap (c.level + 1) k) 1) _ (right (inside R q) (on_free_ground R p (to_layer k)) h)) in
      elim (cases_order k c.level) [
        | inl e ↦ l_step c k (c.level - 1) Below (λ f. omega arith) (omega arith)
            (present (ltb 0 c.level) (on_level c (c.level - 1)) (lt-ltb 0 c.level (omega arith)))
        | inr side ↦ l_step c k (c.level + 1) Above (λ f. omega arith) (omega arith)
            (present (ltb c.level (l.layers - 1)) (on_level c (c.level + 1)) (lt-ltb c.level (l.layers - 1) (omega (arith, deep))))
      ]
