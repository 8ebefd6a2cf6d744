-- Nodes and crossings are the same, counted in two ways. Assumes nothing.
use Rattle.std.specs.Prelude.{◌≡◌, ℕ, zero, suc, ◌+◌, ◌-◌, ◌*◌, ◌/◌, ◌%◌, ◌<◌, ◌≤◌, Bool, true, false, cond, ◌&&◌, T, ◌⊎◌, ltb, Some, None, Option, nat_lt, refl}
use Rattle.std.proofs.Common.{inl, inr, sym, ap, subst, ◌∙◌, mul_comm, mul_assoc, mul-le-mul, mod-lt, div-add-mod', div-lt_iff_lt-mul, arith, ltb→lt, lt→ltb, ltb-true, lt-ltb}
use Rattle.std.proofs.Math.Arith.{digits_lt, digits_div, digits_mod}
use Rattle.std.specs.Option.{option_map}
use Rattle.search.specs.declared.lattice.Lattice.{Lattice}
use Rattle.search.specs.declared.nodes.Crossing.{Crossing}
use Rattle.search.specs.declared.nodes.Way.{Way}
use Rattle.search.specs.declared.nodes.Way.TheVariants.{Left, Right, Down, Up, Below, Above}
use Rattle.search.specs.Nodes.{on_lattice, node_total, node_at, crossing_at, node_known, crossing_known}
use Rattle.search.specs.Nodes.{way_of, in_column, in_row, on_level, beside, ahead, next_of}
use Rattle.routes.proofs.Bools.{left, right, both}

-- a crossing is on the lattice
pub record On (l : Lattice) (c : Crossing) : Type 0 where
  pub column : c.column < l.columns
  pub row : c.row < l.rows
  pub level : c.level < l.layers

pub on_says : (l : Lattice) (c : Crossing) → T (on_lattice l c) → On l c
on_says l c h =
    let a = ltb c.column l.columns in
    let b = ltb c.row l.rows in
    let d = ltb c.level l.layers in
    record {
      column = ltb→lt c.column l.columns (left a (b && d) h);
      row = ltb→lt c.row l.rows (left b d (right a (b && d) h));
      level = ltb→lt c.level l.layers (right b d (right a (b && d) h));
    }

pub on_from : (l : Lattice) (c : Crossing) → On l c → T (on_lattice l c)
on_from l c o =
    both _ _ (lt→ltb c.column l.columns o.column)
    (both _ _ (lt→ltb c.row l.rows o.row) (lt→ltb c.level l.layers o.level))

-- how many there are

pub area_few : (l : Lattice) → l.columns * l.rows ≤ 1048576
area_few l = mul-le-mul {n₁ = l.columns} {m₁ = l.rows} {n₂ = 1024} {m₂ = 1024} l.narrow l.low

pub total_few : (l : Lattice) → node_total l ≤ 8388608
total_few l = mul-le-mul {n₁ = l.columns * l.rows} {m₁ = l.layers} {n₂ = 1048576} {m₂ = 8} (area_few l) l.flat

total_is : (l : Lattice) → l.layers * l.rows * l.columns ≡ node_total l
total_is l =
    mul_comm (l.layers * l.rows) l.columns
    ∙ (ap (λ n. l.columns * n) (mul_comm l.layers l.rows) ∙ sym (mul_assoc l.columns l.rows l.layers))

-- there and back

pub line_inside : (l : Lattice) (c : Crossing) → On l c → c.level * l.rows + c.row < l.layers * l.rows
line_inside l c o = digits_lt o.level o.row

pub node_inside : (l : Lattice) (c : Crossing) → On l c → node_at l c < node_total l
node_inside l c o = subst (λ n. node_at l c < n) (total_is l) (digits_lt (line_inside l c o) o.column)

pub crossing_back : (l : Lattice) (c : Crossing) → On l c → crossing_at l (node_at l c) ≡ c
crossing_back l c o =
    let line = c.level * l.rows + c.row in
    let col : node_at l c % l.columns ≡ c.column = digits_mod line o.column in
    let up : node_at l c / l.columns ≡ line = digits_div line o.column in
    let row : node_at l c / l.columns % l.rows ≡ c.row = ap (λ n. n % l.rows) up ∙ digits_mod c.level o.row in
    let level : node_at l c / l.columns / l.rows ≡ c.level = ap (λ n. n / l.rows) up ∙ digits_div c.level o.row in
    λ i. record { column = col i; row = row i; level = level i }

positive : (a b c n : ℕ) → n < a * b * c → (zero < a) × (zero < b)
positive zero b c n h = absurd (omega arith)
positive (suc a) zero c n h = absurd (omega arith)
positive (suc a) (suc b) c n h = (omega arith, omega arith)

pub crossing_on : (l : Lattice) (n : ℕ) → n < node_total l → On l (crossing_at l n)
crossing_on l n h =
    let some = positive l.columns l.rows l.layers n h in
    let line : n / l.columns < l.layers * l.rows =
    (div-lt_iff_lt-mul {k = l.columns} {x = n} {y = l.layers * l.rows} some.0).1 (subst (λ m. n < m) (sym (total_is l)) h) in
    record {
      column = mod-lt n some.0;
      row = mod-lt (n / l.columns) some.1;
      level = (div-lt_iff_lt-mul {k = l.rows} {x = n / l.columns} {y = l.layers} some.1).1 line;
    }

pub node_back : (l : Lattice) (n : ℕ) → node_at l (crossing_at l n) ≡ n
node_back l n =
    ap (λ m. m * l.columns + n % l.columns) (div-add-mod' (n / l.columns) l.rows) ∙ div-add-mod' n l.columns

-- the same, of what is known

pub true_from : (b : Bool) {X : Type 0} (x y : X) → Some y ≡ cond b (Some x) None → (b ≡ true) × (y ≡ x)
true_from true x y e = (refl, cc)
true_from false x y e = absurd (let z : ◌≡◌ {A = ℕ} 0 1 = cc in omega arith)

pub known_crossing : (l : Lattice) (n : ℕ) (c : Crossing) → Some c ≡ crossing_known l n → (n < node_total l) × (c ≡ crossing_at l n)
known_crossing l n c e =
    let t = true_from (nat_lt n (node_total l)) (crossing_at l n) c e in (ltb-true n (node_total l) t.0, t.1)

pub crossing_is : (l : Lattice) (n : ℕ) → n < node_total l → crossing_known l n ≡ Some (crossing_at l n)
crossing_is l n h = ap (λ b. cond b (Some (crossing_at l n)) None) (lt-ltb n (node_total l) h)

pub T_true : (b : Bool) → T b → b ≡ true
T_true true h = refl
T_true false h = absurd h

pub node_is : (l : Lattice) (c : Crossing) → On l c → node_known l c ≡ Some (node_at l c)
node_is l c o = ap (λ b. cond b (Some (node_at l c)) None) (T_true (on_lattice l c) (on_from l c o))

pub crossing_of_node : (l : Lattice) (c : Crossing) (n : ℕ) → On l c → n ≡ node_at l c → crossing_known l n ≡ Some c
crossing_of_node l c n o e =
    ap (crossing_known l) e ∙ (crossing_is l (node_at l c) (node_inside l c o) ∙ ap Some (crossing_back l c o))

pub node_of_crossing : (l : Lattice) (n : ℕ) → n < node_total l → node_known l (crossing_at l n) ≡ Some n
node_of_crossing l n h = node_is l (crossing_at l n) (crossing_on l n h) ∙ ap Some (node_back l n)

-- a coordinate beside another, of so many
pub record Beside (from size to : ℕ) : Type 0 where
  pub near : (to + 1 ≡ from) ⊎ (from + 1 ≡ to)
  pub inside : to < size

-- a neighbour differs in one coordinate
abbrev pub Moved : Lattice → Crossing → Crossing → Type 0
Moved l c d =
    ((j : ℕ) × Beside c.column l.columns j × (d ≡ in_column c j))
    ⊎ (((j : ℕ) × Beside c.row l.rows j × (d ≡ in_row c j)) ⊎ ((j : ℕ) × Beside c.level l.layers j × (d ≡ on_level c j)))

down : (from size : ℕ) → from < size → nat_lt 0 from ≡ true → Beside from size (from - 1)
down from size h e = let some : 0 < from = ltb-true 0 from e in record { near = inl (omega arith); inside = omega arith }

up : (from size : ℕ) → nat_lt from (size - 1) ≡ true → Beside from size (from + 1)
up from size e = record { near = inr (omega arith); inside = omega (arith, ltb-true from (size - 1) e) }

pub beside_moved : (l : Lattice) (w : Way) (c d : Crossing) → On l c → Some d ≡ beside l w c → Moved l c d
beside_moved l Left c d o e =
    let t = true_from _ (in_column c (c.column - 1)) d e in inl (c.column - 1, down c.column l.columns o.column t.0, t.1)
beside_moved l Right c d o e =
    let t = true_from _ (in_column c (c.column + 1)) d e in inl (c.column + 1, up c.column l.columns t.0, t.1)
beside_moved l Down c d o e =
    let t = true_from _ (in_row c (c.row - 1)) d e in inr (inl (c.row - 1, down c.row l.rows o.row t.0, t.1))
beside_moved l Up c d o e =
    let t = true_from _ (in_row c (c.row + 1)) d e in inr (inl (c.row + 1, up c.row l.rows t.0, t.1))
beside_moved l Below c d o e =
    let t = true_from _ (on_level c (c.level - 1)) d e in inr (inr (c.level - 1, down c.level l.layers o.level t.0, t.1))
beside_moved l Above c d o e =
    let t = true_from _ (on_level c (c.level + 1)) d e in inr (inr (c.level + 1, up c.level l.layers t.0, t.1))

-- a neighbour is on the lattice too
pub beside_on : (l : Lattice) (w : Way) (c d : Crossing) → On l c → Some d ≡ beside l w c → On l d
beside_on l w c d o e = elim (beside_moved l w c d o e) [
  | inl m ↦ subst (On l) (sym m.2) (record { column = m.1.inside; row = o.row; level = o.level })
  | inr side ↦ elim side [
    | inl m ↦ subst (On l) (sym m.2) (record { column = o.column; row = m.1.inside; level = o.level })
    | inr m ↦ subst (On l) (sym m.2) (record { column = o.column; row = o.row; level = m.1.inside })
  ]
]

-- the way to a neighbour by numbers
pub next_known : (l : Lattice) (n k : ℕ) (w : Way) (d : Crossing) → n < node_total l → Some w ≡ way_of k
    → Some d ≡ beside l w (crossing_at l n) → node_known l d ≡ next_of l n k
next_known l n k w d h e b =
    node_is l d (beside_on l w (crossing_at l n) d (crossing_on l n h) b) ∙ (ap (option_map (node_at l)) b ∙ ap (ahead l n) e)

ahead_inside : (l : Lattice) (n v : ℕ) (o : Option Way) → n < node_total l → ahead l n o ≡ Some v
    → (w : Way) × (d : Crossing) × (o ≡ Some w) × (Some d ≡ beside l w (crossing_at l n)) × (v ≡ node_at l d)
ahead_inside l n v None h e = absurd (let z : ◌≡◌ {A = ℕ} 0 1 = cc in omega arith)
ahead_inside l n v (Some w) h e = found (beside l w (crossing_at l n)) e refl
  where
    found : (b : Option Crossing) → option_map (node_at l) b ≡ Some v → beside l w (crossing_at l n) ≡ b
        → (w' : Way) × (d : Crossing) × (Some w ≡ Some w') × (Some d ≡ beside l w' (crossing_at l n)) × (v ≡ node_at l d)
    found None e is = absurd (let z : ◌≡◌ {A = ℕ} 0 1 = cc in omega arith)
    found (Some d) e is = (w, d, refl, sym is, cc)

-- what a neighbour is
pub next_says : (l : Lattice) (n k v : ℕ) → n < node_total l → next_of l n k ≡ Some v
    → (w : Way) × (d : Crossing) × (way_of k ≡ Some w) × (Some d ≡ beside l w (crossing_at l n)) × (v ≡ node_at l d)
next_says l n k v h e = ahead_inside l n v (way_of k) h e

pub next_inside : (l : Lattice) (n k v : ℕ) → n < node_total l → next_of l n k ≡ Some v → v < node_total l
next_inside l n k v h e =
    let s = next_says l n k v h e in
    let d = s.1 in
    subst (λ m. m < node_total l) (sym s.4) (node_inside l d (beside_on l s.0 (crossing_at l n) d (crossing_on l n h) s.3))
