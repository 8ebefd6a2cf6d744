-- Where the nodes of a grid lie. Assumes nothing.
use Rattle.std.proofs.Common.{inl, inr, ◌≡◌, ℕ, ◌+◌, ◌<◌, Bool, true, false, cond, eqb, ltb, List, get_or, Some, None, sym, refl, ap, ◌∙◌, subst, arith, ltb-true, lt-ltb, eq-eqb, eqb-true}
use borrow.Author.Tests.{eqb-false}
use Rattle.geometry.specs.declared.point.Point.{Point}
use Rattle.routes.specs.Routes.{gap, Rules, on_free_ground}
use Rattle.search.specs.declared.grid.Grid.{Grid}
use Rattle.search.specs.declared.lattice.Lattice.{Lattice}
use Rattle.search.specs.declared.nodes.Crossing.{Crossing}
use Rattle.search.specs.declared.nodes.Way.{Way}
use Rattle.search.specs.Grids.{grid_points, grid_point, InReach, Adjoin, join}
use Rattle.search.specs.Lattices.{On, beside_moved, crossing_on, crossing_back, beside_on, next_says, true_from}
use Rattle.search.specs.Nodes.{node_total, crossing_at, beside, next_of}

-- the point of a crossing
abbrev pub place : List ℕ → List ℕ → Crossing → Point
place X Y c = record { layer = c.level + 1; x = get_or X c.column 0; y = get_or Y c.row 0 }

-- what a grid answers

pub known_point : {K P : Type 0} (g : Grid K P) (n : ℕ) (p : Point) → Some p ≡ grid_points g n
    → (n < node_total g.lattice) × (p ≡ grid_point g n)
known_point g n p e =
    let t = true_from (ltb n (node_total g.lattice)) (grid_point g n) p e in (ltb-true n (node_total g.lattice) t.0, t.1)

pub present_point : {K P : Type 0} (g : Grid K P) (n : ℕ) → None ≡ grid_points g n → n < node_total g.lattice → ⊥
present_point g n e h =
    let some : grid_points g n ≡ Some (grid_point g n) =
    ap (λ b. cond b (Some (grid_point g n)) None) (lt-ltb n (node_total g.lattice) h) in
    let z : ◌≡◌ {A = ℕ} 0 1 = cc in omega arith

pub point_in_reach : {K P : Type 0} (g : Grid K P) (n : ℕ) → n < node_total g.lattice → InReach (grid_point g n)
point_in_reach g n h =
    let o = crossing_on g.lattice n h in
    record {
      lowest = omega arith;
      highest = omega (arith, o.level, g.lattice.flat);
      right = g.near (crossing_at g.lattice n).column;
      top = g.close (crossing_at g.lattice n).row;
    }

pub known_in_reach : {K P : Type 0} (g : Grid K P) (n : ℕ) (p : Point) → Some p ≡ grid_points g n → InReach p
known_in_reach g n p e = let k = known_point g n p e in subst InReach (sym k.1) (point_in_reach g n k.0)

-- neighbours adjoin

in_line : (p q : Point) → p.layer ≡ q.layer → (eqb p.y q.y ≡ false → p.x ≡ q.x) → Adjoin p q
in_line p q e f = record { wire = λ _. f; via = λ h. absurd (eqb-false p.layer q.layer h e) }

stacked : (p q : Point) → eqb (gap p.layer q.layer) 1 ≡ true → Adjoin p q
stacked p q h = record {
  wire = λ e f. absurd (let same : p.layer ≡ q.layer = eqb-true p.layer q.layer e in
      let one : gap p.layer q.layer ≡ 1 = eqb-true (gap p.layer q.layer) 1 h in omega arith);
  via = λ _. h;
}

pub beside_adjoins : (l : Lattice) (X Y : List ℕ) (w : Way) (c d : Crossing) → On l c → Some d ≡ beside l w c
    → Adjoin (place X Y c) (place X Y d)
beside_adjoins l X Y w c d o e = elim (beside_moved l w c d o e) [
  | inl m ↦ subst (λ v. Adjoin (place X Y c) (place X Y v)) (sym m.2) (in_line _ _ refl (λ f. absurd (eqb-false _ _ f refl)))
  | inr side ↦ elim side [
    | inl m ↦ subst (λ v. Adjoin (place X Y c) (place X Y v)) (sym m.2) (in_line _ _ refl (λ f. refl))
    | inr m ↦ subst (λ v. Adjoin (place X Y c) (place X Y v)) (sym m.2)
        (stacked _ _ (eq-eqb (gap (c.level + 1) (m.0 + 1)) 1 (omega (arith, m.1.near))))
  ]
]

pub next_adjoins : {K P : Type 0} (g : Grid K P) (n k v : ℕ) → n < node_total g.lattice → next_of g.lattice n k ≡ Some v
    → Adjoin (grid_point g n) (grid_point g v)
next_adjoins g n k v h e =
    let l = g.lattice in
    let X = g.xs.now in
    let Y = g.ys.now in
    let s = next_says l n k v h e in
    let d = s.1 in
    let o = crossing_on l n h in
    let on = beside_on l s.0 (crossing_at l n) d o s.3 in
    let back : crossing_at l v ≡ d = ap (crossing_at l) s.4 ∙ crossing_back l d on in
    subst (λ c. Adjoin (grid_point g n) (place X Y c)) (sym back) (beside_adjoins l X Y s.0 (crossing_at l n) d o s.3)

-- a test of the points is one of the nodes
pub free_known : (R : Rules) (p q p' q' : Point) (r : Bool) → p ≡ p' → q ≡ q' → Adjoin p' q'
    → (Adjoin p q → r ≡ on_free_ground R p (join p q)) → r ≡ on_free_ground R p' (join p' q')
free_known R p q p' q' r e f adjoin is =
    subst (λ u. r ≡ on_free_ground R u (join u q')) e
    (subst (λ v. r ≡ on_free_ground R p (join p v)) f
    (is (subst (λ u. Adjoin u q) (sym e) (subst (λ v. Adjoin p' v) (sym f) adjoin))))
