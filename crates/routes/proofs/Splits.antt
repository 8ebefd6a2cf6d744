-- A run that is cut in two, or two that are joined: what the parts and the whole have of one another. Assumes nothing.
use Rattle.std.proofs.lemmas.Bool.Decides.{nat_tests}
use Rattle.std.proofs.Common.{◌≡◌, ℕ, ◌+◌, ◌<◌, ◌≤◌, min, max, true, false, cond, not, T, eqb, ltb, ◌⊎◌, List, [], ◌∷◌, sym, refl, ap, ◌∙◌, subst, inl, inr, arith}
use Rattle.std.proofs.lemmas.Bool.{ne_eqb}
use Rattle.geometry.specs.declared.axis.Axis.{Axis}
use Rattle.geometry.specs.declared.axis.Axis.TheVariants.{X, Y}
use Rattle.geometry.specs.declared.point.Point.{Point}
use Rattle.geometry.specs.declared.rect.Span.{Span}
use Rattle.geometry.specs.Boxes.{span}
use Rattle.costs.specs.Amounts.{Tariff, times}
use Rattle.routes.specs.Routes.{Move, along_x, along_y, after, Rules, inside, lawful_move, goes, gap, price}
use Rattle.routes.specs.Turns.{heading, straight_on, turns}
use Rattle.routes.proofs.Moves.{layer_inside, x_inside, y_inside, is_inside, move_inside, move_free, move_lawful}
use Rattle.routes.proofs.Sums.{Ordered, times_add}
use Rattle.routes.proofs.Shift.{wide}
use Rattle.routes.proofs.Flip.{turn}

-- A box within a free one is free for wires, along each axis.
abbrev pub PartsFree : Rules → Type 0
PartsFree R =
    (axis : Axis) (l a b a' b' : ℕ) (y : Span) → a ≤ a' → b' ≤ b → T (R.wire l (turn axis (wide a b y)))
    → T (R.wire l (turn axis (wide a' b' y)))

-- A box within two free ones that overlap or touch is free for wires, along each axis.
abbrev pub JoinsFree : Rules → Type 0
JoinsFree R =
    (axis : Axis) (l a b b' c a' c' : ℕ) (y : Span) → a ≤ a' → b' ≤ b → c' ≤ c → T (R.wire l (turn axis (wide a b y)))
    → T (R.wire l (turn axis (wide b' c y))) → T (R.wire l (turn axis (wide a' c' y)))

-- The run m from p is the run m₁ and then, straight on, m again from where m₁ ends.
pub record Split {M : Type 0} (R : Rules) (tf : Tariff M) (p : Point) (m₁ m : Move) : Type 0 where
  pub lands : after (after p m₁) m ≡ after p m
  pub first_heading : heading p m₁ ≡ heading p m
  pub rest_heading : heading (after p m₁) m ≡ heading p m
  pub is_run : T (ltb 0 (heading p m))
  pub rest_goes : T (goes (after p m₁) m)
  pub whole_goes : T (goes p m)
  pub price_is : price tf p m ≡ tf.sums.plus (price tf p m₁) (price tf (after p m₁) m)
  pub first_lawful : PartsFree R → T (inside R p) → T (lawful_move R p m) → T (lawful_move R p m₁)
  pub rest_lawful : PartsFree R → T (inside R p) → T (lawful_move R p m) → T (lawful_move R (after p m₁) m)
  pub whole_lawful : JoinsFree R → T (lawful_move R p m₁) → T (lawful_move R (after p m₁) m) → T (lawful_move R p m)

-- q lies strictly between a and b
abbrev pub Amid : ℕ → ℕ → ℕ → Type 0
Amid a q b = ((a < q) × (q < b)) ⊎ ((b < q) × (q < a))

-- which way from a to b: the first of two numbers up, the second down
abbrev way : ℕ → ℕ → ℕ → ℕ → ℕ
way up down a b = cond (ltb a b) up down

way_first : (up down a q b : ℕ) → Amid a q b → way up down a q ≡ way up down a b
way_first up down a q b h = grind (arith, nat_tests)

way_rest : (up down a q b : ℕ) → Amid a q b → way up down q b ≡ way up down a b
way_rest up down a q b h = grind (arith, nat_tests)

way_run : (up down a b : ℕ) → T (ltb 0 up) → T (ltb 0 down) → T (ltb 0 (way up down a b))
way_run up down a b h k = elim (ltb a b) as (λ t. T (ltb 0 (cond t up down))) [ true ↦ h | false ↦ k ]

apart_goes : (a b : ℕ) → (a ≡ b → ⊥) → T (not (eqb (gap a b) 0))
apart_goes a b ne = subst (λ t. T (not t)) (sym (ne_eqb (gap a b) 0 (λ e. ne (omega arith)))) tt

gap_amid : (a q b : ℕ) → Amid a q b → gap a b ≡ gap a q + gap q b
gap_amid a q b h = grind (arith, nat_tests)

module _ {M : Type 0} (R : Rules) (tf : Tariff M) {leq : M → M → Type 0} (laws : Ordered tf.sums leq) where
  times_gap : (a q b : ℕ) (u : M) → Amid a q b
      → times tf.sums (gap a b) u ≡ tf.sums.plus (times tf.sums (gap a q) u) (times tf.sums (gap q b) u)
  times_gap a q b u h =
      ap (λ n. times tf.sums n u) (gap_amid a q b h) ∙ times_add laws (gap a q) (gap q b) u

  pub split_x : (p : Point) (q x : ℕ) → Amid p.x q x → Split R tf p (along_x q) (along_x x)
  split_x p q x h = record {
    lands = refl;
    first_heading = way_first 1 2 p.x q x h;
    rest_heading = way_rest 1 2 p.x q x h;
    is_run = way_run 1 2 p.x x tt tt;
    rest_goes = apart_goes q x (λ e. omega (arith, h));
    whole_goes = apart_goes p.x x (λ e. omega (arith, h));
    price_is = times_gap p.x q x (tf.prices.x p.layer) h;
    first_lawful = λ parts here ok.
        let in-there = move_inside R p (along_x x) ok in
        let from : p.x ≤ R.width = x_inside R p here in
        let to : x ≤ R.width = x_inside R (after p (along_x x)) in-there in
        move_lawful R p (along_x q) (is_inside R (after p (along_x q)) (layer_inside R p here) (omega (arith, h))
        (y_inside R p here))
        (parts X p.layer (min p.x x) (max p.x x) (min p.x q) (max p.x q) (span p.y p.y)
        (omega (arith, h)) (omega (arith, h)) (move_free R p (along_x x) ok));
    rest_lawful = λ parts here ok.
        move_lawful R (after p (along_x q)) (along_x x) (move_inside R p (along_x x) ok)
        (parts X p.layer (min p.x x) (max p.x x) (min q x) (max q x) (span p.y p.y) (omega (arith, h))
        (omega (arith, h)) (move_free R p (along_x x) ok));
    whole_lawful = λ joins ok₁ ok.
        let free₁ = move_free R p (along_x q) ok₁ in
        let free₂ = move_free R (after p (along_x q)) (along_x x) ok in
        move_lawful R p (along_x x) (move_inside R (after p (along_x q)) (along_x x) ok)
        (elim h [
          | inl up ↦
              joins X p.layer (min p.x q) (max p.x q) (min q x) (max q x) (min p.x x) (max p.x x)
              (span p.y p.y) (omega (arith, up)) (omega (arith, up)) (omega (arith, up)) free₁ free₂
          | inr down ↦
              joins X p.layer (min q x) (max q x) (min p.x q) (max p.x q) (min p.x x) (max p.x x)
              (span p.y p.y) (omega (arith, down)) (omega (arith, down)) (omega (arith, down)) free₂ free₁
        ]);
  }

  pub split_y : (p : Point) (q y : ℕ) → Amid p.y q y → Split R tf p (along_y q) (along_y y)
  split_y p q y h = record {
    lands = refl;
    first_heading = way_first 3 4 p.y q y h;
    rest_heading = way_rest 3 4 p.y q y h;
    is_run = way_run 3 4 p.y y tt tt;
    rest_goes = apart_goes q y (λ e. omega (arith, h));
    whole_goes = apart_goes p.y y (λ e. omega (arith, h));
    price_is = times_gap p.y q y (tf.prices.y p.layer) h;
    first_lawful = λ parts here ok.
        let in-there = move_inside R p (along_y y) ok in
        let from : p.y ≤ R.height = y_inside R p here in
        let to : y ≤ R.height = y_inside R (after p (along_y y)) in-there in
        move_lawful R p (along_y q) (is_inside R (after p (along_y q)) (layer_inside R p here) (x_inside R p here)
        (omega (arith, h)))
        (parts Y p.layer (min p.y y) (max p.y y) (min p.y q) (max p.y q) (span p.x p.x)
        (omega (arith, h)) (omega (arith, h)) (move_free R p (along_y y) ok));
    rest_lawful = λ parts here ok.
        move_lawful R (after p (along_y q)) (along_y y) (move_inside R p (along_y y) ok)
        (parts Y p.layer (min p.y y) (max p.y y) (min q y) (max q y) (span p.x p.x) (omega (arith, h))
        (omega (arith, h)) (move_free R p (along_y y) ok));
    whole_lawful = λ joins ok₁ ok.
        let free₁ = move_free R p (along_y q) ok₁ in
        let free₂ = move_free R (after p (along_y q)) (along_y y) ok in
        move_lawful R p (along_y y) (move_inside R (after p (along_y q)) (along_y y) ok)
        (elim h [
          | inl up ↦
              joins Y p.layer (min p.y q) (max p.y q) (min q y) (max q y) (min p.y y) (max p.y y)
              (span p.x p.x) (omega (arith, up)) (omega (arith, up)) (omega (arith, up)) free₁ free₂
          | inr down ↦
              joins Y p.layer (min q y) (max q y) (min p.y q) (max p.y q) (min p.y y) (max p.y y)
              (span p.x p.x) (omega (arith, down)) (omega (arith, down)) (omega (arith, down)) free₂ free₁
        ]);
  }

-- the heading that a route sets out with, 0 where it does not
abbrev pub sets_out : Point → List Move → ℕ
sets_out p [] = 0
sets_out p (m ∷ r) = heading p m

pub straight_on_like : (p p' : Point) (m m' : Move) (r r' : List Move) → heading p m ≡ heading p' m'
    → sets_out (after p m) r ≡ sets_out (after p' m') r'
    → straight_on p m r ≡ straight_on p' m' r'
straight_on_like p p' m m' r r' e k = grind (arith, nat_tests)

module _ {M : Type 0} (R : Rules) (tf : Tariff M) (p : Point) (m₁ m : Move) (s : Split R tf p m₁ m) where
  -- the whole turns where the rest does
  pub split_turns : (r : List Move) → turns p (m ∷ r) ≡ turns (after p m₁) (m ∷ r)
  split_turns r = grind (arith, nat_tests)

  -- the first part is continued straight on by what sets out as the whole does
  pub split_straight : (r : List Move) → sets_out (after p m₁) r ≡ heading p m → straight_on p m₁ r ≡ true
  split_straight r e = grind (arith, nat_tests)
