-- Numbers that are put into a queue, one behind the other. Assumes nothing.
use Rattle.std.proofs.Common.{◌≡◌, ℕ, ◌+◌, ◌-◌, ◌*◌, ◌<◌, ◌≤◌, max, Bool, true, false, cond, leb, List, [], ◌∷◌, ◌++◌, length, get_or, take, ℤ, pos, negsuc, sym, refl, ap, ◌∙◌, subst, append_assoc, append-nil, Ok, Result, nat_lt, arith, length-append}
use Rattle.std.specs.List.Sorted.{IsPermutation}
use Rattle.std.proofs.lemmas.List.Sorted.{IsPermutation-trans, IsPermutation-cons, IsPermutation-to_front, IsPermutation-refl, length_permutation}
use Rattle.std.proofs.lemmas.List.Elements.{filter_more}
use Rattle.geometry.specs.declared.class.Class.{Class}
use Rattle.geometry.specs.declared.piece.Piece.{Piece}
use Rattle.geometry.specs.declared.rect.Span.{Span}
use Rattle.geometry.specs.Lists.{flat}
use Rattle.geometry.specs.Nets.{different_nets}
use Rattle.geometry.specs.Zones.{widened}
use Rattle.queue.specs.declared.heap.Full.{Full}
use Rattle.queue.specs.declared.heap.Queue.{Queue}
use Rattle.queue.specs.Waiting.{waiting, Keeps, PutIn, SameSlots}
use Rattle.routes.specs.Lines.{on_panel, borders, others}
use Rattle.geometry.specs.declared.axis.Axis.{Axis}
use Rattle.geometry.specs.declared.axis.Axis.TheVariants.{X, Y}
use Rattle.search.specs.declared.request.Extent.{Extent}
use Rattle.geometry.specs.Axes.{axis_of}
use Rattle.search.specs.Drawing.{HasRoom, Puts, zone_borders, piece_borders, all_borders}

-- nothing is put
pub puts_none : (q : Queue ℕ) → Puts [] q q
puts_none q = record {
  waits = λ xs s. subst (λ ys. IsPermutation ys (waiting q)) (sym (append-nil xs)) s;
  order = λ o. o;
  room_stays = refl;
}

-- one number is put where there is room
pub puts_one : (q q' : Queue ℕ) (x : ℕ) (r : Result Unit Full) → r ≡ Ok tt → PutIn x q r q' → Keeps nat_lt q q'
    → SameSlots q q' → Puts (x ∷ []) q q'
puts_one q q' x r ok put order same =
    let done : IsPermutation (x ∷ waiting q) (waiting q') = rw ok at put in
    record {
      waits = λ xs s.
          IsPermutation-trans (xs ++ x ∷ []) (x ∷ waiting q) (waiting q')
          (IsPermutation-trans (xs ++ x ∷ []) (x ∷ xs) (x ∷ waiting q) (IsPermutation-to_front xs x) (IsPermutation-cons x xs (waiting q) s)) done;
      order = order;
      room_stays = same.room_stays;
    }

-- some numbers, and then others
pub puts_more : (q q' q'' : Queue ℕ) (ns ms : List ℕ) → Puts ns q q' → Puts ms q' q'' → Puts (ns ++ ms) q q''
puts_more q q' q'' ns ms a b = record {
  waits = λ xs s. subst (λ ys. IsPermutation ys (waiting q'')) (append_assoc xs ns ms) (b.waits (xs ++ ns) (a.waits xs s));
  order = λ o. b.order (a.order o);
  room_stays = b.room_stays ∙ a.room_stays;
}

-- how many wait then
pub puts_count : (q q' : Queue ℕ) (ns : List ℕ) → Puts ns q q' → length (waiting q') ≡ length (waiting q) + length ns
puts_count q q' ns p =
    length_permutation (waiting q ++ ns) (waiting q') (p.waits (waiting q) (IsPermutation-refl (waiting q))) ∙ length-append (waiting q) ns

pub room_left : (q q' : Queue ℕ) (ns : List ℕ) (k j : ℕ) → Puts ns q q' → HasRoom k q → length ns + j ≤ k → HasRoom j q'
room_left q q' ns k j p fits few = omega (arith, puts_count q q' ns p, p.room_stays)

-- borders are put as far as they lie on the panel

on_panel_append : (far : ℕ) (zs ys : List ℤ) → on_panel far (zs ++ ys) ≡ on_panel far zs ++ on_panel far ys
on_panel_append far [] ys = refl
on_panel_append far (pos n ∷ zs) ys = pick (leb n far) (on_panel_append far zs ys)
  where
    pick : (b : Bool) → on_panel far (zs ++ ys) ≡ on_panel far zs ++ on_panel far ys
        → cond b (n ∷ on_panel far (zs ++ ys)) (on_panel far (zs ++ ys))
        ≡ cond b (n ∷ on_panel far zs) (on_panel far zs) ++ on_panel far ys
    pick true e = ap (λ ns. n ∷ ns) e
    pick false e = e
on_panel_append far (negsuc n ∷ zs) ys = on_panel_append far zs ys

on_panel_fewer : (far : ℕ) (zs : List ℤ) → length (on_panel far zs) ≤ length zs
on_panel_fewer far [] = omega arith
on_panel_fewer far (pos n ∷ zs) = pick (leb n far) (on_panel_fewer far zs)
  where
    pick : (b : Bool) → length (on_panel far zs) ≤ length zs
        → length (cond b (n ∷ on_panel far zs) (on_panel far zs)) ≤ length (pos n ∷ zs)
    pick true h = omega arith
    pick false h = omega arith
on_panel_fewer far (negsuc n ∷ zs) = let h : length (on_panel far zs) ≤ length zs = on_panel_fewer far zs in omega arith

pub panel_more : (far : ℕ) (zs ys : List ℤ) (q q' q'' : Queue ℕ) → Puts (on_panel far zs) q q' → Puts (on_panel far ys) q' q''
    → Puts (on_panel far (zs ++ ys)) q q''
panel_more far zs ys q q' q'' a b =
    subst (λ ns. Puts ns q q'') (sym (on_panel_append far zs ys)) (puts_more q q' q'' (on_panel far zs) (on_panel far ys) a b)

pub panel_room : (far : ℕ) (zs : List ℤ) (q q' : Queue ℕ) (k j : ℕ) → Puts (on_panel far zs) q q' → HasRoom k q
    → length zs + j ≤ k → HasRoom j q'
panel_room far zs q q' k j p fits few =
    room_left q q' (on_panel far zs) k j p fits (omega (arith, on_panel_fewer far zs))

-- both borders of a span moved out
abbrev two : ℕ → Span → List ℤ
two d s = (widened d s).low ∷ (widened d s).high ∷ []

pub zone_room : (far d : ℕ) (s : Span) (q q' : Queue ℕ) (k j : ℕ) → Puts (zone_borders far d s) q q' → HasRoom k q → 2 + j ≤ k
    → HasRoom j q'
zone_room far d s q q' k j p fits few =
    let short : length (two d s) + j ≤ k = omega arith in panel_room far (two d s) q q' k j p fits short

-- the borders of a piece are those of its wire zone and those of its via zone
piece_parts : (a : Axis) (far : ℕ) (c : Class) (p : Piece) →
    let d = max c.space p.space in
    let s = axis_of a p.rect in
    on_panel far (two (c.half + d) s ++ two (c.pad + d) s) ≡ on_panel far (borders (axis_of a) c p)
piece_parts X far c p = refl
piece_parts Y far c p = refl

pub piece_puts : (e : Extent) (p : Piece) (d : ℕ) (s : Span) (q q' q'' : Queue ℕ) → d ≡ max e.class.space p.space
    → s ≡ axis_of e.axis p.rect → Puts (zone_borders e.size (e.class.half + d) s) q q'
    → Puts (zone_borders e.size (e.class.pad + d) s) q' q'' → Puts (piece_borders e p) q q''
piece_puts e p d s q q' q'' d-is s-is wire via =
    let far = e.size in
    let c = e.class in
    let both : Puts (on_panel far (two (c.half + d) s ++ two (c.pad + d) s)) q q'' =
    panel_more far (two (c.half + d) s) (two (c.pad + d) s) q q' q'' wire via in
    let moved = subst (λ v. Puts (on_panel far (two (c.half + v) s ++ two (c.pad + v) s)) q q'') d-is both in
    let D = max c.space p.space in
    let there = subst (λ v. Puts (on_panel far (two (c.half + D) v ++ two (c.pad + D) v)) q q'') s-is moved in
    subst (λ ns. Puts ns q q'') (piece_parts e.axis far c p) there

flat_append : {V W : Type 0} (f : V → List W) (xs ys : List V) → flat f (xs ++ ys) ≡ flat f xs ++ flat f ys
flat_append f [] ys = refl
flat_append f (x ∷ xs) ys = ap (λ ws. f x ++ ws) (flat_append f xs ys) ∙ sym (append_assoc (f x) (flat f xs) (flat f ys))

-- the borders of one more piece
pub borders_more : (e : Extent) (ps : List Piece) (k : ℕ) (p : Piece) → k < length ps → p ≡ get_or ps k p
    → all_borders e (take (k + 1) ps)
    ≡ all_borders e (take k ps) ++ cond (different_nets p.net e.net) (piece_borders e p) []
borders_more e ps k p h is =
    let f = borders (axis_of e.axis) e.class in
    let keep = λ (q : Piece). different_nets q.net e.net in
    let last = λ (q : Piece). cond (keep q) (q ∷ []) [] in
    let split : others e.net (take (k + 1) ps) ≡ others e.net (take k ps) ++ last p =
    filter_more keep ps k p h ∙ ap (λ q. others e.net (take k ps) ++ last q) (sym is) in
    ap (λ qs. on_panel e.size (flat f qs)) split
    ∙ (ap (on_panel e.size) (flat_append f (others e.net (take k ps)) (last p))
    ∙ (on_panel_append e.size (flat f (others e.net (take k ps))) (flat f (last p))
    ∙ ap (λ ns. all_borders e (take k ps) ++ ns) (one (keep p))))
  where
    one : (b : Bool) → on_panel e.size (flat (borders (axis_of e.axis) e.class) (cond b (p ∷ []) []))
        ≡ cond b (piece_borders e p) []
    one true = ap (on_panel e.size) (append-nil (borders (axis_of e.axis) e.class p))
    one false = refl

pub piece_few : (e : Extent) (p : Piece) → length (piece_borders e p) ≤ 4
piece_few e p =
    let h : length (on_panel e.size (borders (axis_of e.axis) e.class p)) ≤ length (borders (axis_of e.axis) e.class p) =
    on_panel_fewer e.size (borders (axis_of e.axis) e.class p) in omega arith

-- what is put, and the room that is left, where the borders of the first k pieces were put
pub record PutFirst (e : Extent) (ps : List Piece) (k : ℕ) (q₀ q : Queue ℕ) : Type 0 where
  pub puts : Puts (all_borders e (take k ps)) q₀ q
  pub room_left : HasRoom (4 * (length ps - k)) q

-- a turn of a loop over the pieces: the next is p, and its borders are put if its net is different
pub turn : (e : Extent) (ps : List Piece) (k : ℕ) (p : Piece) (b : Bool) (q₀ q q' : Queue ℕ) → k < length ps
    → p ≡ get_or ps k p → b ≡ different_nets p.net e.net → Puts (cond b (piece_borders e p) []) q q'
    → PutFirst e ps k q₀ q → PutFirst e ps (k + 1) q₀ q'
turn e ps k p b q₀ q q' h is b_is put before =
    let ns = cond (different_nets p.net e.net) (piece_borders e p) [] in
    let put' : Puts ns q q' = subst (λ v. Puts (cond v (piece_borders e p) []) q q') b_is put in
    let few : length ns ≤ 4 = pick (different_nets p.net e.net) in record {
      puts = subst (λ v. Puts v q₀ q') (sym (borders_more e ps k p h is)) (puts_more q₀ q q' (all_borders e (take k ps)) ns before.puts put');
      room_left = room_left q q' ns (4 * (length ps - k)) (4 * (length ps - (k + 1))) put' before.room_left (omega arith);
    }
  where
    pick : (v : Bool) → length (cond v (piece_borders e p) []) ≤ 4
    pick true = piece_few e p
    pick false = omega arith
