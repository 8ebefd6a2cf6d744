-- Pieces laid along a lawful route leave the standing pieces in order. Assumes nothing.
use Rattle.std.proofs.lemmas.Bool.Decides.{nat_tests}
use Rattle.std.proofs.Common.{◌≡◌, ℕ, ◌≤◌, min, max, cond, T, ltb, ◌⊎◌, List, [], ◌∷◌, ◌++◌, pos, ◌+ℤ◌, ◌-ℤ◌, ◌<ℤ◌, sym, refl, subst, inl, inr, arith, eqb→eq, leb→le}
use borrow.Author.Differences.{ints}
use lib.Signed.{lt_z}
use Rattle.std.proofs.lemmas.Bool.{eq-eqb, ne_eqb}
use Rattle.geometry.specs.declared.class.Class.{Class}
use Rattle.geometry.specs.declared.piece.Piece.{Piece}
use Rattle.geometry.specs.declared.point.Point.{Point}
use Rattle.geometry.specs.Boxes.{box}
use Rattle.geometry.specs.Clearance.{proper, keep_clear, clear, in_order}
use Rattle.geometry.specs.Lists.{all_of}
use Rattle.geometry.specs.Zones.{moved_out}
use Rattle.routes.specs.Routes.{Move, along_x, along_y, to_layer, is_run, after, lawful_move, lawful, gap}
use Rattle.routes.specs.Turns.{stops, points_of, whole_runs}
use Rattle.routes.specs.Rules.{rules_of, clear_of}
use Rattle.routes.specs.Laid.{laid, laid_run, laid_via, joint, laid_from, laid_along}
use Rattle.routes.specs.Claims.{LaidPiecesKeepOrder}
use Rattle.routes.proofs.Bools.{left, right, both}
use Rattle.routes.proofs.Listed.{In, all_of_says, all_of_from}
use Rattle.routes.proofs.Moves.{this_move, later_moves, move_free, via_next}
use Rattle.routes.proofs.Clears.{run_keeps_clear, via_keeps_clear, clear_pieces_keep_clear}
use Rattle.routes.proofs.Paths.{whole_runs_are_lawful}

-- a piece that may join the standing ones
record Fits (net : ℕ) (pieces : List Piece) (n : Piece) : Type 0 where
  is_proper : T (proper n)
  of_net : n.net ≡ net
  clears : (o : Piece) → In o pieces → T (keep_clear o n)

in_append : {X : Type 0} (x : X) (xs ys : List X) → In x (xs ++ ys) → In x xs ⊎ In x ys
in_append x [] ys i = inr i
in_append x (v ∷ xs) ys (inl e) = inl (inl e)
in_append x (v ∷ xs) ys (inr i) = elim (in_append x xs ys i) [ inl h ↦ inl (inr h) | inr h ↦ inr h ]

-- pieces of one net owe one another nothing
one_net_clear : (net : ℕ) (a b : Piece) → T (ltb 0 net) → a.net ≡ net → b.net ≡ net → T (keep_clear a b)
one_net_clear net a b real ea eb = grind (arith, nat_tests)

one_net_all_clear : (net : ℕ) (ns : List Piece) → T (ltb 0 net) → ((n : Piece) → In n ns → n.net ≡ net) → T (clear ns)
one_net_all_clear net [] real of_net = tt
one_net_all_clear net (a ∷ ns) real of_net = both _ _
    (all_of_from (keep_clear a) ns (λ n i. one_net_clear net a n real (of_net a (inl refl)) (of_net n (inr i))))
    (one_net_all_clear net ns real (λ n i. of_net n (inr i)))

clear_append : (ps ns : List Piece) → T (clear ps) → T (clear ns)
    → ((o : Piece) → In o ps → (n : Piece) → In n ns → T (keep_clear o n)) → T (clear (ps ++ ns))
clear_append [] ns h k across = k
clear_append (p ∷ ps) ns h k across = both _ _
    (all_of_from (keep_clear p) (ps ++ ns) (λ n i. elim (in_append n ps ns i) [
      | inl old ↦ all_of_says (keep_clear p) ps (left _ _ h) n old
      | inr new ↦ across p (inl refl) n new
    ]))
    (clear_append ps ns (right _ _ h) k (λ o i n j. across o (inr i) n j))

fits_in_order : (net : ℕ) (ps ns : List Piece) → T (ltb 0 net) → T (in_order ps) → ((n : Piece) → In n ns → Fits net ps n)
    → T (in_order (ps ++ ns))
fits_in_order net ps ns real h fit = both _ _
    (all_of_from proper (ps ++ ns) (λ n i. elim (in_append n ps ns i) [
      | inl old ↦ all_of_says proper ps (left _ _ h) n old
      | inr new ↦ (fit n new).is_proper
    ]))
    (clear_append ps ns (right _ _ h) (one_net_all_clear net ns real (λ n i. (fit n i).of_net))
    (λ o i n j. (fit n j).clears o i))

-- a box that is moved out has a width and a height
moved_out_span : (d a b : ℕ) → 1 ≤ d → T (lt_z (pos (min a b) -ℤ pos d) (pos (max a b) +ℤ pos d))
moved_out_span d a b h = let r : (pos (min a b) -ℤ pos d) <ℤ (pos (max a b) +ℤ pos d) = omega (arith, ints) in r.lt

module _ (c : Class) where
  half_least : 1 ≤ c.half
  half_least = leb→le _ _ (left _ _ (left _ _ (left _ _ c.measured)))

  pad_least : 1 ≤ c.pad
  pad_least = grind (arith, nat_tests)

  laid_proper : (net job layer d : ℕ) (p q : Point) → 1 ≤ d → T (proper (laid c net job layer (moved_out d (box p q))))
  laid_proper net job layer d p q h = both _ _ (moved_out_span d p.x q.x h) (moved_out_span d p.y q.y h)

  -- what is clear of all pieces fits
  laid_fits : (net job layer d : ℕ) (pieces : List Piece) (p q : Point) → 1 ≤ d
      → T (all_of (clear_of layer net c.space (moved_out d (box p q))) pieces)
      → Fits net pieces (laid c net job layer (moved_out d (box p q)))
  laid_fits net job layer d pieces p q h clears = record {
    is_proper = laid_proper net job layer d p q h;
    of_net = refl;
    clears = λ o i.
        (clear_pieces_keep_clear (laid c net job layer (moved_out d (box p q))) o
        (all_of_says (clear_of layer net c.space (moved_out d (box p q))) pieces clears o i)).0;
  }

  -- of the two squares of a via, one is on each layer
  between_layers : (net job d l l' : ℕ) (pieces : List Piece) (p : Point)
      → Fits net pieces (laid c net job l (moved_out d (box p p))) → Fits net pieces (laid c net job l' (moved_out d (box p p)))
      → Fits net pieces (laid c net job (min l l') (moved_out d (box p p))) × Fits net pieces (laid c net job (max l l')
      (moved_out d (box p p)))
  between_layers net job d l l' pieces p f f' = grind (arith, nat_tests)

  module _ (width height layers net job : ℕ) (pieces : List Piece) where
    abbrev AllFit : List Piece → Type 0
    AllFit ns = (n : Piece) → In n ns → Fits net pieces n

    one_fits : (a : Piece) → Fits net pieces a → AllFit (a ∷ [])
    one_fits a f n i = grind (arith, nat_tests)

    two_fit : (a b : Piece) → Fits net pieces a → Fits net pieces b → AllFit (a ∷ b ∷ [])
    two_fit a b f g n i = grind (arith, nat_tests)

    joint_run_fits : (p q : Point) → p.layer ≡ q.layer → AllFit (laid_run c net job p q) → AllFit (joint c net job p q)
    joint_run_fits p q e =
        subst (λ b. AllFit (cond b (laid_run c net job p q) (laid_via c net job p q))) (sym (eq-eqb p.layer q.layer e))

    joint_via_fits : (p q : Point) → (p.layer ≡ q.layer → ⊥) → AllFit (laid_via c net job p q) → AllFit (joint c net job p q)
    joint_via_fits p q ne =
        subst (λ b. AllFit (cond b (laid_run c net job p q) (laid_via c net job p q))) (sym (ne_eqb p.layer q.layer ne))

    run_fits : (p : Point) (m : Move) → T (is_run m) → T (lawful_move (rules_of width height layers c net pieces) p m)
        → AllFit (laid_run c net job p (after p m))
    run_fits p m run ok =
        one_fits (laid c net job p.layer (moved_out c.half (box p (after p m))))
        (laid_fits net job p.layer c.half pieces p (after p m) half_least
        (run_keeps_clear width height layers c net pieces p m run ok))

    -- what joins the ends of a lawful move fits
    joint_fits : (p : Point) (m : Move) → T (lawful_move (rules_of width height layers c net pieces) p m)
        → AllFit (joint c net job p (after p m))
    joint_fits p (along_x x) ok = joint_run_fits p (after p (along_x x)) refl (run_fits p (along_x x) tt ok)
    joint_fits p (along_y y) ok = joint_run_fits p (after p (along_y y)) refl (run_fits p (along_y y) tt ok)
    joint_fits p (to_layer l) ok =
        let R = rules_of width height layers c net pieces in
        let clears = via_keeps_clear width height layers c net pieces p l ok in
        let near : gap p.layer l ≡ 1 = eqb→eq (gap p.layer l) 1 (via_next R p l (move_free R p (to_layer l) ok)) in
        let pads = between_layers net job c.pad p.layer l pieces p
        (laid_fits net job p.layer c.pad pieces p p pad_least clears.0)
        (laid_fits net job l c.pad pieces p p pad_least clears.1) in
        joint_via_fits p (after p (to_layer l)) (λ e. omega arith) (two_fit _ _ pads.0 pads.1)

    laid_from_fits : (p : Point) (r : List Move) → T (lawful (rules_of width height layers c net pieces) p r)
        → AllFit (laid_from c net job p (stops p r))
    laid_from_fits p [] ok n i = absurd i
    laid_from_fits p (m ∷ r) ok n i =
        let R = rules_of width height layers c net pieces in
        elim (in_append n (joint c net job p (after p m)) (laid_from c net job (after p m) (stops (after p m) r)) i) [
          | inl h ↦ joint_fits p m (this_move (lawful_move R) p m r ok) n h
          | inr h ↦ laid_from_fits (after p m) r (later_moves (lawful_move R) p m r ok) n h
        ]

pub laid_pieces_keep_order : LaidPiecesKeepOrder
laid_pieces_keep_order width height layers c net job pieces s r real order go ok =
    let whole = whole_runs_are_lawful width height layers c net pieces s r (left _ _ order)
    go ok in
    fits_in_order net pieces (laid_along c net job (points_of s r)) real order
    (subst (λ points. (n : Piece) → In n (laid_along c net job points) → Fits net pieces n) whole.1
    (laid_from_fits c width height layers net job pieces s (whole_runs s r) whole.0))
