-- Chains that are empty, and chains that grow by one piece. Assumes nothing.
use Rattle.std.proofs.Common.{◌≡◌, ℕ, zero, suc, ◌+◌, ◌<◌, ◌≤◌, true, List, [], ◌∷◌, ◌++◌, None, Some, Option, length, get_or, set, sym, refl, ap, ◌∙◌, subst, inl, inr, arith, get_or-set_other, get_or-set_same, length-append, length-take}
use Rattle.std.specs.Option.{is_none, unwrap_or}
use Rattle.std.proofs.Math.ListN.{get_or-append}
use Rattle.std.proofs.Math.Seq.{get_or-append_seam}
use Rattle.std.proofs.lemmas.Bool.{and_parts, cases_eq}
use Rattle.geometry.specs.declared.piece.Piece.{Piece}
use Rattle.geometry.specs.Lists.{all_of}
use Rattle.registers.specs.declared.chain.Chain.{Chain}
use Rattle.registers.specs.declared.chains.Chains.{Chains}
use Rattle.registers.specs.declared.slots.Slots.{Slots}
use Rattle.registers.specs.Standing.{no_piece}
use Rattle.registers.specs.Filled.{standing}
use Rattle.registers.specs.Strips.{chain_of, unused, chain_with, within_chain}
use Rattle.registers.specs.Chainings.{no_chain, piece_at, chain_at, head_at, place_of, last_in, PutLast, Chained}
use Rattle.registers.proofs.Bounds.{within_more, within_itself}
use Rattle.registers.proofs.Places.{chain_below}
use Rattle.registers.proofs.Lasts.{upto, place_of_link, last_is, last_same, last_other, last_alike}

none_of : (last : Option ℕ) → is_none last ≡ true → last ≡ None
none_of None h = refl
none_of (Some k) h = cc

last_unused : (heads : List Chain) (s : ℕ) → all_of unused heads ≡ true → (get_or heads s no_chain).last ≡ None
last_unused [] s h = refl
last_unused (c ∷ heads) zero h = none_of c.last (and_parts (unused c) (all_of unused heads) h).0
last_unused (c ∷ heads) (suc s) h = last_unused heads s (and_parts (unused c) (all_of unused heads) h).1

pub chained_none : (s : Slots) (c : Chains) → s.count ≡ 0 → all_of unused c.heads ≡ true → Chained (standing s) c
chained_none s c none-stands none =
    let ps = standing s in
    let e : length ps ≡ 0 = simp length-take (omega arith) in
    record {
      linked = λ i h. absurd (let no : ⊥ = omega arith in no);
      headed = λ v h. last_unused c.heads v none ∙ ap (last_in (chain_at c.strips.height ps) v) (sym e);
      bounded = λ i h. absurd (let no : ⊥ = omega arith in no);
    }

-- the piece p behind all others is put at the end of its chain
pub chained_more : (ps : List Piece) (p : Piece) (before after : Chains)
    → length ps < length before.links.now → length ps ≤ 4096
    → PutLast (length ps) p before after → Chained ps before → Chained (ps ++ (p ∷ [])) after
chained_more ps p before after n-in few put old =
    let n = length ps in
    let rs = ps ++ (p ∷ []) in
    let height = before.strips.height in
    let f = chain_at height ps in
    let g = chain_at after.strips.height rs in
    let s = chain_of height p in
    let head = head_at before s in
    let next = chain_with n p head in
    let below : s < 256 = chain_below height p in
    let long : length rs ≡ n + 1 = simp length-append in
    let cut : after.strips.height ≡ height = ap (λ (v : _). v.height) put.strips in
    let here : piece_at rs n ≡ p = get_or-append_seam ps p [] no_piece in
    let kept : (k : ℕ) → k < n → piece_at rs k ≡ piece_at ps k = λ k h. get_or-append ps (p ∷ []) no_piece k h in
    let alike : (k : ℕ) → k < n → f k ≡ g k =
    λ k h. sym (ap (λ v. chain_of v (piece_at rs k)) cut ∙ ap (chain_of height) (kept k h)) in
    let mine : g n ≡ s = ap (λ v. chain_of v (piece_at rs n)) cut ∙ ap (chain_of height) here in
    let last : head.last ≡ last_in g s n = old.headed s below ∙ last_alike f g s n alike in
    let at : (v : ℕ) → head_at after v ≡ get_or (set before.heads s next) v no_chain =
    λ v. ap (λ (l : List Chain). get_or l v no_chain) put.heads in
    let grown : head_at after s ≡ next = at s ∙ get_or-set_same before.heads s next no_chain put.inside in
    let other : (v : ℕ) → (v ≡ s → ⊥) → head_at after v ≡ head_at before v =
    λ v ne. at v ∙ get_or-set_other before.heads s v next no_chain ne in
    let link = unwrap_or head.last 65535 in
    record {
      linked = λ i h. elim (cases_eq i n) [
        | inl e ↦
            subst (λ k. place_of (get_or after.links.now k 0) ≡ last_in g (g k) k) (sym e)
            (ap (λ (l : List ℕ). place_of (get_or l n 0)) put.links
            ∙ ap place_of (get_or-set_same before.links.now n link 0 n-in)
            ∙ place_of_link head.last (let fits : upto (last_in g s n) ≤ 65535 = omega (arith, (last_is g s n).within) in subst (λ v. upto v ≤ 65535) (sym last) fits)
            ∙ last
            ∙ ap (λ v. last_in g v n) (sym mine))
        | inr ne ↦
            let i-in : i < n = omega arith in
            ap (λ (l : List ℕ). place_of (get_or l i 0)) put.links
            ∙ ap place_of (get_or-set_other before.links.now n i link 0 ne)
            ∙ old.linked i i-in
            ∙ last_alike f g (f i) i (λ k l. alike k (omega arith))
            ∙ ap (λ v. last_in g v i) (alike i i-in)
      ];
      headed = λ v v-in. elim (cases_eq v s) [
        | inl e ↦
            ap (λ k. (head_at after k).last) e
            ∙ ap (λ (c : Chain). c.last) grown
            ∙ sym (last_same g v n (mine ∙ sym e))
            ∙ ap (last_in g v) (sym long)
        | inr ne ↦
            ap (λ (c : Chain). c.last) (other v ne)
            ∙ old.headed v v-in
            ∙ last_alike f g v n alike
            ∙ sym (last_other g v n (λ e. ne (sym e ∙ mine)))
            ∙ ap (last_in g v) (sym long)
      ];
      bounded = λ i h. elim (cases_eq i n) [
        | inl e ↦
            subst (λ k. within_chain (head_at after (g k)) (piece_at rs k) ≡ true) (sym e)
            (ap (λ v. within_chain (head_at after v) (piece_at rs n)) mine
            ∙ ap (λ (c : Chain). within_chain c (piece_at rs n)) grown
            ∙ ap (within_chain next) here
            ∙ within_itself head n p)
        | inr ne ↦
            let i-in : i < n = omega arith in
            let was : within_chain (head_at before (g i)) (piece_at rs i) ≡ true =
            ap (λ v. within_chain (head_at before v) (piece_at rs i)) (sym (alike i i-in))
            ∙ ap (within_chain (head_at before (f i))) (kept i i-in)
            ∙ old.bounded i i-in in
            elim (cases_eq (g i) s) [
              | inl e ↦
                  ap (λ v. within_chain (head_at after v) (piece_at rs i)) e
                  ∙ ap (λ (c : Chain). within_chain c (piece_at rs i)) grown
                  ∙ within_more head n p (piece_at rs i) (ap (λ v. within_chain (head_at before v) (piece_at rs i)) (sym e) ∙ was)
              | inr e ↦ ap (λ (c : Chain). within_chain c (piece_at rs i)) (other (g i) e) ∙ was
            ]
      ];
    }
