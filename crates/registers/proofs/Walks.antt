-- A walk along one chain, and what it tells of the question. Assumes nothing.
use Rattle.std.proofs.Common.{◌≡◌, ℕ, suc, ◌<◌, ◌≤◌, false, not, ◌&&◌, T, List, [], ◌∷◌, Some, Option, length, get_or, sym, ap, ◌∙◌, subst, inl, inr, arith}
use Rattle.std.proofs.lemmas.Bool.{cases_eq, cases_lt}
use Rattle.geometry.specs.declared.piece.Piece.{Piece}
use Rattle.geometry.specs.declared.question.Question.{Question}
use Rattle.geometry.specs.Zones.{in_way, none_in_way}
use Rattle.registers.specs.declared.chains.Chains.{Chains}
use Rattle.registers.specs.Chainings.{piece_at, chain_at, head_at, place_of, last_in, Chained}
use Rattle.registers.proofs.Lasts.{upto, Last, last_is}

-- The pieces of chain s behind a place are not in the way, and the place, if there is one, is of the chain.
pub record Seen (q : Question) (ps : List Piece) (c : Chains) (s : ℕ) (place : Option ℕ) : Type 0 where
  pub within : upto place ≤ length ps
  pub here : (i : ℕ) → place ≡ Some i → chain_at c.strips.height ps i ≡ s
  pub past : (k : ℕ) → upto place ≤ k → k < length ps → chain_at c.strips.height ps k ≡ s → in_way q (piece_at ps k) ≡ false

module _ (q : Question) (ps : List Piece) (c : Chains) (s : ℕ) (chained : Chained ps c) where
  -- at the chain's last piece nothing is passed
  pub seen_none : (place : Option ℕ) → s < 256 → place ≡ (head_at c s).last → Seen q ps c s place
  seen_none place s-in is =
      let f = chain_at c.strips.height ps in
      let l : Last f s (length ps) place = subst (Last f s (length ps)) (sym (is ∙ chained.headed s s-in)) (last_is f s (length ps)) in
      record { within = l.within; here = l.here; past = λ k low high in-s. absurd (l.past k low high in-s) }

  -- where the link of a place leads
  pub next_is : (i : ℕ) (place next : Option ℕ) → Seen q ps c s place → place ≡ Some i → next ≡ place_of (get_or c.links.now i 0)
      → Last (chain_at c.strips.height ps) s i next
  next_is i place next seen at is =
      let f = chain_at c.strips.height ps in
      let e : next ≡ last_in f s i =
      is ∙ chained.linked i (omega (arith, seen.within, ap upto at)) ∙ ap (λ v. last_in f v i) (seen.here i at) in
      subst (Last f s i) (sym e) (last_is f s i)

  pub seen_more : (i : ℕ) (place next : Option ℕ) → Seen q ps c s place → place ≡ Some i → next ≡ place_of (get_or c.links.now i 0)
      → in_way q (piece_at ps i) ≡ false → Seen q ps c s next
  seen_more i place next seen at is free =
      let l : Last (chain_at c.strips.height ps) s i next = next_is i place next seen at is in
      record {
        within = omega (arith, l.within, seen.within, ap upto at);
        here = l.here;
        past = λ k low high in-s. elim (cases_lt k i) [
          | inl lt ↦ absurd (l.past k low lt in-s)
          | inr ge ↦ elim (cases_eq k i) [
            | inl same ↦ ap (λ j. in_way q (piece_at ps j)) same ∙ free
            | inr ne ↦ seen.past k (omega (arith, ap upto at)) high in-s
          ]
        ];
      }

-- no piece of a list is in the way
pub none_in_way_of : (q : Question) (ps : List Piece)
    → ((k : ℕ) → k < length ps → in_way q (piece_at ps k) ≡ false) → T (none_in_way q ps)
none_in_way_of q [] free = tt
none_in_way_of q (p ∷ ps) free =
    let first : in_way q p ≡ false = free 0 (omega arith) in
    subst (λ b. T (not b && none_in_way q ps)) (sym first) (none_in_way_of q ps (λ k h. free (suc k) (omega arith)))
