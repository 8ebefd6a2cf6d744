-- Counting and writing the nodes that notes lead back. Assumes nothing.
use Rattle.std.proofs.lemmas.Bool.Decides.{nat_tests}
use Rattle.std.proofs.Common.{◌≡◌, ℕ, ◌+◌, ◌<◌, List, [], ◌∷◌, ◌++◌, length, take, set, Some, sym, ap, ◌∙◌, arith, append_assoc, length-set}
use Rattle.std.specs.Option.{unwrap_or}
use Rattle.std.proofs.lemmas.List.{take_more_set}
use Rattle.frontier.specs.declared.note.Note.{Note}
use Rattle.frontier.specs.Ways.{previous_node, before_of, Leads}

module _ {C : Type 0} (notes : List (Note C)) (from : ℕ) where
  -- the node before one that is not the start, and the way on from it
  pub next_node : (u : ℕ) (rest : List ℕ) → (u ≡ from → ⊥) → Leads notes from u rest
      → (p : ℕ) × (later : List ℕ) × (before_of notes u ≡ Some p) × Leads notes from p later × (length rest ≡ length later + 1)
  next_node u [] ne h = absurd (ne h)
  next_node u (p ∷ back) ne h = (p, back, ap previous_node h.2, h.3, omega arith)

  -- a way from the node before u goes on from u
  pub leads_more : (u p : ℕ) (rest : List ℕ) → (u ≡ from → ⊥) → before_of notes u ≡ Some p → Leads notes from p rest
      → Leads notes from u (p ∷ rest)
  leads_more u p rest ne is h = grind (arith, nat_tests)

  -- what is still to be written begins at u
  abbrev LeadsOn : ℕ → List ℕ → Type 0
  LeadsOn u [] = Unit {0}
  LeadsOn u (x ∷ rest) = (x ≡ u) × Leads notes from x rest

  -- the nodes `ahead` are still to be written, to the places from i on
  pub record Filling (u i : ℕ) (way nodes : List ℕ) : Type 0 where
    pub ahead : List ℕ
    pub long : i + length ahead ≡ length way
    pub leads : LeadsOn u ahead
    pub whole : take i way ++ ahead ≡ nodes

  pub fill_step : (u i : ℕ) (way nodes : List ℕ) → i < length way → Filling u i way nodes
      → Filling (unwrap_or (before_of notes u) u) (i + 1) (set way i u) nodes
  fill_step u i way nodes fits F = go F.ahead F.long F.leads F.whole
    where
      on : (x : ℕ) (rest : List ℕ) → x ≡ u → Leads notes from x rest → LeadsOn (unwrap_or (before_of notes u) u) rest
      on x [] e h = tt
      on x (p ∷ rest) e h =
          let before : before_of notes u ≡ Some p = ap (before_of notes) (sym e) ∙ ap previous_node h.2 in
          (sym (ap (λ o. unwrap_or o u) before), h.3)

      go : (ahead : List ℕ) → i + length ahead ≡ length way → LeadsOn u ahead → take i way ++ ahead ≡ nodes
          → Filling (unwrap_or (before_of notes u) u) (i + 1) (set way i u) nodes
      go [] l h w = absurd (omega arith)
      go (x ∷ rest) l h w = record {
        ahead = rest;
        long = omega (arith, length-set way i u);
        leads = on x rest h.0 h.1;
        whole = ap (λ ns. ns ++ rest) (take_more_set way i u fits) ∙ append_assoc (take i way) (u ∷ []) rest
            ∙ ap (λ n. take i way ++ n ∷ rest) (sym h.0) ∙ w;
      }
