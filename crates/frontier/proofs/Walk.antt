-- Following the notes back to the start. Assumes nothing.
use Rattle.std.proofs.Common.{◌≡◌, ℕ, ◌<◌, List, [], ◌∷◌, ◌++◌, length, get_or, Some, None, Option, MatchOption, IfSome, sym, refl, ap, ◌∙◌, subst, arith}
use native.Mathlib.Decide.{dec_lt}
use Rattle.std.specs.List.{AllByRecursion}
use Rattle.std.proofs.lemmas.List.{get_or_past, get_or_append_left}
use Rattle.frontier.specs.declared.note.Note.{Note}
use Rattle.frontier.specs.declared.note.Note.TheVariants.{Unseen, Waiting, Settled}
use Rattle.frontier.specs.Routes.{Search, HasNoRoute}
use Rattle.frontier.specs.Front.{settled, Trail}
use Rattle.frontier.specs.Held.{mark, marks, Traced, Reached}
use Rattle.frontier.specs.Ways.{Leads}
use Rattle.frontier.proofs.Trails.{trail_kept}

mark_settled : {C M : Type 0} (means : C → M) (x : Note C) (b : M) (p : ℕ)
    → mark means x ≡ settled b p → (a : C) × (x ≡ Settled a p)
mark_settled means Unseen b p h = let z : ◌≡◌ {A = ℕ} 0 1 = cc in absurd (omega arith)
mark_settled means (Waiting a q) b p h = let z : ◌≡◌ {A = ℕ} 0 1 = cc in absurd (omega arith)
mark_settled means (Settled a q) b p h = let f : q ≡ p = cc in (a, ap (Settled a) f)

module _ {C M : Type 0} (g : Search M) (means : C → M) (notes : List (Note C)) where
  -- a trail ends at the start, so what it passes by is not the start
  trail_ends : (back : List ℕ) (u : ℕ) (a : M) (w : ℕ) → Trail g (marks means notes) u back a → AllByRecursion (λ x. x ≡ w → ⊥) (u ∷ back)
      → w ≡ g.from → ⊥
  trail_ends [] u a w r fresh e = fresh.0 (r.2 ∙ sym e)
  trail_ends (p ∷ back) u a w r fresh e = trail_ends back p r.0 w r.3 fresh.1 e

  pub trail_leads : (back : List ℕ) (u : ℕ) (a : M) → Trail g (marks means notes) u back a → Leads notes g.from u back
  trail_leads [] u a r = r.2
  trail_leads (p ∷ back) u a r =
      let k = mark_settled means (get_or notes u Unseen) a p r.2 in
      (trail_ends back p r.0 u r.3 r.6, k.0, k.1, trail_leads back p r.0 r.3)

settled_in : {C : Type 0} (notes : List (Note C)) (u : ℕ) (a : C) (p : ℕ) → get_or notes u Unseen ≡ Settled a p → u < length notes
settled_in notes u a p h = elim (dec_lt u (length notes))
    [ yes l ↦ l | no n ↦ absurd (past (get_or_past notes u Unseen (omega arith))) ]
  where
    past : get_or notes u Unseen ≡ Unseen → ⊥
    past e = let z : ◌≡◌ {A = ℕ} 0 1 = cc in omega arith

-- what the first notes of a list say, the whole list says
module _ {C : Type 0} (first rest : List (Note C)) where
  settled_front : (u : ℕ) (a : C) (p : ℕ) → get_or first u Unseen ≡ Settled a p → get_or (first ++ rest) u Unseen ≡ Settled a p
  settled_front u a p h = get_or_append_left first rest Unseen u (settled_in first u a p h) ∙ h

  leads_front : (from : ℕ) (back : List ℕ) (u : ℕ) → Leads first from u back → Leads (first ++ rest) from u back
  leads_front from [] u h = h
  leads_front from (p ∷ back) u h = (h.0, h.1, settled_front u h.1 p h.2, leads_front from back p h.3)

  pub traced_front : {M : Type 0} (g : Search M) (means : C → M) (t : ℕ) (a : M) → Traced g means first t a
      → Traced g means (first ++ rest) t a
  traced_front {M} g means t a r = record {
    back = r.back;
    trail = trail_kept g (marks means first) (marks means (first ++ rest)) kept r.back t a r.trail;
    leads = leads_front g.from r.back t r.leads;
    few = r.few;
  }
    where
      kept : (u : ℕ) (x : M) (p : ℕ) → marks means first u ≡ settled x p → marks means (first ++ rest) u ≡ settled x p
      kept u x p h =
          let k = mark_settled means (get_or first u Unseen) x p h in
          ap (mark means) (get_or_append_left first rest Unseen u (settled_in first u k.0 p k.1)) ∙ h

  -- what a search of the first notes found
  pub found_front : {M : Type 0} (g : Search M) (means : C → M) (t : ℕ) (r : Option C)
      → MatchOption r (HasNoRoute g t) (λ a. Reached g means first t (means a))
      → IfSome r (λ a. Traced g means (first ++ rest) t (means a))
  found_front g means t None h = tt
  found_front g means t (Some a) h = traced_front g means t (means a) h.traced

-- the notes lead one way
pub leads_one : {C : Type 0} (notes : List (Note C)) (from : ℕ) (back other : List ℕ) (u : ℕ)
    → Leads notes from u back → Leads notes from u other → back ≡ other
leads_one notes from [] [] u h k = refl
leads_one notes from [] (q ∷ other) u h k = absurd (k.0 h)
leads_one notes from (p ∷ back) [] u h k = absurd (h.0 k)
leads_one notes from (p ∷ back) (q ∷ other) u h k =
    let same : p ≡ q = next h.2 k.2 in
    let rest : back ≡ other = leads_one notes from back other p h.3
    (subst (λ x. Leads notes from x other) (sym same) k.3) in
    cc
  where
    next : get_or notes u Unseen ≡ Settled h.1 p → get_or notes u Unseen ≡ Settled k.1 q → p ≡ q
    next x y = cc
