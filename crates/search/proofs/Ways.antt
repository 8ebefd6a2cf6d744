-- What a register's answer says of what is in the way. Assumes nothing.
use Rattle.std.proofs.Common.{◌≡◌, ℕ, Bool, true, false, not, ◌&&◌, T, eqb, List, [], ◌∷◌, is_some, Some, None, Option, sym, refl, ap, ◌∙◌, inl, inr}
use Rattle.geometry.specs.declared.piece.Piece.{Piece}
use Rattle.geometry.specs.declared.question.Question.{Question}
use Rattle.geometry.specs.Zones.{in_way, none_in_way, in_way_by}
use Rattle.registers.specs.Standing.{ToldInWay}
use Rattle.search.specs.Lattices.{T_true}
use Rattle.routes.proofs.Bools.{left, either}

some_in_way : (q : Question) (ps : List Piece) (job : ℕ) → T (in_way_by q ps job) → false ≡ none_in_way q ps
some_in_way q [] job h = absurd h
some_in_way q (p ∷ ps) job h = elim (either (in_way q p && eqb p.job job) (in_way_by q ps job) h) [
  | inl k ↦ here (in_way q p) (left (in_way q p) (eqb p.job job) k)
  | inr k ↦ there (not (in_way q p)) (some_in_way q ps job k)
]
  where
    here : (b : Bool) → T b → false ≡ (not b && none_in_way q ps)
    here true t = refl
    here false t = absurd t

    there : (b : Bool) → false ≡ none_in_way q ps → false ≡ (b && none_in_way q ps)
    there true e = e
    there false e = refl

not_not : (r : Bool) → r ≡ not (not r)
not_not true = refl
not_not false = refl

told : (q : Question) (ps : List Piece) (o : Option ℕ) → ToldInWay q ps o → not (is_some o) ≡ none_in_way q ps
told q ps None h = sym (T_true (none_in_way q ps) h)
told q ps (Some job) h = some_in_way q ps job h

pub told_free : (q : Question) (ps : List Piece) (o : Option ℕ) (r : Bool) → ToldInWay q ps o → is_some o ≡ not r
    → r ≡ none_in_way q ps
told_free q ps o r h e = not_not r ∙ (ap not (sym e) ∙ told q ps o h)
