-- The first piece in the way answers the question. Assumes nothing.
use Rattle.std.proofs.Common.{◌≡◌, ℕ, Bool, true, false, cond, not, ◌&&◌, ◌||◌, T, eqb, List, [], ◌∷◌, Some, None, Option, Bor, sym, refl, ap, ◌∙◌, subst}
use Rattle.std.specs.List.{find}
use Rattle.std.specs.Option.{MatchOption, option_map}
use Rattle.std.proofs.lemmas.Bool.{eq-eqb}
use Rattle.geometry.specs.declared.piece.Piece.{Piece}
use Rattle.geometry.specs.declared.question.Question.{Question}
use Rattle.geometry.specs.Zones.{in_way, none_in_way, in_way_by}
use Rattle.registers.specs.Standing.{ToldInWay}

abbrev job_of : Option Piece → Option ℕ
job_of = option_map (λ p. p.job)

-- one piece more in front, of which b says whether it is in the way
told_more : (b : Bool) (p : Piece) (r : Option Piece) (free : Bool) (told : ℕ → Bool)
    → MatchOption (job_of r) (T free) (λ j. T (told j))
    → MatchOption (job_of (cond b (Some p) r)) (T (not b && free)) (λ j. T ((b && eqb p.job j) || told j))
told_more true p r free told h = rw (eq-eqb p.job p.job refl) tt
told_more false p r free told h = h

first_told : (q : Question) (ps : List Piece) → ToldInWay q ps (job_of (find (in_way q) ps))
first_told q [] = tt
first_told q (p ∷ ps) =
    told_more (in_way q p) p (find (in_way q) ps) (none_in_way q ps) (in_way_by q ps) (first_told q ps)

job_behind : (r : Option (Bor Piece)) → option_map (λ p. p.now.job) r ≡ job_of (option_map (λ p. p.now) r)
job_behind None = refl
job_behind (Some p) = refl

pub told_by_first : (q : Question) (ps : List Piece) (first : Option (Bor Piece)) (r : Option ℕ)
    → option_map (λ p. p.now) first ≡ find (in_way q) ps → r ≡ option_map (λ p. p.now.job) first → ToldInWay q ps r
told_by_first q ps first r found is =
    subst (ToldInWay q ps) (sym (is ∙ job_behind first ∙ ap job_of found)) (first_told q ps)
