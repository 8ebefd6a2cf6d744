-- When lines along an axis are not drawn. Assumes nothing.
use Rattle.std.proofs.Common.{◌≡◌, ℕ, false, List, Ok, Err, Result, MatchResult, sym, subst, arith}
use Rattle.std.specs.Result.{IsErrAnd}
use Rattle.geometry.specs.declared.piece.Piece.{Piece}
use Rattle.search.specs.declared.lines.Undrawn.{Undrawn}
use Rattle.search.specs.declared.lines.Undrawn.TheVariants.{ShortLists}
use Rattle.search.specs.declared.lines.Undrawn.TheVariants as undrawn
use Rattle.search.specs.declared.request.Refusal.{Refusal}
use Rattle.search.specs.declared.request.Refusal.TheVariants.{TooManyLines}
use Rattle.search.specs.declared.request.Extent.{Extent}
use Rattle.search.specs.Axes.{extent_lines}
use Rattle.search.specs.Drawing.{is_short, ToldDrawn}
use Rattle.search.specs.Told.{ToldAxis}

-- what is told of lines that are drawn, where no list is too short and each refusal is called by the one name
pub told_axis : (e e' : Extent) (ps : List Piece) (out : List ℕ) (r : Result ℕ Undrawn) (s : Result ℕ Refusal) (P : Undrawn → Refusal → Type 0)
    → e ≡ e' → ToldDrawn (extent_lines e ps) out r → is_short r ≡ false → MatchResult r (λ n. s ≡ Ok n) (λ u. IsErrAnd s (P u))
    → ((u : Undrawn) (f : Refusal) → P u f → f ≡ TooManyLines) → ToldAxis (extent_lines e' ps) out s
told_axis e e' ps out r s P is told long same name = subst (λ x. ToldAxis (extent_lines x ps) out s) is (named r s told long same)
  where
    named : (r : Result ℕ Undrawn) (s : Result ℕ Refusal) → ToldDrawn (extent_lines e ps) out r → is_short r ≡ false
        → MatchResult r (λ n. s ≡ Ok n) (λ u. IsErrAnd s (P u)) → ToldAxis (extent_lines e ps) out s
    named (Ok n) s told long same = subst (ToldAxis (extent_lines e ps) out) (sym same) told
    named (Err ShortLists) s told long same = absurd (let z : ◌≡◌ {A = ℕ} 0 1 = cc in omega arith)
    named (Err undrawn.TooManyLines) (Ok n) told long same = absurd same
    named (Err undrawn.TooManyLines) (Err f) told long same = subst (λ v. ToldAxis (extent_lines e ps) out (Err v)) (sym (name _ f same)) told
