-- What a register's pieces answer, and what adding and taking out make of them. Assumes nothing.
--     appended_if r p ps      the pieces with p behind them if r, else as they are
--     of_job job p            a piece has this job number
--     without_job job ps      the pieces of all other jobs, in their order
--     count_of_job job ps     how many pieces have the number
--     Compacted               what is left of some pieces without those of a job is in the first k slots
--     ToldPiece ps k r        r is the k-th piece from 0, or absent
--     ToldInWay q ps r        r is the job number of a piece in the way, or absent
use Rattle.std.specs.Prelude.{◌≡◌, ℕ, ◌+◌, ◌<◌, ◌≤◌, Bool, cond, not, T, List, [], ◌∷◌, ◌++◌, length, take, filter, Option, MatchOption, pos, ◌==◌, slice_index_or, refl}
use Rattle.std.proofs.lemmas.List.Filters.{length-filter_both}
use Rattle.geometry.specs.declared.rect.Span.{Span}
use Rattle.geometry.specs.declared.piece.Mark.TheVariants.{Placed}
use Rattle.geometry.specs.declared.piece.Piece.{Piece}
use Rattle.geometry.specs.declared.question.Question.{Question}
use Rattle.geometry.specs.Zones.{none_in_way, in_way_by}

-- what a read past the pieces would give
abbrev pub no_piece : Piece
no_piece =
    let none : Span = record { low = pos 0; high = pos 0 } in
    record { layer = 0; rect = record { x = none; y = none }; net = 0; space = 0; job = 0; mark = Placed }

abbrev pub appended_if : Bool → Piece → List Piece → List Piece
appended_if r p ps = cond r (ps ++ (p ∷ [])) ps

abbrev pub of_job : ℕ → Piece → Bool
of_job job p = p.job == job

abbrev pub without_job : ℕ → List Piece → List Piece
without_job job = filter (λ p. not (of_job job p))

abbrev pub count_of_job : ℕ → List Piece → ℕ
count_of_job job ps = length (filter (of_job job) ps)

-- What goes and what is left are all that stood.
pub count_and_rest : (job : ℕ) (ps : List Piece) → count_of_job job ps + length (without_job job ps) ≡ length ps
count_and_rest job ps = length-filter_both (of_job job) (λ p. not (of_job job p)) (λ _. refl) ps

pub record Compacted (job : ℕ) (before : List Piece) (k : ℕ) (slots : List Piece) : Type 0 where
  pub stands : take k slots ≡ without_job job before
  pub left : k + count_of_job job before ≡ length before

-- p is the k-th piece, counted from 0
pub record StandsAt (ps : List Piece) (k : ℕ) (p : Piece) : Type 0 where
  pub inside : k < length ps
  pub is : p ≡ slice_index_or ps k p

-- absent exactly if there are no more than k pieces
abbrev pub ToldPiece : List Piece → ℕ → Option Piece → Type 0
ToldPiece ps k r = MatchOption r (length ps ≤ k) (StandsAt ps k)

-- absent exactly if no piece is in the way, else the job number of one that is
abbrev pub ToldInWay : Question → List Piece → Option ℕ → Type 0
ToldInWay q ps r = MatchOption r (T (none_in_way q ps)) (λ job. T (in_way_by q ps job))
