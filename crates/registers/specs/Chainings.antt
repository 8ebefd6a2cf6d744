-- When pieces are chained. Assumes nothing.
--     piece_at ps k           the k-th piece, counted from 0
--     chain_at height ps k    the chain that it belongs to
--     head_at c s             the chain s
--     place_of k              where a link leads
--     last_in f s n           the last of the first n places that is in chain s, if one is
--     PutLast i p             a piece is put at the end of its chain
--     Linked, Headed, Bounded, together Chained      what chains of pieces keep
--     Rechained ps            some pieces are chained, and no others
use Rattle.std.specs.Prelude.{◌≡◌, ℕ, zero, suc, ◌<◌, true, cond, List, length, pos, Some, None, Option, unwrap_or, ◌==◌, slice_index, slice_index_or, slice_set}
use Rattle.geometry.specs.declared.piece.Piece.{Piece}
use Rattle.registers.specs.declared.chain.Chain.{Chain}
use Rattle.registers.specs.declared.chains.Chains.{Chains}
use Rattle.registers.specs.declared.chains.TheConstants.{NO_PIECE}
use Rattle.registers.specs.Standing.{no_piece}
use Rattle.registers.specs.Strips.{chain_of, chain_with, within_chain}

-- what a read past the chains would give
abbrev pub no_chain : Chain
no_chain = record { last = None; space = 0; y = record { low = pos 0; high = pos 0 } }

abbrev pub piece_at : List Piece → ℕ → Piece
piece_at ps k = slice_index_or ps k no_piece

abbrev pub chain_at : ℕ → List Piece → ℕ → ℕ
chain_at height ps k = chain_of height (piece_at ps k)

abbrev pub head_at : Chains → ℕ → Chain
head_at c s = slice_index_or c.heads s no_chain

abbrev pub place_of : ℕ → Option ℕ
place_of k = cond (k == NO_PIECE) None (Some k)

abbrev pub last_in : (ℕ → ℕ) → ℕ → ℕ → Option ℕ
last_in f s zero = None
last_in f s (suc n) = cond (f n == s) (Some n) (last_in f s n)

-- The piece p at i is put at the end of its chain.
pub record PutLast (i : ℕ) (p : Piece) (before after : Chains) : Type 0 where
  pub inside : chain_of before.strips.height p < length before.heads
  pub links :
      after.links.now ≡ slice_set before.links.now i (unwrap_or (head_at before (chain_of before.strips.height p)).last NO_PIECE)
  pub heads :
      let s = chain_of before.strips.height p in after.heads ≡ slice_set before.heads s (chain_with i p (head_at before s))
  pub strips : after.strips ≡ before.strips

-- Each piece leads to the one before it in its chain.
abbrev pub Linked : List Piece → Chains → Type 0
Linked ps c =
    let f = chain_at c.strips.height ps in
    (i : ℕ) → i < length ps → place_of (slice_index c.links.now i) ≡ last_in f (f i) i

-- Each chain leads to its last piece.
abbrev pub Headed : List Piece → Chains → Type 0
Headed ps c =
    (s : ℕ) → s < 256 → (head_at c s).last ≡ last_in (chain_at c.strips.height ps) s (length ps)

-- Each piece is within the bounds of its chain.
abbrev pub Bounded : List Piece → Chains → Type 0
Bounded ps c =
    (i : ℕ) → i < length ps → within_chain (head_at c (chain_at c.strips.height ps i)) (piece_at ps i) ≡ true

pub record Chained (ps : List Piece) (c : Chains) : Type 0 where
  pub linked : Linked ps c
  pub headed : Headed ps c
  pub bounded : Bounded ps c

pub record Rechained (ps : List Piece) (before after : Chains) : Type 0 where
  pub chained : Chained ps after
  pub links : length after.links.now ≡ length before.links.now
  pub strips : after.strips ≡ before.strips
