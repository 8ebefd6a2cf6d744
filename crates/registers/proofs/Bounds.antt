-- Pieces within the bounds of a chain. Assumes nothing.
use Rattle.std.proofs.Common.{◌≡◌, ℕ, ◌+◌, ◌≤◌, max, true, false, ◌&&◌, leb, ℤ, pos, ◌+ℤ◌, ◌-ℤ◌, arith}
use lib.Signed.{lt_z, le_z}
use Rattle.std.specs.Int.{int_min, int_max}
use Rattle.std.proofs.lemmas.Bool.{and_parts, and_from, leb-true}
use Rattle.std.proofs.lemmas.Bool.Decides.{nat_tests}
use Rattle.std.proofs.lemmas.Int.{ints}
use Rattle.geometry.specs.declared.piece.Piece.{Piece}
use Rattle.geometry.specs.declared.question.Question.{Question}
use Rattle.geometry.specs.Zones.{crosses, zone, in_way}
use Rattle.registers.specs.declared.chain.Chain.{Chain}
use Rattle.registers.specs.Strips.{chain_with, within_chain, chain_near}

-- a chain with one piece more bounds what it bounded
pub within_more : (c : Chain) (k : ℕ) (p r : Piece)
    → within_chain c r ≡ true → within_chain (chain_with k p c) r ≡ true
within_more c k p r h =
    let low = and_parts (le_z c.y.low r.rect.y.low) _ h in
    let high = and_parts (le_z r.rect.y.high c.y.high) _ low.1 in
    let lower : le_z (int_min c.y.low p.rect.y.low) r.rect.y.low ≡ true = grind (arith, ints) in
    let higher : le_z r.rect.y.high (int_max c.y.high p.rect.y.high) ≡ true = grind (arith, ints) in
    let space : leb r.space (max c.space p.space) ≡ true = grind (arith, nat_tests) in
    and_from _ _ lower (and_from _ _ higher space)

-- and that piece
pub within_itself : (c : Chain) (k : ℕ) (p : Piece) → within_chain (chain_with k p c) p ≡ true
within_itself c k p = grind (arith, ints, nat_tests)

-- borders that lie further in, moved out no further, cross no more
crosses_less : (low low' high high' a b : ℤ) (out out' : ℕ) → le_z low low' ≡ true → le_z high' high ≡ true → out' ≤ out
    → (lt_z (low -ℤ pos out) b && lt_z a (high +ℤ pos out)) ≡ false
    → (lt_z (low' -ℤ pos out') b && lt_z a (high' +ℤ pos out')) ≡ false
crosses_less low low' high high' a b out out' l h o e = grind (arith, ints)

-- a piece within the bounds of a chain that is not near is not in the way
pub not_in_way : (q : Question) (c : Chain) (p : Piece)
    → within_chain c p ≡ true → chain_near q c ≡ false → in_way q p ≡ false
not_in_way q c p h e =
    let low = and_parts (le_z c.y.low p.rect.y.low) _ h in
    let high = and_parts (le_z p.rect.y.high c.y.high) _ low.1 in
    let apart : crosses (zone p q.reach q.space).y q.area.y ≡ false =
    crosses_less c.y.low p.rect.y.low c.y.high p.rect.y.high q.area.y.low q.area.y.high
    (q.reach + max q.space c.space) (q.reach + max q.space p.space) low.0 high.0 (omega (arith, leb-true _ _ high.1)) e in
    grind (arith, apart)

-- nor is a piece on another layer
pub not_on_layer : (q : Question) (p : Piece) → (p.layer ≡ q.layer → ⊥) → in_way q p ≡ false
not_on_layer q p other = grind (arith, nat_tests)
