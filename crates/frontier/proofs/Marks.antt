-- Marks of different kinds differ, and marks of one kind agree in their parts. Assumes nothing.
use Rattle.std.proofs.Common.{◌≡◌, ℕ, arith}
use Rattle.frontier.specs.Front.{Mark, unseen, waits, settled}

module _ {M : Type 0} where
  pub not_both : (m : Mark M) (a b : M) (p q : ℕ) → m ≡ waits a p → m ≡ settled b q → ⊥
  not_both m a b p q h k = let z : ◌≡◌ {A = ℕ} 0 1 = cc in omega arith

  pub unseen_settled : (m : Mark M) (a : M) (p : ℕ) → m ≡ unseen → m ≡ settled a p → ⊥
  unseen_settled m a p h k = let z : ◌≡◌ {A = ℕ} 0 1 = cc in omega arith

  pub settled_same : (m : Mark M) (a b : M) (p q : ℕ) → m ≡ settled a p → m ≡ settled b q → a ≡ b
  settled_same m a b p q h k = cc
