-- What a search from one node outwards knows at each moment, in the meanings of amounts. Assumes nothing.
--     Mark                what is noted of a node
--     settled_below f k   how many nodes below k are settled
--     Joined              one more entry waits
--     Marked              the mark of one node was changed
--     Trail               the way back from a settled node to the start
--     Frontier            what holds between two steps of the search
--     Light               the bulks of the noted amounts are small
use Rattle.std.specs.Prelude.{◌≡◌, ℕ, zero, suc, ◌+◌, ◌*◌, ◌<◌, ◌≤◌, ◌⊎◌, List, [], ◌∷◌, length, ◌≢◌}
use Rattle.std.specs.List.{AllByRecursion}
use Rattle.frontier.specs.Routes.{Search, Leq, Move, Route}

-- nothing; or the best amount so far and the node before, which may still change or stand for good
pub data Mark (M : Type 0) : Type 0 where
  unseen : Mark M
  waits : M → ℕ → Mark M
  settled : M → ℕ → Mark M

abbrev pub once : {M : Type 0} → Mark M → ℕ
once unseen = 0
once (waits a p) = 0
once (settled a p) = 1

abbrev pub settled_below : {M : Type 0} → (ℕ → Mark M) → ℕ → ℕ
settled_below f zero = 0
settled_below f (suc k) = settled_below f k + once (f k)

abbrev pub Seen : {M : Type 0} → (ℕ → Mark M) → ℕ → M → ℕ → Type 0
Seen f w b p = (f w ≡ waits b p) ⊎ (f w ≡ settled b p)

-- no move is still to be looked at
abbrev pub Nothing : ℕ → ℕ → Type 0
Nothing u w = ⊥

-- one more entry, b at w, waits in `more` than in `less`
pub record Joined {M : Type 0} (less more : M → ℕ → Type 0) (b : M) (w : ℕ) : Type 0 where
  pub this : more b w
  pub old : (x : M) (y : ℕ) → less x y → more x y
  pub only : (x : M) (y : ℕ) → more x y → less x y ⊎ ((x ≡ b) × (y ≡ w))

-- the mark of w is m, and all others are as they were
pub record Marked {M : Type 0} (f f' : ℕ → Mark M) (w : ℕ) (m : Mark M) : Type 0 where
  pub here : f' w ≡ m
  pub others : (u : ℕ) → (u ≢ w) → f' u ≡ f u

module _ {M : Type 0} (g : Search M) (f : ℕ → Mark M) where
  -- w is seen, with at most m
  abbrev pub Within : ℕ → M → Type 0
  Within w m = (b : M) × (p : ℕ) × Seen f w b p × Leq g b m

  -- following the nodes before from u leads by way of these nodes back to the start, each settled, none twice, and the moves
  -- cost a in all
  abbrev pub Trail : ℕ → List ℕ → M → Type 0
  Trail u [] a = (p : ℕ) × (f u ≡ settled a p) × (u ≡ g.from) × (a ≡ g.sums.nothing)
  Trail u (p ∷ back) a = (b : M) × (c : M) × (f u ≡ settled a p) × Trail p back b × Move g p u c × (a ≡ g.sums.plus b c)
      × AllByRecursion (λ x. x ≢ u) (p ∷ back)

  -- a waiting node is the start, or was reached by a move from a settled node
  abbrev pub Origin : ℕ → M → ℕ → Type 0
  Origin w b p = ((w ≡ g.from) × (b ≡ g.sums.nothing))
      ⊎ ((a : M) × (c : M) × (q : ℕ) × (f p ≡ settled a q) × Move g p w c × (b ≡ g.sums.plus a c))

  -- `entries a w`: an entry of amount a for the node w waits; `pending u w`: the move from u to w is still to be looked at
  pub record Frontier (entries : M → ℕ → Type 0) (pending : ℕ → ℕ → Type 0) : Type 0 where
    -- the start is seen, with nothing paid
    pub start : (p : ℕ) × Seen f g.from g.sums.nothing p
    -- only nodes are seen
    pub inside : (w : ℕ) (b : M) (p : ℕ) → Seen f w b p → w < g.shape.size
    -- from a settled node each move leads to a node that is seen with no more than by that move, unless the move is pending
    pub relaxed : (u w : ℕ) (a c : M) (p : ℕ) → f u ≡ settled a p → Move g u w c → pending u w ⊎ Within w (g.sums.plus a c)
    -- an entry of the best amount of each waiting node waits
    pub queued : (w : ℕ) (b : M) (p : ℕ) → f w ≡ waits b p → entries b w
    -- an entry is no better than what is noted; it may be worse, and is then let go when its turn comes
    pub known : (a : M) (w : ℕ) → entries a w → Within w a
    -- no route to a settled node costs less than what is noted
    pub least : (u : ℕ) (a : M) (p : ℕ) → f u ≡ settled a p → (nodes : List ℕ) (b : M) → Route g g.from nodes u b → Leq g a b
    -- a settled node is reached at that cost, through fewer nodes than are settled
    pub trail : (u : ℕ) (a : M) (p : ℕ) → f u ≡ settled a p
        → (back : List ℕ) × Trail u back a × (length back < settled_below f g.shape.size)
    -- and so is a waiting one
    pub origin : (w : ℕ) (b : M) (p : ℕ) → f w ≡ waits b p → Origin w b p

  -- each settled node adds at most the bulk of one move to what is noted
  pub record Light : Type 0 where
    pub settled_bulk : (u : ℕ) (a : M) (p : ℕ) → f u ≡ settled a p
        → g.sums.bulk a + g.shape.dearest ≤ g.shape.dearest * settled_below f g.shape.size
    pub waits_bulk : (w : ℕ) (b : M) (p : ℕ) → f w ≡ waits b p
        → g.sums.bulk b ≤ g.shape.dearest * settled_below f g.shape.size
