-- Moves between nodes, and the routes that they make. Assumes nothing.
--     Search               sums of amounts, a graph with the price of each move, and the node that a search starts from
--     Move g u w c         one may go from u to its neighbour w, for c
--     Route g u vs t a     from u one comes to t by way of vs, and pays a in all
--     LeastCost g t a      some route from the start to t costs a, and none costs less
--     HasNoRoute g t       there is no route from the start to t
use Rattle.std.specs.Prelude.{◌≡◌, ℕ, ◌<◌, true, T, List, [], ◌∷◌, Some}
use Rattle.costs.specs.Amounts.{Sums}
use Rattle.frontier.specs.Graphs.{Shape}

pub record Search (M : Type 0) : Type 0 where
  pub sums : Sums M
  pub shape : Shape
  -- the price of the move from a node to a neighbour
  pub price : ℕ → ℕ → M
  pub from : ℕ

abbrev pub search_from : {M : Type 0} → Sums M → Shape → (ℕ → ℕ → M) → ℕ → Search M
search_from sums shape price from = record { sums = sums; shape = shape; price = price; from = from }

module _ {M : Type 0} (g : Search M) where
  -- the first amount is not greater than the second
  abbrev pub Leq : M → M → Type 0
  Leq a b = T (g.sums.leq a b)

  pub record Move (u w : ℕ) (c : M) : Type 0 where
    pub way : ℕ
    pub six : way < 6
    pub next : g.shape.next u way ≡ Some w
    pub free : g.shape.free u w ≡ true
    pub costs : g.price u w ≡ c

  -- by way of the nodes, the last of which is t
  abbrev pub Route : ℕ → List ℕ → ℕ → M → Type 0
  Route u [] t a = (u ≡ t) × (a ≡ g.sums.nothing)
  Route u (v ∷ rest) t a = (c : M) × Move u v c × (b : M) × Route v rest t b × (a ≡ g.sums.plus c b)

  pub record LeastCost (t : ℕ) (a : M) : Type 0 where
    pub nodes : List ℕ
    pub route : Route g.from nodes t a
    pub lowest : (others : List ℕ) (b : M) → Route g.from others t b → Leq a b

  abbrev pub HasNoRoute : ℕ → Type 0
  HasNoRoute t = (nodes : List ℕ) (b : M) → Route g.from nodes t b → ⊥
