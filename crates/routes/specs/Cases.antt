-- Worked cases of the rules. A panel of 100 by 60 has two layers; a wire is 4 wide, keeps a space of 3, and a pad is 6 wide. A
-- keep-out stands on layer 1 from 40, 0 to 50, 60 with space 0, unless said. Assumes nothing.
use Rattle.std.specs.Prelude.{◌≡◌, ℕ, zero, suc, Bool, true, false, cond, not, ◌&&◌, ◌||◌, List, [], ◌∷◌, pos, ◌==◌}
use Rattle.geometry.specs.declared.class.Class.{Class}
use Rattle.geometry.specs.declared.piece.Piece.{Piece}
use Rattle.geometry.specs.declared.piece.Mark.TheVariants.{Placed}
use Rattle.geometry.specs.declared.point.Point.{Point}
use Rattle.geometry.specs.Lists.{all_of}
use Rattle.costs.specs.Amounts.{Tariff}
use Rattle.costs.specs.Money.{money}
use Rattle.routes.specs.Routes.{Move, along_x, to_layer, Rules, lawful, in_steps, cost}
use Rattle.routes.specs.Turns.{points_of}
use Rattle.routes.specs.Rules.{rules_of}
use Rattle.routes.specs.Lines.{x_lines}

abbrev pub point : ℕ → ℕ → ℕ → Point
point l a b = record { layer = l; x = a; y = b }

abbrev pub thin : Class
thin = record { half = 2; space = 3; pad = 3; measured = tt }

-- a keep-out on layer 1 from 40 to 50 in x
abbrev pub keep_out : ℕ → ℕ → Piece
keep_out low high = record {
  layer = 1;
  rect = record { x = record { low = pos 40; high = pos 50 }; y = record { low = pos low; high = pos high } };
  net = 0;
  space = 0;
  job = 1;
  mark = Placed;
}

-- what is allowed to net 7 where these pieces stand
abbrev pub where_stand : List Piece → Rules
where_stand = rules_of 100 60 2 thin 7

-- A row: pieces that stand, a start and a route, and whether the route is lawful.
pub record Row : Type 0 where
  pub stand : List Piece
  pub start : Point
  pub moves : List Move
  pub verdict : Bool

abbrev row : List Piece → Point → List Move → Bool → Row
row ps p r v = record { stand = ps; start = p; moves = r; verdict = v }

-- the path of the sample, by its runs and vias
abbrev pub over : List Move
over = along_x 34 ∷ to_layer 2 ∷ along_x 56 ∷ to_layer 1 ∷ along_x 90 ∷ []

abbrev pub rows : List Row
rows =
    -- a via at x 34 is lawful, at 35 it is not, whichever way it goes
    row (keep_out 0 60 ∷ []) (point 1 34 30) (to_layer 2 ∷ []) true
    ∷ row (keep_out 0 60 ∷ []) (point 1 35 30) (to_layer 2 ∷ []) false
    ∷ row (keep_out 0 60 ∷ []) (point 2 35 30) (to_layer 1 ∷ []) false
    -- the wire step from 34 to 35 at y 30 is lawful, the one from 35 to 36 is not
    ∷ row (keep_out 0 60 ∷ []) (point 1 34 30) (along_x 35 ∷ []) true
    ∷ row (keep_out 0 60 ∷ []) (point 1 35 30) (along_x 36 ∷ []) false
    -- two keep-outs 10 apart leave the run between them lawful, at y 25 alone
    ∷ row (keep_out 0 20 ∷ keep_out 30 60 ∷ []) (point 1 10 25) (along_x 90 ∷ []) true
    ∷ row (keep_out 0 20 ∷ keep_out 30 60 ∷ []) (point 1 10 24) (along_x 90 ∷ []) false
    ∷ row (keep_out 0 20 ∷ keep_out 30 60 ∷ []) (point 1 10 26) (along_x 90 ∷ []) false
    -- the path of the sample is lawful, as runs and in steps; straight through the keep-out is not
    ∷ row (keep_out 0 60 ∷ []) (point 1 10 30) over true
    ∷ row (keep_out 0 60 ∷ []) (point 1 10 30) (in_steps (point 1 10 30) over) true
    ∷ row (keep_out 0 60 ∷ []) (point 1 10 30) (along_x 90 ∷ []) false
    -- no way leads off the panel
    ∷ row [] (point 1 10 30) (along_x 101 ∷ []) false
    ∷ row [] (point 2 10 30) (to_layer 3 ∷ []) false
    ∷ []

abbrev pub same : Bool → Bool → Bool
same a b = (a && b) || (not a && not b)

abbrev pub agrees : Row → Bool
agrees w = same (lawful (where_stand w.stand) w.start w.moves) w.verdict

-- the numbers from n down to 0
abbrev pub up_to : ℕ → List ℕ
up_to zero = 0 ∷ []
up_to (suc n) = suc n ∷ up_to n

-- Between keep-outs 9 apart no step from 45 to 46 on layer 1 is lawful, and a path that crosses them takes one.
abbrev pub crossed_at : ℕ → Bool
crossed_at y = lawful (where_stand (keep_out 0 20 ∷ keep_out 29 60 ∷ [])) (point 1 45 y) (along_x 46 ∷ [])

-- the prices of the layers 1 and 2
abbrev pub by_layer : ℕ → ℕ → ℕ → ℕ
by_layer first second l = cond (l == 1) first (cond (l == 2) second 0)

abbrev pub prices : Tariff ℕ
prices = record { sums = money; prices = record { x = by_layer 1 3; y = by_layer 3 1; via = by_layer 10 0 } }

pub record WorkedRoutes : Type 0 where
  pub routes : all_of agrees rows ≡ true
  pub not_crossed : all_of (λ y. not (crossed_at y)) (up_to 60) ≡ true
  pub path_cost : cost prices (point 1 10 30) over ≡ 144
  pub steps_cost : cost prices (point 1 10 30) (in_steps (point 1 10 30) over) ≡ 144
  pub path_points : points_of (point 1 10 30) (in_steps (point 1 10 30) over)
      ≡ point 1 10 30 ∷ point 1 34 30 ∷ point 2 34 30 ∷ point 2 56 30 ∷ point 1 56 30 ∷ point 1 90 30 ∷ []
  -- the terminals, and the borders of the wire zone and of the via zone
  pub lines_across : x_lines 100 thin 7 (keep_out 0 60 ∷ []) 10 90 ≡ 10 ∷ 90 ∷ 35 ∷ 55 ∷ 34 ∷ 56 ∷ []
