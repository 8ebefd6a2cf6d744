-- What a panel with standing pieces allows to a request of a class and a net. Assumes nothing.
use Rattle.std.specs.Prelude.{ℕ, max, Bool, false, not, ◌&&◌, ◌||◌, List, ◌==◌}
use Rattle.geometry.specs.declared.class.Class.{Class}
use Rattle.geometry.specs.declared.piece.Piece.{Piece}
use Rattle.geometry.specs.declared.question.Question.{Question}
use Rattle.geometry.specs.declared.rect.Rect.{Rect}
use Rattle.geometry.specs.Clearance.{apart}
use Rattle.geometry.specs.Nets.{different_nets}
use Rattle.geometry.specs.Zones.{none_in_way}
use Rattle.routes.specs.Routes.{Rules}

-- the question whether a piece is in the way of a closed box of a layer, where all pieces count
abbrev pub ask : ℕ → ℕ → ℕ → ℕ → Rect → Question
ask net reach space layer area = record { layer = layer; net = net; reach = reach; space = space; area = area; laid = false }

-- A closed box is free if no piece is in the way.
abbrev pub free : ℕ → ℕ → ℕ → List Piece → ℕ → Rect → Bool
free net reach space pieces layer area = none_in_way (ask net reach space layer area) pieces

-- Wires keep out of the zones at the reach of the half width, vias out of those at the reach of the pad's half size.
-- Width, height and layers stay three numbers, since a search counts the layers of its own lattice.
abbrev pub rules_of : ℕ → ℕ → ℕ → Class → ℕ → List Piece → Rules
rules_of width height layers c net pieces = record {
  width = width;
  height = height;
  layers = layers;
  wire = free net c.half c.space pieces;
  via = free net c.pad c.space pieces;
}

-- A rectangle of a net lies apart, by the larger of two spaces, from a piece, if that is on the layer and of a different net.
abbrev pub clear_of : ℕ → ℕ → ℕ → Rect → Piece → Bool
clear_of layer net space r p =
    not (p.layer == layer && different_nets p.net net) || apart (max space p.space) r p.rect
