use Rattle.std.proofs.Common.{rules, ◌∙◌, Bool, not}
use Rattle.std.proofs.lemmas.Iterator.{YieldsList-from_slice}
use Rattle.std.proofs.lemmas.Iterator.Search.{all_from_yields_List}
use Rattle.geometry.specs.declared.piece.Piece.{Piece}
use Rattle.geometry.specs.Zones.{in_way}
use Rattle.flood.proofs.Ways.{all_of_list}
use Rattle.flood.proofs.steps.nothing_in_way.Goals as goal

pub returns : goal.returns
returns c =
    let clear : Piece → Bool = λ p. not (in_way c.args.q.now p) in
    all_from_yields_List clear _ _ _ c.all.ensures.ran (YieldsList-from_slice c.args.pieces.now cc) (λ x b q k. search rules)
    ∙ all_of_list clear c.args.pieces.now
