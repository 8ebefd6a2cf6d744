use Rattle.std.proofs.Common.{rules, tests}
use Rattle.std.proofs.lemmas.Iterator.{YieldsList-from_slice}
use Rattle.std.proofs.lemmas.Iterator.Search.{find_from_yields_List}
use Rattle.geometry.specs.Zones.{in_way}
use Rattle.registers.specs.Plains.{plain_pieces}
use Rattle.registers.proofs.Firsts.{told_by_first}
use Rattle.registers.proofs.plain.PlainRegisterPieces.in_the_way.Goals as goal

pub returns : goal.returns
returns c =
    let q = c.args.q.now in
    let ps = plain_pieces c.args.self.now in
    told_by_first q ps c.find.result _
    (find_from_yields_List (in_way q) _ _ c.find.result c.find.ensures.ran (YieldsList-from_slice ps cc)
    (λ x b q k. search (rules, tests)))
    (search (rules, tests))
