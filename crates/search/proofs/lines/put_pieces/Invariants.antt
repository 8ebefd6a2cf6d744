use Rattle.search.proofs.Putting.{PutFirst}
use Rattle.search.proofs.lines.put_pieces.Given as goal

abbrev pub invariant-loop-k : goal.invariant-loop-k
invariant-loop-k g l = PutFirst l.extent (g.P.Pieces.pieces l.register) l.k l.initial.queue l.queue
