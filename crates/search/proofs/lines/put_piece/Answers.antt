use Rattle.std.proofs.Common.{◌+◌, arith}
use Rattle.search.proofs.Putting.{zone_room, piece_puts}
use Rattle.search.proofs.lines.put_piece.Goals as goal

pub put_zone-requires-2 : goal.put_zone-requires-2
put_zone-requires-2 c =
    zone_room c.args.extent.now.size (c.args.extent.now.class.half + c.max-space.result) c.along-span.result
    c.args.queue.now c.put_zone.new.queue 4 2 c.put_zone.ensures c.requires (omega arith)

pub returns : goal.returns
returns c =
    piece_puts c.args.extent.now c.args.piece.now c.max-space.result c.along-span.result
    c.args.queue.now c.put_zone.new.queue c.put_zone-2.new.queue c.max-space.ensures c.along-span.ensures
    c.put_zone.ensures c.put_zone-2.ensures
