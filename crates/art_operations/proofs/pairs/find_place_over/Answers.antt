use Rattle.std.proofs.Common.{arith}
use Rattle.art_operations.proofs.HeldPairs.{some-tree}
use Rattle.art_operations.proofs.PutOver.{placed-over}
use Rattle.art_operations.proofs.pairs.find_place_over.Goals as goal

pub search_for_prefix_insert_point-requires : goal.search_for_prefix_insert_point-requires
search_for_prefix_insert_point-requires g c =
    (omega arith, some-tree g.K.AsBytes.bytes g.row.PREFIX_LEN c.args.arena.now c.requires.1 c.args.root c.in-Some.top c.in-Some.is c.args.key.now c.requires.0 c.requires.2)

pub returns-in-Some : goal.returns-in-Some
returns-in-Some g c pairs rest has =
    placed-over g.K.AsBytes.bytes g.row.PREFIX_LEN c.args.arena.now rest c.args.root c.in-Some.top c.args.key.now pairs c.search_for_prefix_insert_point.result c.in-Some.is has c.search_for_prefix_insert_point.ensures.place
