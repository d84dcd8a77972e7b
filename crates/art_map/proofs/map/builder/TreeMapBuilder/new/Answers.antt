use Rattle.art_operations.proofs.Common.{fresh}
use Rattle.art_map.proofs.map.builder.TreeMapBuilder.new.Goals as goal

pub returns : goal.returns
returns g c =
    (fresh g.K.AsBytes.bytes g.row.PREFIX_LEN c.new-arena.result c.new-builder.result c.new-builder.ensures.last c.new-builder.ensures.spine c.new-builder.ensures.room c.new-arena.ensures.none, tt, c.with_prefix_len-map.ensures.pairs)
