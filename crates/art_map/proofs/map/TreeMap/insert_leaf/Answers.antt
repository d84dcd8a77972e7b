use Rattle.std.proofs.Common.{[], arith}
use Rattle.art_operations.proofs.KnownPlaces.{can-put}
use Rattle.art_map.proofs.map.TreeMap.insert_leaf.Goals as goal

pub insert_leaf_at-requires : goal.insert_leaf_at-requires
insert_leaf_at-requires g c = (
  omega arith,
  rw (← c.self.view_is)
      (can-put g.K.AsBytes.bytes g.row.PREFIX_LEN c.self.inside.arena (g.K.AsBytes.bytes c.args.key) [] c.self.inside.root _ c.self.invariant.has c.args.place (rw (← c.self.view_is) at c.requires)),
)
