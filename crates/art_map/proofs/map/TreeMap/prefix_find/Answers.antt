use Rattle.art_arena.proofs.Common.{begins_with}
use Rattle.art_map.proofs.Maps.{looked-up}
use Rattle.art_map.proofs.map.TreeMap.prefix_find.Goals as goal

pub returns : goal.returns
returns g c =
    rw (← c.self.view_is)
    (looked-up g.K.AsBytes.bytes g.K.AsBytes.is_key g.row.PREFIX_LEN c.self.inside.arena c.self.inside.root c.in_ok-root.root c.in_ok-root.was c.self.invariant (λ k. begins_with k c.args.key.now) c.prefix_search_unchecked.result c.prefix_search_unchecked.ensures)
