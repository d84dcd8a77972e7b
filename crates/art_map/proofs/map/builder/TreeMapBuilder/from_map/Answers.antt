use Rattle.std.proofs.Common.{true, sym, ap, subst}
use Rattle.art_arena.proofs.Common.{HasRoom}
use Rattle.art_operations.proofs.Common.{HasPairs, fresh-around}
use Rattle.art_map.proofs.Built.{goes-on}
use Rattle.art_map.proofs.map.builder.TreeMapBuilder.from_map.Goals as goal

pub returns-in-None-clause-pairs : goal.returns-in-None-clause-pairs
returns-in-None-clause-pairs g c =
    goes-on g.K.AsBytes.bytes g.K.AsBytes.is_key (record { alloc = c.map.inside.alloc; in_order = true; wait = 8; pause = 8; arena = c.map.inside.arena; builder = c.new.result; map = c.with_prefix_len.result }) c.map.inside.root c.args.map.pairs c.in-None.is
    (subst (HasPairs g.K.AsBytes.bytes g.row.PREFIX_LEN c.map.inside.arena c.map.inside.root) (ap (λ m. m.pairs) c.map.view_is) c.map.invariant.has) c.new.ensures.last c.new.ensures.spine c.new.ensures.room c.with_prefix_len.ensures.pairs

pub returns-in-None-clause-room : goal.returns-in-None-clause-room
returns-in-None-clause-room g c = λ n room. fresh-around c.map.inside.arena c.new.result.spine n c.new.ensures.spine (subst (λ m. HasRoom m.nodes n) (sym c.map.view_is) room)
