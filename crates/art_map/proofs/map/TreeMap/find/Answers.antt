use Rattle.std.proofs.Common.{bytes_eq}
use Rattle.art_map.proofs.Maps.{looked-up}
use Rattle.art_map.proofs.map.TreeMap.find.Goals as goal

pub returns : goal.returns
returns g c =
    rw (← c.self.view_is)
    (looked-up g.K.AsBytes.bytes g.K.AsBytes.is_key g.row.PREFIX_LEN c.self.inside.arena c.self.inside.root c.in_ok-root.root c.in_ok-root.was c.self.invariant (λ k. bytes_eq k c.args.key.now) c.search_unchecked.result c.search_unchecked.ensures)
