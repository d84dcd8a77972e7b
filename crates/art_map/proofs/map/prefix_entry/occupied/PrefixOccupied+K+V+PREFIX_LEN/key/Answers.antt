use Rattle.std.proofs.Common.{refl, sym, arith}
use Rattle.art_map.proofs.Terms.{has_leaf}
use Rattle.art_map.proofs.Entries.{key-is}
use Rattle.art_map.proofs.PrefixEntries.{held-at, kind-new, kind-stored, leaf-entry}
use Rattle.art_map.proofs.map.prefix_entry.occupied.PrefixOccupied+K+V+PREFIX_LEN.key.Goals as goal

pub pair_at-requires : goal.pair_at-requires
pair_at-requires g c = (omega arith, has_leaf c.args.self.now.map.now c.in-Stored.leaf (held-at c.args.self.now c.in-Stored.leaf c.in-Stored.is))

pub returns-in-Stored : goal.returns-in-Stored
returns-in-Stored g c =
    let e = c.args.self.now in
    let held = held-at e c.in-Stored.leaf c.in-Stored.is in
    rw (kind-stored e c.in-Stored.leaf c.in-Stored.is held) (sym (key-is (leaf-entry e c.in-Stored.leaf held) _ _ c.pair_at.ensures))

pub returns-in-New : goal.returns-in-New
returns-in-New g c = rw (kind-new c.args.self.now c.in-New.key c.in-New.is) refl
