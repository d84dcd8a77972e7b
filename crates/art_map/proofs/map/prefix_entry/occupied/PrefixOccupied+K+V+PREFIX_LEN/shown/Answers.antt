use Rattle.std.proofs.Common.{refl, sym, ap}
use Rattle.art_arena.proofs.Common.{key_of}
use Rattle.art_operations.proofs.Common.{overlapping}
use Rattle.art_map.proofs.Terms.{lone_item, overlaps_query}
use Rattle.art_map.proofs.Entries.{has-pair}
use Rattle.art_map.proofs.PrefixEntries.{held-at, kind-new, kind-stored, leaf-entry, lone-shown}
use Rattle.art_map.proofs.map.prefix_entry.occupied.PrefixOccupied+K+V+PREFIX_LEN.shown.Goals as goal

pub returns-in-Stored : goal.returns-in-Stored
returns-in-Stored g c =
    let e = c.args.self.now in
    let held = held-at e c.in-Stored.leaf c.in-Stored.is in
    rw (kind-stored e c.in-Stored.leaf c.in-Stored.is held) (_, has-pair (leaf-entry e c.in-Stored.leaf held), refl)

pub returns-in-New : goal.returns-in-New
returns-in-New g c =
    let e = c.args.self.now in
    rw (kind-new e c.in-New.key c.in-New.is)
    (lone-shown (overlaps_query g.K.AsBytes.bytes c.as_bytes.result.now) e.map.now c.lone_over.result _
    (ap (λ q. lone_item (overlapping (key_of g.K.AsBytes.bytes) q e.map.now.pairs)) (sym c.as_bytes.ensures.value)) c.lone_over.ensures)
