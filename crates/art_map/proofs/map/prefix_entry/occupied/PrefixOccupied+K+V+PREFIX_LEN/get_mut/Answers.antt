use Rattle.std.proofs.Common.{◌≡◌, Some, None, refl, sym, ap, subst, ◌∙◌}
use Rattle.art_arena.proofs.Common.{key_of}
use Rattle.art_operations.proofs.Common.{overlapping}
use Rattle.std.specs.Map.{set_value}
use Rattle.art_map.proofs.Terms.{option_value, with_value_at, lone_item, overlaps_query}
use Rattle.art_map.proofs.Entries.{value-is}
use Rattle.art_map.proofs.LeafNames.{written-all}
use Rattle.art_map.proofs.PrefixEntries.{held-at, kind-new, kind-stored, leaf-entry, shown-new, shown-stored}
use Rattle.art_map.proofs.RoomKept.{pair-room}
use Rattle.art_map.proofs.Written.{one-pair}
use Rattle.art_map.proofs.map.prefix_entry.occupied.PrefixOccupied+K+V+PREFIX_LEN.get_mut.Goals as goal

pub returns-in-Stored : goal.returns-in-Stored
returns-in-Stored g c =
    let e = c.args.self.now in
    let slot = c.in-Stored.leaf in
    let held = held-at e slot c.in-Stored.is in
    let lent = c.pair_mut_at-value.ensures in (
      (refl, (λ w. shown-stored e slot c.in-Stored.is _ _ lent.value lent.pairs w _ refl refl), (refl, refl)),
      record { writes_back = tt; value = rw (kind-stored e slot c.in-Stored.is held) (sym (value-is (leaf-entry e slot held) _ _ lent.value)) },
    )

pub returns-in-Some : goal.returns-in-Some
returns-in-Some g c =
    let e = c.args.self.now in
    let k = c.in-New.key in
    let bytes = g.K.AsBytes.bytes in
    let found = c.in-Some.ensures in
    let lone : lone_item (overlapping (key_of bytes) (bytes k) e.map.now.pairs) ≡ Some found.0 = subst (λ q. lone_item (overlapping (key_of bytes) q e.map.now.pairs) ≡ Some found.0) c.as_bytes.ensures.value found.2 in
    let written = subst (λ q. (w : g.row.V.Denot) → (with_value_at e.map.now c.in-Some.leaf w).pairs ≡ set_value (overlaps_query bytes q) e.map.now.pairs w) c.as_bytes.ensures.value found.3 in (
      (refl, (λ w. shown-new e k c.in-New.is _ refl refl w (written w) (written-all bytes e.map.now c.in-Some.leaf found.0 found.1 w) (pair-room e.map.now c.in-Some.leaf found.0 found.1 w)), (refl, refl)),
      record {
        writes_back = tt;
        value = rw (kind-new e k c.in-New.is) (ap Some (one-pair e.map.now c.in-Some.leaf found.0 (_, _) found.1 c.pair_mut_at-value-in-Some.ensures.value).1 ∙ sym (ap option_value lone));
      },
    )

pub returns-in-None : goal.returns-in-None
returns-in-None g c =
    let e = c.args.self.now in (
      (refl, (λ w. tt), (refl, refl)),
      record {
        writes_back = tt;
        value = rw (kind-new e c.in-New.key c.in-New.is) (sym (ap option_value (subst (λ q. lone_item (overlapping (key_of g.K.AsBytes.bytes) q e.map.now.pairs) ≡ None) c.as_bytes.ensures.value c.in-None.ensures)));
      },
    )
