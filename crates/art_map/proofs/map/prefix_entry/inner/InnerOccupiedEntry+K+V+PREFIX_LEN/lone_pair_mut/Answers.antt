use Rattle.std.proofs.Common.{◌≡◌, Some, refl, sym, subst, ◌∙◌}
use Rattle.art_arena.proofs.Common.{key_of}
use Rattle.art_operations.proofs.Common.{overlapping}
use Rattle.std.specs.Map.{set_value}
use Rattle.art_map.proofs.Terms.{with_value_at, lone_item, overlaps_query}
use Rattle.art_map.proofs.LeafNames.{written-all}
use Rattle.art_map.proofs.RoomKept.{pair-room}
use Rattle.art_map.proofs.Written.{one-pair}
use Rattle.art_map.proofs.map.prefix_entry.inner.InnerOccupiedEntry+K+V+PREFIX_LEN.lone_pair_mut.Goals as goal

pub returns : goal.returns
returns g c =
    let e = c.args.self.now in
    let bytes = g.K.AsBytes.bytes in
    let found = c.in-Some.ensures in
    let lone : lone_item (overlapping (key_of bytes) (bytes e.key) e.map.now.pairs) ≡ Some found.0 = subst (λ q. lone_item (overlapping (key_of bytes) q e.map.now.pairs) ≡ Some found.0) c.as_bytes.ensures.value found.2 in
    let written = subst (λ q. (w : g.row.V.Denot) → (with_value_at e.map.now c.in-Some.leaf w).pairs ≡ set_value (overlaps_query bytes q) e.map.now.pairs w) c.as_bytes.ensures.value found.3 in
    let same = one-pair e.map.now c.in-Some.leaf found.0 (_, _) found.1 c.pair_mut_at-value.ensures.value in (
      (refl, λ w. refl),
      record { writes_back = tt; pair = lone ∙ (λ i. Some (sym same.0 i, sym same.1 i)); written = λ w. record { same_map = refl; key = refl; pairs = written w; names = written-all bytes e.map.now c.in-Some.leaf found.0 found.1 w; room = pair-room e.map.now c.in-Some.leaf found.0 found.1 w } },
    )
