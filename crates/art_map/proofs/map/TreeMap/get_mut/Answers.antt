use Rattle.std.proofs.Common.{refl, sym}
use Rattle.art_map.proofs.LeafNames.{written-all}
use Rattle.art_map.proofs.LookedUp.{found-value, lookup-value, set-none}
use Rattle.art_map.proofs.RoomKept.{pair-room}
use Rattle.art_map.proofs.map.TreeMap.get_mut.Goals as goal

pub returns-in-Some : goal.returns-in-Some
returns-in-Some g c = (
  (
    refl,
    (λ w.
        let pair : g.row.K.Denot × g.row.V.Denot = (c.pair_mut_at-value.result.0.now, c.pair_mut_at-value.result.1.now) in
        let at = c.pair_mut_at-value.ensures.value in
        (rw (← c.as_bytes.ensures.value) (c.in-Some.ensures.3 w), written-all g.K.AsBytes.bytes c.args.self.now c.in-Some.leaf pair at w, pair-room c.args.self.now c.in-Some.leaf pair at w)),
    refl,
  ),
  record {
    writes_back = tt;
    value = rw (← c.as_bytes.ensures.value) (found-value _ c.args.self.now c.in-Some.leaf (c.pair_mut_at-value.result.0.now, c.pair_mut_at-value.result.1.now) c.in-Some.ensures c.pair_mut_at-value.ensures.value);
  },
)

pub returns-in-None : goal.returns-in-None
returns-in-None g c = (
  (refl, (λ w. (rw (← c.as_bytes.ensures.value) (sym (set-none _ c.args.self.now.pairs w c.in-None.ensures)), (λ slot key has. has), λ kind n room. room)), refl),
  record {
    writes_back = tt;
    value = rw (← c.as_bytes.ensures.value) (sym (lookup-value _ c.args.self.now.pairs _ c.in-None.ensures));
  },
)
