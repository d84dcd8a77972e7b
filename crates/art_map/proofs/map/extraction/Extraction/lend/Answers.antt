use Rattle.std.proofs.Common.{refl, sym, ap, ◌∙◌}
use base.Stored.{Coded-set, coded_list, coded×}
use Rattle.art_operations.proofs.Common.{with_pair_put}
use Rattle.art_map.proofs.Terms.{left_of}
use Rattle.art_map.proofs.Extractions.{key-at-end, left-still, same-key-at, still-written}
use Rattle.art_map.proofs.LeafNames.{written-all}
use Rattle.art_map.proofs.RoomKept.{pair-room}
use Rattle.art_map.proofs.map.extraction.Extraction.lend.Goals as goal

pub invariant_of-self-lent : goal.invariant_of-self-lent
invariant_of-self-lent g c = λ w. (still-written g.K.AsBytes.bytes g.row.PREFIX_LEN c.args.self.now.map.now c.args.end c.args.self.now.leaves c.in_ok-leaf.leaf (sym c.in_ok-leaf.ensures.at) c.args.self.now.run w, tt)

pub returns : goal.returns
returns g c =
    let pair : g.row.K.Denot × g.row.V.Denot = (c.pair_mut_at-value.result.0.now, c.pair_mut_at-value.result.1.now) in
    let at = key-at-end g.K.AsBytes.bytes g.row.PREFIX_LEN c.args.self.now.map.now c.in_ok-leaf.leaf c.args.end pair (left_of c.args.self.now) c.in_ok-leaf.ensures.pair c.pair_mut_at-value.ensures.value in (
      (
        refl,
        (λ w. record {
          same_map = refl;
          left = λ k v rest is. (
            left-still g.K.AsBytes.bytes g.row.PREFIX_LEN c.args.self.now.map.now c.args.end c.args.self.now.leaves c.in_ok-leaf.leaf (sym c.in_ok-leaf.ensures.at) (Coded-set (coded_list (coded× g.row.K.coded g.row.V.coded))) c.args.self.now.run w k v rest is,
            c.pair_mut_at-value.ensures.pairs w
                ∙ ap (λ l. with_pair_put g.K.AsBytes.bytes l w c.args.self.now.map.now.pairs) (same-key-at g.K.AsBytes.bytes g.row.PREFIX_LEN c.args.self.now.map.now c.args.end pair.0 k pair.1 v at.0 rest (left_of c.args.self.now) at.1 is),
          );
          names = written-all g.K.AsBytes.bytes c.args.self.now.map.now c.in_ok-leaf.leaf pair c.pair_mut_at-value.ensures.value w;
          room = pair-room c.args.self.now.map.now c.in_ok-leaf.leaf pair c.pair_mut_at-value.ensures.value w;
        }),
        (refl, refl),
      ),
      record { writes_back = tt; value = (pair.0, at.0, at.1) },
    )
