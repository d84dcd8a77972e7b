use Rattle.std.proofs.Common.{refl, sym}
use base.Stored.{Coded-set, coded_list, coded×}
use Rattle.art_map.proofs.Terms.{left_of}
use Rattle.art_map.proofs.Extractions.{key-at-end, left-still, still-written}
use Rattle.art_map.proofs.LeafNames.{written-names}
use Rattle.art_map.proofs.RoomKept.{pair-room}
use Rattle.art_map.proofs.map.extraction.Extraction.ask.Goals as goal

pub invariant_of-self : goal.invariant_of-self
invariant_of-self g c = record { run = still-written g.K.AsBytes.bytes g.row.PREFIX_LEN c.args.self.now.map.now c.args.end c.args.self.now.leaves c.in-Some.leaf (sym c.in-Some.ensures.at) c.args.self.now.run c.pred.new.arg3 }

pub returns-clause-asked : goal.returns-clause-asked
returns-clause-asked g c =
    let lent = c.pair_mut_at-value.result in
    let pair : g.row.K.Denot × g.row.V.Denot = (lent.0.now, lent.1.now) in
    let w = c.pred.new.arg3 in
    let at = key-at-end g.K.AsBytes.bytes g.row.PREFIX_LEN c.args.self.now.map.now c.in-Some.leaf c.args.end pair (left_of c.args.self.now) c.in-Some.ensures.pair c.pair_mut_at-value.ensures.value in
    record {
      pair = pair;
      value = w;
      rest = at.0;
      was = at.1;
      called = record { key = lent.0; value = lent.1; shows = (refl, refl); left = _; called = c.pred.ensures; leaves = refl };
      left = left-still g.K.AsBytes.bytes g.row.PREFIX_LEN c.args.self.now.map.now c.args.end c.args.self.now.leaves c.in-Some.leaf (sym c.in-Some.ensures.at) (Coded-set (coded_list (coded× g.row.K.coded g.row.V.coded))) c.args.self.now.run w pair.0 pair.1 at.0 at.1;
      put = c.pair_mut_at-value.ensures.pairs w;
    }

pub returns-clause-none_new : goal.returns-clause-none_new
returns-clause-none_new g c = let lent = c.pair_mut_at-value.result in written-names g.K.AsBytes.bytes c.args.self.now.map.now c.in-Some.leaf (lent.0.now, lent.1.now) c.pair_mut_at-value.ensures.value c.pred.new.arg3

pub returns-clause-room : goal.returns-clause-room
returns-clause-room g c = let lent = c.pair_mut_at-value.result in pair-room c.args.self.now.map.now c.in-Some.leaf (lent.0.now, lent.1.now) c.pair_mut_at-value.ensures.value c.pred.new.arg3
