use Rattle.std.proofs.Common.{subst}
use Rattle.art_engine.proofs.Terms.{AreRecords}
use Rattle.art_engine.proofs.NumberPlaces.{are_in_order}
use Rattle.art_engine.proofs.records.Records.are_records.Goals as goal

pub returns : goal.returns
returns g c = subst AreRecords c.self.view_is (record {
  keys_in_order = c.self.invariant.0.stand.in_order;
  numbers_in_order = are_in_order c.self.inside.numbers.pairs c.self.invariant.1;
  keys_fit = c.self.invariant.0.fit;
  numbers_fit = c.self.invariant.1.fit;
})
