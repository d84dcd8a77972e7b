use Rattle.std.proofs.Common.{arith}
use base.Stored.{Coded-set, coded_list, coded×}
use Rattle.art_map.proofs.Extractions.{not-none, pair-taken, some-step, some-walk, run-again}
use Rattle.art_map.proofs.map.extraction.Extraction.next_leaf.Goals as goal

pub next_of-requires : goal.next_of-requires
next_of-requires g c = (omega arith, rw c.nodes-root.ensures.same.0 (some-walk g.K.AsBytes.bytes g.row.PREFIX_LEN c.args.self.now.map.now c.args.self.now.leaves c.args.self.now.run))

pub invariant_of-self : goal.invariant_of-self
invariant_of-self g c = record {
  run =
      run-again g.K.AsBytes.bytes g.row.PREFIX_LEN c.args.self.now.map.now c.args.end c.args.self.now.leaves c.next_of.new.leaves c.next_of.result
      (rw c.nodes-root.ensures.same.0 at c.next_of.ensures.taken) c.args.self.now.run c.requires;
}

pub unreachable-requires : goal.unreachable-requires
unreachable-requires g c =
    not-none g.K.AsBytes.bytes g.row.PREFIX_LEN c.args.self.now.map.now c.args.end c.args.self.now.leaves c.next_of.new.leaves c.next_of.result
    (rw c.nodes-root.ensures.same.0 at c.next_of.ensures.taken) c.args.self.now.run c.requires c.in-None.is

pub returns-clause-left : goal.returns-clause-left
returns-clause-left g c =
    pair-taken g.K.AsBytes.bytes g.row.PREFIX_LEN c.args.self.now.map.now c.args.end c.args.self.now.leaves c.next_of.new.leaves c.next_of.result
    (rw c.nodes-root.ensures.same.0 at c.next_of.ensures.taken) (Coded-set (coded_list (coded× g.row.K.coded g.row.V.coded))) c.args.self.now.run c.requires c.in-Some.leaf c.in-Some.is

pub returns-clause-step : goal.returns-clause-step
returns-clause-step g c =
    some-step g.K.AsBytes.bytes g.row.PREFIX_LEN c.args.self.now.map.now c.args.end c.args.self.now.leaves c.next_of.new.leaves c.next_of.result
    (rw c.nodes-root.ensures.same.0 at c.next_of.ensures.taken) c.args.self.now.run c.requires c.in-Some.leaf c.in-Some.is
