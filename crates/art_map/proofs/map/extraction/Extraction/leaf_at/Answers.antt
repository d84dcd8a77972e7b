use Rattle.std.proofs.Common.{arith}
use base.Stored.{Coded-set, coded_list, coded_ℕ, coded×}
use Rattle.std.specs.Coded.{coded_option}
use Rattle.art_map.proofs.Extractions.{leaf-slot, leaf-there, some-walk}
use Rattle.art_map.proofs.map.extraction.Extraction.leaf_at.Goals as goal

pub next_of-requires : goal.next_of-requires
next_of-requires g c = (omega arith, rw c.nodes-root.ensures.same.0 (some-walk g.K.AsBytes.bytes g.row.PREFIX_LEN c.args.self.now.map.now c.args.self.now.leaves c.args.self.now.run))

pub returns-clause-at : goal.returns-clause-at
returns-clause-at g c =
    leaf-slot g.K.AsBytes.bytes g.row.PREFIX_LEN c.args.self.now.map.now c.args.end c.args.self.now.leaves c.next_of.new.leaves c.next_of.result
    (rw c.nodes-root.ensures.same.0 at c.next_of.ensures.taken) c.next_of.ensures.none
    (Coded-set (coded_option coded_ℕ)) c.args.self.now.run

pub returns-clause-pair : goal.returns-clause-pair
returns-clause-pair g c =
    leaf-there g.K.AsBytes.bytes g.row.PREFIX_LEN c.args.self.now.map.now c.args.end c.args.self.now.leaves c.next_of.new.leaves c.next_of.result
    (rw c.nodes-root.ensures.same.0 at c.next_of.ensures.taken) c.next_of.ensures.none
    (Coded-set (coded_list (coded× g.row.K.coded g.row.V.coded))) c.args.self.now.run
