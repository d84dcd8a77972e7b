use Rattle.art_operations.proofs.Common.{same-names}
use Rattle.art_map.proofs.map.builder.TreeMapBuilder.insert.Goals as goal

pub returns-in-Err-clause-names : goal.returns-in-Err-clause-names
returns-in-Err-clause-names g c = same-names g.K.AsBytes.bytes c.args.self.now.map.nodes c.put.new.self.nodes c.in-Err.ensures.kept.0
