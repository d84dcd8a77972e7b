use Rattle.art_map.proofs.LeafNames.{kept-names}
use Rattle.art_map.proofs.map.TreeMap.retain.Goals as goal

pub returns-clause-names : goal.returns-clause-names
returns-clause-names g c = kept-names g.K.AsBytes.bytes c.args.self.now c.drop_others-retained.new.self c.name_leaves.ensures c.name_leaves-2.ensures c.drop_others-retained.ensures.none_new
