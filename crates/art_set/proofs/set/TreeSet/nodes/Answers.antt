use Rattle.std.proofs.Common.{subst}
use Rattle.art_operations.proofs.Common.{HoldsTreeOf}
use Rattle.art_set.proofs.KeyPairs.{with-units}
use Rattle.art_set.proofs.KeyViews.{ascending}
use Rattle.art_set.proofs.set.TreeSet.nodes.Goals as goal

pub returns-clause-tree : goal.returns-clause-tree
returns-clause-tree g c =
    rw (← c.self.view_is)
    (subst (λ ps. HoldsTreeOf g.K.AsBytes.bytes g.row.PREFIX_LEN c.nodes.result.0.now c.nodes.result.1 ps) (with-units c.self.inside.map.pairs) c.nodes.ensures.tree)

pub returns-clause-ordered : goal.returns-clause-ordered
returns-clause-ordered g c = rw (← c.self.view_is) (ascending g.K.AsBytes.bytes c.self.inside.map.pairs c.nodes.ensures.ordered)
