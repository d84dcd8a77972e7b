use Rattle.std.proofs.Common.{subst}
use Rattle.art_walks.proofs.Common.{ReadsPairs}
use Rattle.art_set.proofs.KeyPairs.{with-units}
use Rattle.art_set.proofs.set.TreeSet.reader.Goals as goal

pub returns-clause-keys : goal.returns-clause-keys
returns-clause-keys g c =
    rw (← c.self.view_is)
    (subst (λ ps. ReadsPairs g.K.AsBytes.bytes g.row.PREFIX_LEN c.reader.result.nodes c.reader.result.root ps) (with-units c.self.inside.map.pairs) c.reader.ensures.pairs)
