use Rattle.art_nodes.proofs.RowLemmas as row
use Rattle.art_nodes.proofs.row.take_out.Goals as goal

pub returns-clause-items : goal.returns-clause-items
returns-clause-items g c = rw c.copy_within.ensures.after (row.take_out c.args.row.now c.args.at c.args.used c.requires.0 c.requires.1)
