use Rattle.art_operations.proofs.MarkedSearch.{marked-test}
use Rattle.art_operations.proofs.marked.is_marked.Goals as goal

pub returns-then-key-last : goal.returns-then-key-last
returns-then-key-last c = marked-test c.is_empty.result c.args.key.now c.args.query.now c.args.mark c.count_agreeing.result c.is_empty.ensures c.if-is_empty.false c.if-key-last.true c.count_agreeing.ensures.value
