use Rattle.std.proofs.Common.{arith}
use Rattle.art_lines.proofs.Gathering.{puts_then}
use Rattle.art_engine.proofs.Auditing.{count_short}
use Rattle.art_engine.proofs.audit.put_count.Goals as goal

pub put_number-requires : goal.put_number-requires
put_number-requires c = let short = count_short c.args.count (omega arith) in omega arith

pub returns-clause-output : goal.returns-clause-output
returns-clause-output c = puts_then _ _ _ _ _ _ _ _ c.put_text-next.ensures c.put_number.ensures

pub returns-clause-few : goal.returns-clause-few
returns-clause-few c = let short = count_short c.args.count (omega arith) in let next = c.put_text-next.ensures.next_is in let end = c.put_number.ensures.next_is in omega arith
