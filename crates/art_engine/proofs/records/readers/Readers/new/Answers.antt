use Rattle.std.proofs.Common.{arith}
use Rattle.art_engine.proofs.records.readers.Readers.new.Goals as goal

pub returns-clause-bytes : goal.returns-clause-bytes
returns-clause-bytes g c = record { read = c.reader.ensures.pairs; are = c.requires.held; few = let is = c.len.ensures in let fits = c.len.type_inv in omega arith }

pub returns-clause-numbers : goal.returns-clause-numbers
returns-clause-numbers g c = record { read = c.reader-2.ensures.pairs; are = c.requires.numbers; few = let is = c.len-2.ensures in let fits = c.len-2.type_inv in omega arith }
