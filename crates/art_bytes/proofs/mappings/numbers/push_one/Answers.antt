use Rattle.art_bytes.specs.lemmas.ConcatLaws.{failed_append}
use Rattle.art_bytes.proofs.mappings.numbers.push_one.Goals as goal

pub returns-clause-err : goal.returns-clause-err
returns-clause-err g c = failed_append c.extend_from_slice.result c.args.bytes.now.items c.extend_from_slice.new.self.items c.as_bytes.result.now (g.E.FixedBytes.fixed_bytes c.args.value) c.extend_from_slice.ensures.items
