use Rattle.art_bytes.specs.lemmas.ConcatLaws.{first_front, last_front, on_err}
use Rattle.art_bytes.proofs.mappings.concat.push_pair.Goals as goal

pub returns-in_err-push_bytes-clause-err : goal.returns-in_err-push_bytes-clause-err
returns-in_err-push_bytes-clause-err g c =
    on_err c.from_residual.result
    (first_front c.args.bytes.now.items c.push_bytes.new.bytes.items (g.M.Parts.parts_bytes c.args.first) (g.A.Parts.parts_bytes c.args.last) c.in_err-push_bytes.ensures.err)

pub returns-clause-err : goal.returns-clause-err
returns-clause-err g c =
    last_front c.push_bytes-2.result c.args.bytes.now.items c.push_bytes.new.bytes.items c.push_bytes-2.new.bytes.items (g.M.Parts.parts_bytes c.args.first) (g.A.Parts.parts_bytes c.args.last) c.in_ok-push_bytes.ensures.bytes c.push_bytes-2.ensures.err
