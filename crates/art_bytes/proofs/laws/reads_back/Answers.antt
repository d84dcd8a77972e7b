-- Both values have the bytes that were written.
use Rattle.std.proofs.Common.{sym, ◌∙◌}
use Rattle.art_bytes.proofs.laws.reads_back.Goals as goal

pub returns-clause-same : goal.returns-clause-same
returns-clause-same g c =
    let laws = g.met.B.BytesMapping in
    let written = c.in_ok-bytes.bytes in
    let read = c.in_ok-read.ensures.value in
    let had = c.in_ok-bytes.ensures.value in
    laws.one_value c.in_ok-read.read c.args.value written written read had
    (sym (laws.are_bytes c.in_ok-read.read written read).1 ∙ (laws.are_bytes c.args.value written had).1)
