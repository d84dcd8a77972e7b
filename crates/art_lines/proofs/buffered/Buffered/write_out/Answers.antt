use Rattle.std.proofs.Common.{◌++◌, ap, ◌∙◌, take}
use Rattle.std.specs.List.{between}
use Rattle.art_lines.proofs.Buffering.{sent_on}
use Rattle.art_lines.proofs.buffered.Buffered.write_out.Goals as goal

pub returns-else-self-clause-same : goal.returns-else-self-clause-same
returns-else-self-clause-same g c =
    let now = c.args.self.now in
    sent_on now.room.items (g.S.Sink.taken now.sink) (g.S.Sink.taken c.write_to.new.sink) now.from now.to c.write_to.result
    (c.write_to.ensures.output ∙ ap (λ r. g.S.Sink.taken now.sink ++ take c.write_to.result (between now.from now.to r)) c.as_slice.ensures.value)
