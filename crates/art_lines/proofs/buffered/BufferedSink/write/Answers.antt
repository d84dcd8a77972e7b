use Rattle.std.proofs.Common.{rules, ◌≡◌, ◌++◌, ℕ, List, ap, sym, ◌∙◌, take, append_assoc}
use Rattle.std.specs.List.{between}
use Rattle.art_lines.proofs.Buffering.{put_after}
use Rattle.art_lines.proofs.buffered.BufferedSink.write.Goals as goal
use Rattle.art_lines.proofs.buffered.BufferedSink.write.Goals.{then-self-len, else-self-len}

pub returns-clause-takes : goal.returns-clause-takes
returns-clause-takes g c =
    let old = c.args.self.now in let now = c.if-self-len.self in let piece : List ℕ = take c.min-n.result c.args.piece.now in
    let same : g.S.Sink.taken now.sink ++ between now.from now.to now.room.items ≡ g.S.Sink.taken old.sink ++ between old.from old.to old.room.items =
    elim c.if-self-len.branch [ then-self-len w ↦ ap (λ x. g.S.Sink.taken x.sink ++ between x.from x.to x.room.items) w.self-is ∙ w.write_out.ensures.same | else-self-len w ↦ ap (λ x. g.S.Sink.taken x.sink ++ between x.from x.to x.room.items) w.self-is ] in
    let value = c.as_mut_slice.ensures.value in
    let put = c.put_text-self.ensures in
    ap (λ p. g.S.Sink.taken now.sink ++ p) (put_after c.as_mut_slice.result.now _ c.put_text-self.new.room piece now.room.len now.from now.to c.put_text-self.result put.output now.begins (search rules) (search rules) (search rules))
    ∙ ap (λ r. g.S.Sink.taken now.sink ++ (between now.from now.to r ++ piece)) value
    ∙ sym (append_assoc (g.S.Sink.taken now.sink) (between now.from now.to now.room.items) piece)
    ∙ ap (λ t. t ++ piece) same
