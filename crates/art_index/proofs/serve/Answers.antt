use Rattle.std.proofs.Common.{ap, sym, ◌∙◌, ◌++◌, inl, inr}
use Rattle.std.proofs.lemmas.Result.{on_err_weaker}
use Rattle.art_lines.specs.Ends.{bytes_given, bytes_taken, has_read_failed, has_run_out, has_write_failed, held_back, inner_sink}
use Rattle.art_index.proofs.BothEnds.{well_done, all_answered, all_written, read_is_told, read_answered, read_first, was_flushed, write_is_told, write_answered, write_first, no_write_failed}
use Rattle.art_index.proofs.serve.Goals as goal

pub returns-clause-ended : goal.returns-clause-ended
returns-clause-ended c = well_done c.run_buffered-answered.result c.flushed-done.result c.run_buffered-answered.ensures.ended c.flushed-done.ensures.kept (λ e. e)

pub returns-clause-outcome : goal.returns-clause-outcome
returns-clause-outcome c =
    well_done c.run_buffered-answered.result c.flushed-done.result c.run_buffered-answered.ensures.outcome c.flushed-done.ensures.kept
    (all_answered c.args.index.now c.run_buffered-answered.new.index (bytes_given c.run_buffered-answered.new.source) (bytes_taken c.run_buffered-answered.new.sink.buffered.sink) (bytes_taken c.flushed-done.new.writer) _ _
    c.new-source.ensures.given (ap (λ b. bytes_taken (inner_sink b) ++ held_back b) c.new-gathering.ensures ∙ c.new-2.ensures.taken ∙ c.new.ensures.taken) (c.flushed-done.ensures.taken ∙ ap bytes_taken c.into_sink-sink.ensures))

pub returns-clause-read : goal.returns-clause-read
returns-clause-read c = read_is_told c.run_buffered-answered.result c.flushed-done.result (has_read_failed c.run_buffered-answered.new.source) c.run_buffered-answered.ensures.read c.flushed-done.ensures.kept c.flushed-done.ensures.write

pub returns-clause-write : goal.returns-clause-write
returns-clause-write c = no_write_failed c.run_buffered-answered.result c.flushed-done.result (has_write_failed c.flushed-done.new.writer) c.flushed-done.ensures.exact c.flushed-done.ensures.kept

pub returns-clause-write_failed : goal.returns-clause-write_failed
returns-clause-write_failed c =
    let e = c.run_buffered-answered.ensures in let f = c.flushed-done.ensures in
    write_is_told c.run_buffered-answered.result c.flushed-done.result (has_read_failed c.run_buffered-answered.new.source) (has_write_failed c.run_buffered-answered.new.sink.buffered.sink) (has_write_failed c.flushed-done.new.writer)
    e.read e.write f.kept f.write f.exact (on_err_weaker c.run_buffered-answered.result (λ is. ap has_write_failed (is ∙ c.into_sink-sink.ensures)) f.left_alone)

pub returns-clause-after_read_fault : goal.returns-clause-after_read_fault
returns-clause-after_read_fault c = λ is.
    let e = c.run_buffered-answered.ensures in let f = c.flushed-done.ensures in
    let first = read_first c.run_buffered-answered.result c.flushed-done.result f.kept f.write f.left_alone is in
    read_answered c.args.index.now c.run_buffered-answered.new.index (bytes_given c.run_buffered-answered.new.source) (bytes_taken c.run_buffered-answered.new.sink.buffered.sink) (bytes_taken c.flushed-done.new.writer) _ _
    c.new-source.ensures.given (ap (λ b. bytes_taken (inner_sink b) ++ held_back b) c.new-gathering.ensures ∙ c.new-2.ensures.taken ∙ c.new.ensures.taken) (f.taken ∙ ap bytes_taken c.into_sink-sink.ensures)
    (has_write_failed c.run_buffered-answered.new.sink.buffered.sink) (has_write_failed c.flushed-done.new.writer) (ap has_write_failed (first.1 ∙ c.into_sink-sink.ensures)) (e.after_read_fault first.0)

pub returns-clause-after_write_fault : goal.returns-clause-after_write_fault
returns-clause-after_write_fault c = λ is.
    let e = c.run_buffered-answered.ensures in let f = c.flushed-done.ensures in let ended = has_run_out c.run_buffered-answered.new.source in
    let flushed = was_flushed c.run_buffered-answered.result (has_write_failed c.into_sink-sink.result) _ _ (λ failed. e.any (sym (ap has_write_failed c.into_sink-sink.ensures) ∙ failed)) f.flushes in
    elim (write_first c.run_buffered-answered.result c.flushed-done.result f.kept e.outcome flushed is) [
      | inl first ↦
          write_answered c.args.index.now c.run_buffered-answered.new.index (bytes_given c.run_buffered-answered.new.source) (bytes_taken c.run_buffered-answered.new.sink.buffered.sink) (bytes_taken c.flushed-done.new.writer) _ _
          c.new-source.ensures.given (ap (λ b. bytes_taken (inner_sink b) ++ held_back b) c.new-gathering.ensures ∙ c.new-2.ensures.taken ∙ c.new.ensures.taken) (f.taken ∙ ap bytes_taken c.into_sink-sink.ensures) ended (e.after_write_fault first)
      | inr all ↦
          all_written c.args.index.now c.run_buffered-answered.new.index (bytes_given c.run_buffered-answered.new.source) (bytes_taken c.run_buffered-answered.new.sink.buffered.sink) (bytes_taken c.flushed-done.new.writer) _ _
          c.new-source.ensures.given (ap (λ b. bytes_taken (inner_sink b) ++ held_back b) c.new-gathering.ensures ∙ c.new-2.ensures.taken ∙ c.new.ensures.taken) (f.taken ∙ ap bytes_taken c.into_sink-sink.ensures) ended all.0
          (all_answered c.args.index.now c.run_buffered-answered.new.index (bytes_given c.run_buffered-answered.new.source) (bytes_taken c.run_buffered-answered.new.sink.buffered.sink) (bytes_taken c.flushed-done.new.writer) _ _
          c.new-source.ensures.given (ap (λ b. bytes_taken (inner_sink b) ++ held_back b) c.new-gathering.ensures ∙ c.new-2.ensures.taken ∙ c.new.ensures.taken) (f.taken ∙ ap bytes_taken c.into_sink-sink.ensures) all.1)
    ]
