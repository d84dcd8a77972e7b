use Rattle.std.proofs.Common.{ap, inl, inr, refl, sym, subst}
use Rattle.std.specs.Prelude.{IsErr}
use Rattle.std.proofs.lemmas.Result.{on_err_weaker}
use Rattle.art_lines.specs.Ends.{bytes_given, bytes_taken, has_read_failed, has_run_out, has_write_failed}
use Rattle.art_index.proofs.BothEnds.{well_done, all_answered, ran_write_is_told, read_is_told, read_answered_at_once, read_first, was_flushed, write_is_told, write_answered_at_once, write_first, no_write_failed}
use Rattle.art_index.proofs.serve_at_once.Goals as goal

pub returns-clause-ended : goal.returns-clause-ended
returns-clause-ended c = well_done c.run-ran.result c.flushed-done.result c.run-ran.ensures.ended c.flushed-done.ensures.kept (λ e. e)

pub returns-clause-outcome : goal.returns-clause-outcome
returns-clause-outcome c =
    well_done c.run-ran.result c.flushed-done.result c.run-ran.ensures.outcome c.flushed-done.ensures.kept
    (all_answered c.args.index.now c.run-ran.new.index (bytes_given c.run-ran.new.source) (bytes_taken c.run-ran.new.sink) (bytes_taken c.flushed-done.new.writer) _ _
    c.new-source.ensures.given c.new-sink.ensures.taken c.flushed-done.ensures.taken)

pub returns-clause-read : goal.returns-clause-read
returns-clause-read c = read_is_told c.run-ran.result c.flushed-done.result (has_read_failed c.run-ran.new.source) c.run-ran.ensures.read c.flushed-done.ensures.kept c.flushed-done.ensures.write

pub returns-clause-write : goal.returns-clause-write
returns-clause-write c = no_write_failed c.run-ran.result c.flushed-done.result (has_write_failed c.flushed-done.new.writer) c.flushed-done.ensures.exact c.flushed-done.ensures.kept

pub returns-clause-write_failed : goal.returns-clause-write_failed
returns-clause-write_failed c =
    let e = c.run-ran.ensures in let f = c.flushed-done.ensures in
    write_is_told c.run-ran.result c.flushed-done.result (has_read_failed c.run-ran.new.source) (has_write_failed c.run-ran.new.sink) (has_write_failed c.flushed-done.new.writer)
    e.read (ran_write_is_told c.run-ran.result (has_read_failed c.run-ran.new.source) (has_write_failed c.run-ran.new.sink) e.read e.write) f.kept f.write f.exact
    (on_err_weaker c.run-ran.result (λ is. ap has_write_failed is) f.left_alone)

pub returns-clause-after_read_fault : goal.returns-clause-after_read_fault
returns-clause-after_read_fault c = λ is.
    let e = c.run-ran.ensures in let f = c.flushed-done.ensures in
    let first = read_first c.run-ran.result c.flushed-done.result f.kept f.write f.left_alone is in
    read_answered_at_once c.args.index.now c.run-ran.new.index (bytes_given c.run-ran.new.source) (bytes_taken c.run-ran.new.sink) (bytes_taken c.flushed-done.new.writer) _ _
    c.new-source.ensures.given c.new-sink.ensures.taken f.taken (e.after_read_fault first.0)

pub returns-clause-after_write_fault : goal.returns-clause-after_write_fault
returns-clause-after_write_fault c = λ is.
    let e = c.run-ran.ensures in let f = c.flushed-done.ensures in
    let flushed = was_flushed c.run-ran.result (has_write_failed c.run-ran.new.sink) _ _ (λ failed. subst IsErr (sym (e.write.1 failed)) refl) f.flushes in
    elim (write_first c.run-ran.result c.flushed-done.result f.kept e.outcome flushed is) [
      | inl first ↦
          inl (write_answered_at_once c.args.index.now c.run-ran.new.index (bytes_given c.run-ran.new.source) (bytes_taken c.run-ran.new.sink) (bytes_taken c.flushed-done.new.writer) _ _
          c.new-source.ensures.given c.new-sink.ensures.taken f.taken (has_run_out c.run-ran.new.source) (e.after_write_fault first))
      | inr all ↦
          inr (
            all.0,
            all_answered c.args.index.now c.run-ran.new.index (bytes_given c.run-ran.new.source) (bytes_taken c.run-ran.new.sink) (bytes_taken c.flushed-done.new.writer) _ _
                c.new-source.ensures.given c.new-sink.ensures.taken f.taken all.1,
          )
    ]
