use Rattle.std.specs.Prelude.{slice_get}
use Rattle.std.proofs.Common.{rules, arith, ◌≡◌, ℕ, ◌≤◌, Bool, List, [], ◌++◌, sym, ◌∙◌, refl, ap, length, subst}
use Rattle.std.proofs.Common.{inl, inr}
use Rattle.std.proofs.lemmas.Bool.{eqb-true, eqb-false}
use Rattle.std.proofs.lemmas.List.{nil_from_length}
use Rattle.art_lines.specs.Lines.{whole_lines_of}
use Rattle.art_lines.specs.Reading.{command_of}
use Rattle.art_engine.specs.ReadAhead.{ahead_now, command_now, line_or}
use Rattle.art_engine.specs.declared.read_ahead.line.Line.{Line}
use Rattle.art_engine.proofs.Terms.{AllOnOwnPath, AreNext, IsLineDone, answer, most_ahead, records_in, to_come, read_of, texts_of, total}
use Rattle.art_engine.proofs.Carrying.{carried_line, done_from, whole_in_piece, put_together}
use Rattle.art_engine.proofs.OwnPathsAhead.{after_prefetch, fewer_on, next_on_path, none_ahead, now_is_in}
use Rattle.art_lines.proofs.Common.{when_err}
use Rattle.art_engine.proofs.CutRuns.{cut_from, cut_run-line}
use Rattle.art_engine.proofs.LinesAhead.{landed_same, next_is}
use Rattle.art_engine.proofs.running.finish_line.Goals as goal

pub next-requires : goal.next-requires
next-requires g c =
    let p = c.requires.part in
    record { comes = (next_is (texts_of (to_come c.prefetch.new.read_ahead)) c.args.part.now p.1.0 c.args.rest.now p.0 p.1.1 c.prefetch.ensures.comes).0 }

pub execute_current-requires : goal.execute_current-requires
execute_current-requires g c =
    let e = c.next.ensures in
    let few : ahead_now c.next.new.self ≤ most_ahead (command_now c.next.new.self) = subst (λ o. ahead_now c.next.new.self ≤ most_ahead o) (sym e.read) e.few in
    let told = e.landed g.row.PREFIX_LEN c.prefetch.new.self.records (c.prefetch.ensures.landed c.requires.landed) in
    (search rules, (c.requires.open, ((c.args.part.now, e.read), (few, (told.1, told.0)))))

pub execute_current-requires-2 : goal.execute_current-requires-2
execute_current-requires-2 g c =
    let e = c.parse_now.ensures in let none = e.ahead in
    let few : ahead_now c.parse_now.new.self ≤ most_ahead (command_now c.parse_now.new.self) = omega arith in
    let now = e.unlanded g.row.PREFIX_LEN c.args.index.now.records in
    let all = landed_same g.row.PREFIX_LEN c.args.index.now.records c.args.read_ahead.now c.parse_now.new.self e.kept.0 e.kept.1 c.requires.landed in
    (search rules, (c.requires.open, ((c.as_slice-line.result.now, e.read), (few, (now, all)))))

pub returns-then-is_empty-clause-carried : goal.returns-then-is_empty-clause-carried
unfolding done_from
returns-then-is_empty-clause-carried g c = λ start text before none h.
    let d = c.in_ok-execute_current.ensures.done c.args.part.now c.next.ensures.read in let k = c.prefetch.ensures.kept in
    let held : List ℕ = c.args.held.now.items in let part : List ℕ = c.args.part.now in
    let empty : held ≡ [] = nil_from_length held (eqb-true _ _ (sym c.if-is_empty.ensures)) in
    let memory : Bool = d.0 in
    let done : IsLineDone memory c.args.index.now part c.execute_current.new.index = done_from memory c.args.index.now c.prefetch.new.self c.execute_current.new.index part k.0 k.1 k.2 d.1 in
    let came = to_come c.args.read_ahead.now in let come = to_come c.prefetch.new.read_ahead in
    let own = next_on_path (records_in h.outcome) c.args.index.now.records come part (now_is_in [] start c.args.index.now h.outcome.asked h.outcome.done)
    (next_is (texts_of come) part c.requires.part.1.0 c.args.rest.now none c.requires.part.1.1 c.prefetch.ensures.comes).0
    (after_prefetch _ (records_in h.outcome) c.args.index.now.records came come (now_is_in [] start c.args.index.now h.outcome.asked h.outcome.done) h.own c.prefetch.ensures.ahead) in
    carried_line start c.args.index.now c.execute_current.new.index text part part held held before (g.W.Sink.taken c.args.sink.now) (g.W.Sink.taken c.execute_current.new.sink) memory came (to_come c.execute_current.new.read_ahead)
    h none (whole_in_piece start c.args.index.now text held before (g.W.Sink.taken c.args.sink.now) part part came h empty refl)
    done (d.2 ∙ ap (λ r. g.W.Sink.taken c.args.sink.now ++ answer memory r part) k.0) empty
    (fewer_on (records_in h.outcome) (command_of part) d.1.visits_ahead (line_or 0 (λ (line : Line). line.read) (slice_get come 0))
    (subst (λ o. d.1.visits_ahead ≤ line_or 0 (λ (line : Line). line.read) o) c.next.ensures.own.0 d.3) own.0)
    (subst (AllOnOwnPath (records_in h.outcome)) (sym (c.in_ok-execute_current.ensures.kept ∙ c.next.ensures.own.1)) own.1)

pub returns-then-is_empty-clause-emptied : goal.returns-then-is_empty-clause-emptied
returns-then-is_empty-clause-emptied g c = nil_from_length c.args.held.now.items (eqb-true _ _ (sym c.if-is_empty.ensures))

pub returns-then-is_empty-clause-comes : goal.returns-then-is_empty-clause-comes
returns-then-is_empty-clause-comes g c = λ following is.
    subst (λ ls. AreNext ls following) (sym (ap texts_of c.in_ok-execute_current.ensures.kept ∙ c.next.ensures.following))
    (next_is (texts_of (to_come c.prefetch.new.read_ahead)) c.args.part.now following c.args.rest.now c.requires.part.0 is c.prefetch.ensures.comes).1

pub returns-then-is_empty-clause-counted : goal.returns-then-is_empty-clause-counted
returns-then-is_empty-clause-counted g c =
    let e = c.execute_current.ensures in let k = c.prefetch.ensures.kept in
    let same = ap total k.2 in let prefetched = ap total e.prefetched in let counted = c.prefetch.ensures.counted in let next = c.next.ensures.counted in let now = e.counted in
    omega arith

pub returns-in_err-execute_current-clause-counted : goal.returns-in_err-execute_current-clause-counted
returns-in_err-execute_current-clause-counted g c =
    let e = c.execute_current.ensures in let k = c.prefetch.ensures.kept in
    let same = ap total k.2 in let prefetched = ap total e.prefetched in let counted = c.prefetch.ensures.counted in let next = c.next.ensures.counted in let now = e.counted in
    omega arith

pub returns-clause-carried : goal.returns-clause-carried
returns-clause-carried g c = λ start text before none h.
    let d = c.in_ok-execute_current-2.ensures.done c.as_slice-line.result.now c.parse_now.ensures.read in
    let held : List ℕ = c.args.held.now.items in let handled : List ℕ = c.as_slice-line.result.now in
    let came = to_come c.args.read_ahead.now in
    let none_read : d.1.visits_ahead ≡ 0 = (let few = d.3 in let is = c.parse_now.ensures.ahead in omega arith) in
    carried_line start c.args.index.now c.execute_current-2.new.index text c.args.part.now handled held c.clear.new.self.items before (g.W.Sink.taken c.args.sink.now) (g.W.Sink.taken c.execute_current-2.new.sink) d.0 came (to_come c.execute_current-2.new.read_ahead)
    h none (put_together start c.args.index.now text held before (g.W.Sink.taken c.args.sink.now) c.args.part.now handled came h (c.as_slice-line.ensures.value ∙ c.append_capped.ensures))
    d.1 d.2 c.clear.ensures
    (none_ahead (records_in h.outcome) c.args.index.now.records (command_of handled) d.1.visits_ahead (now_is_in [] start c.args.index.now h.outcome.asked h.outcome.done) none_read)
    (subst (AllOnOwnPath (records_in h.outcome)) (sym (c.in_ok-execute_current-2.ensures.kept ∙ c.parse_now.ensures.kept.0)) h.own)

pub returns-clause-comes : goal.returns-clause-comes
returns-clause-comes g c = λ following is.
    let none : to_come c.args.read_ahead.now ≡ [] = elim c.requires.cut [
      | inl empty ↦ let some = eqb-false _ _ (sym c.if-is_empty.ensures) in let l = ap (λ (bs : List ℕ). length bs) empty in absurd (omega arith)
      | inr none ↦ none
    ] in
    subst (λ ls. AreNext (texts_of ls) following) (sym (c.in_ok-execute_current-2.ensures.kept ∙ c.parse_now.ensures.kept.0 ∙ none)) (whole_lines_of following, refl)

pub returns-clause-counted : goal.returns-clause-counted
returns-clause-counted g c =
    let e = c.execute_current-2.ensures in let none = c.parse_now.ensures.ahead in
    let prefetched = ap total e.prefetched in let left = ap read_of c.parse_now.ensures.kept.0 in let now = e.counted in
    omega arith

pub returns-in_err-execute_current-2-clause-counted : goal.returns-in_err-execute_current-2-clause-counted
returns-in_err-execute_current-2-clause-counted g c =
    let e = c.execute_current-2.ensures in let none = c.parse_now.ensures.ahead in
    let prefetched = ap total e.prefetched in let left = ap read_of c.parse_now.ensures.kept.0 in let now = e.counted in
    omega arith

pub returns-in_err-execute_current-clause-cut : goal.returns-in_err-execute_current-clause-cut
unfolding cut_from
returns-in_err-execute_current-clause-cut g c = when_err c.from_residual.result (λ start text before none h.
    let k = c.prefetch.ensures.kept in
    let held : List ℕ = c.args.held.now.items in
    let empty : held ≡ [] = nil_from_length held (eqb-true _ _ (sym c.if-is_empty.ensures)) in
    let part : List ℕ = c.args.part.now in let l = c.in_err-execute_current.ensures.cut c.args.part.now c.next.ensures.read in
    let came = to_come c.args.read_ahead.now in let come = to_come c.prefetch.new.read_ahead in
    let own = next_on_path (records_in h.outcome) c.args.index.now.records come part (now_is_in [] start c.args.index.now h.outcome.asked h.outcome.done)
    (next_is (texts_of come) part c.requires.part.1.0 c.args.rest.now none c.requires.part.1.1 c.prefetch.ensures.comes).0
    (after_prefetch _ (records_in h.outcome) c.args.index.now.records came come (now_is_in [] start c.args.index.now h.outcome.asked h.outcome.done) h.own c.prefetch.ensures.ahead) in
    cut_run-line start c.args.index.now c.execute_current.new.index text part part held before (g.W.Sink.taken c.args.sink.now) (g.W.Sink.taken c.execute_current.new.sink) came
    h none (whole_in_piece start c.args.index.now text held before (g.W.Sink.taken c.args.sink.now) part part came h empty refl)
    (cut_from c.args.index.now c.prefetch.new.self c.execute_current.new.index part (g.W.Sink.taken c.args.sink.now) (g.W.Sink.taken c.execute_current.new.sink) k.0 k.1 k.2 l.0)
    (fewer_on (records_in h.outcome) (command_of part) l.0.visits_ahead (line_or 0 (λ (line : Line). line.read) (slice_get come 0))
    (subst (λ o. l.0.visits_ahead ≤ line_or 0 (λ (line : Line). line.read) o) c.next.ensures.own.0 l.1) own.0))

pub returns-in_err-execute_current-2-clause-cut : goal.returns-in_err-execute_current-2-clause-cut
returns-in_err-execute_current-2-clause-cut g c = when_err c.from_residual-in_err-execute_current-2.result (λ start text before none h.
    let held : List ℕ = c.args.held.now.items in let handled : List ℕ = c.as_slice-line.result.now in
    let came = to_come c.args.read_ahead.now in let l = c.in_err-execute_current-2.ensures.cut c.as_slice-line.result.now c.parse_now.ensures.read in
    let none_read : l.0.visits_ahead ≡ 0 = (let few = l.1 in let is = c.parse_now.ensures.ahead in omega arith) in
    cut_run-line start c.args.index.now c.execute_current-2.new.index text c.args.part.now handled held before (g.W.Sink.taken c.args.sink.now) (g.W.Sink.taken c.execute_current-2.new.sink) came
    h none (put_together start c.args.index.now text held before (g.W.Sink.taken c.args.sink.now) c.args.part.now handled came h (c.as_slice-line.ensures.value ∙ c.append_capped.ensures)) l.0
    (none_ahead (records_in h.outcome) c.args.index.now.records (command_of handled) l.0.visits_ahead (now_is_in [] start c.args.index.now h.outcome.asked h.outcome.done) none_read))

pub returns-in_err-execute_current-clause-used_up : goal.returns-in_err-execute_current-clause-used_up
returns-in_err-execute_current-clause-used_up g c = when_err c.from_residual.result c.in_err-execute_current.ensures.used_up

pub returns-in_err-execute_current-2-clause-used_up : goal.returns-in_err-execute_current-2-clause-used_up
returns-in_err-execute_current-2-clause-used_up g c = when_err c.from_residual-in_err-execute_current-2.result c.in_err-execute_current-2.ensures.used_up
