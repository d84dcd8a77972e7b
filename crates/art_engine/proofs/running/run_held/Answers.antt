use Rattle.std.proofs.Common.{rules, ◌≡◌, ℕ, ◌<◌, ◌≤◌, ◌++◌, [], List, length, take, sym, ◌∙◌, ap, arith, append-nil, append_assoc, subst, true, false, Ok}
use Rattle.std.proofs.lemmas.Bool.{eqb-false}
use Rattle.art_lines.proofs.Common.{lines_so_far}
use Rattle.art_lines.specs.Reading.{command_of}
use Rattle.art_engine.specs.ReadAhead.{ahead_now, command_now}
use Rattle.art_engine.proofs.OwnPathsAhead.{none_ahead, now_is_in}
use Rattle.art_engine.proofs.Terms.{answer, most_ahead, records_in, AfterWriteFault, Carried, read_of, total}
use Rattle.art_engine.proofs.Carrying.{carried_none, outcome_last}
use Rattle.art_engine.proofs.CutRuns.{cut_run-last}
use Rattle.art_engine.proofs.LinesAhead.{landed_none}
use Rattle.art_engine.proofs.running.run_held.Goals as goal

-- a read of no byte gives nothing
given_end : (start text old new : List ℕ) (n : ℕ) (buf : List ℕ) → old ≡ start ++ text → new ≡ old ++ take n buf → n ≡ 0 → new ≡ start ++ text
given_end start text old new n buf e h none = h ∙ ap (λ k. old ++ take k buf) none ∙ append-nil old ∙ e

pub reads-init : goal.reads-init
reads-init g c = record {
  carried = ([], sym (append-nil (g.S.Source.given c.args.source.now)), rw c.requires.none_held (carried_none c.args.index.now (g.W.Sink.taken c.args.sink.now)));
  used_up = c.requires.used_up;
  counted = omega arith;
  source_open = c.requires.source_open;
  source_goes_on = c.requires.source_goes_on;
  sink_open = c.requires.sink_open;
}

pub execute_current-requires : goal.execute_current-requires
execute_current-requires g c =
    let e = c.parse_now.ensures in let none = e.ahead in
    let few : ahead_now c.parse_now.new.self ≤ most_ahead (command_now c.parse_now.new.self) = omega arith in
    let now = e.unlanded g.row.PREFIX_LEN c.reads.index.records in
    let all = landed_none g.row.PREFIX_LEN c.reads.index.records c.parse_now.new.self (e.kept.0 ∙ c.reads.invariant.used_up) in
    (search rules, (search rules, ((c.as_slice-line.result.now, e.read), (few, (now, all)))))

pub returns-clause-outcome : goal.returns-clause-outcome
returns-clause-outcome g c =
    let i = c.reads.invariant.carried in let text : List ℕ = i.0 in
    let carried = i.2 in let d = c.in_ok-execute_current.ensures.done c.as_slice-line.result.now c.parse_now.ensures.read in let memory = d.0 in
    let held : List ℕ = c.reads.held.items in let line = c.as_slice-line.ensures.value in
    let some : 0 < length held = let h = eqb-false _ _ (sym c.if-is_empty.ensures) in omega arith in
    let none_read : d.1.visits_ahead ≡ 0 = (let few = d.3 in let is = c.parse_now.ensures.ahead in omega arith) in
    let last = outcome_last c.args.index.now c.reads.index c.execute_current.new.index text held (g.W.Sink.taken c.args.sink.now) (g.W.Sink.taken c.reads.sink) c.as_slice-line.result.now [] carried some line memory d.1
    (none_ahead (records_in carried.outcome) c.reads.index.records (command_of c.as_slice-line.result.now) d.1.visits_ahead (now_is_in [] c.args.index.now c.reads.index carried.outcome.asked carried.outcome.done) none_read) in (
      text,
      carried.written ++ answer memory c.reads.index.records c.as_slice-line.result.now,
      given_end (g.S.Source.given c.args.source.now) text (g.S.Source.given c.reads.source) (g.S.Source.given c.read_piece.new.source) c.in-Ok.n c.read_piece.new.buf i.1 c.in-Ok.ensures.gives c.if-n-eq0.true,
      d.2 ∙ ap (λ t. t ++ answer memory c.reads.index.records c.as_slice-line.result.now) (c.send.ensures.keeps ∙ carried.output) ∙ append_assoc (g.W.Sink.taken c.args.sink.now) carried.written (answer memory c.reads.index.records c.as_slice-line.result.now),
      last,
    )

pub returns-clause-ahead : goal.returns-clause-ahead
returns-clause-ahead g c =
    let counted = c.reads.invariant.counted in let e = c.execute_current.ensures in let now = e.counted in
    let none = c.parse_now.ensures.ahead in let prefetched = ap total e.prefetched in
    let left = ap read_of (c.in_ok-execute_current.ensures.kept ∙ c.parse_now.ensures.kept.0 ∙ c.reads.invariant.used_up) in
    let due = ap read_of (c.parse_now.ensures.kept.0 ∙ c.reads.invariant.used_up) in
    omega arith

pub returns-in_err-execute_current-clause-ahead : goal.returns-in_err-execute_current-clause-ahead
returns-in_err-execute_current-clause-ahead g c =
    let counted = c.reads.invariant.counted in let e = c.execute_current.ensures in let now = e.counted in
    let none = c.parse_now.ensures.ahead in let prefetched = ap total e.prefetched in
    let left = ap read_of c.in_err-execute_current.ensures.used_up in
    let due = ap read_of (c.parse_now.ensures.kept.0 ∙ c.reads.invariant.used_up) in
    omega arith

pub returns-in_err-feed-clause-ahead : goal.returns-in_err-feed-clause-ahead
returns-in_err-feed-clause-ahead g c = let before = c.reads.invariant.counted in let now = c.in_err-feed.ensures.counted in omega arith

pub returns-in_err-feed-clause-after_write_fault :
    goal.returns-in_err-feed-clause-after_write_fault
returns-in_err-feed-clause-after_write_fault g c = λ _.
    let i = c.reads.invariant.carried in let text : List ℕ = i.0 in let n : ℕ = c.in-Ok.n in
    let more : List ℕ = take n c.read_piece.new.buf in
    let sent = subst (λ t. Carried c.args.index.now c.reads.index text c.reads.held.items (g.W.Sink.taken c.args.sink.now) t []) (sym c.send.ensures.keeps) i.2 in
    let run = c.in_err-feed.ensures.cut c.args.index.now text (g.W.Sink.taken c.args.sink.now) sent in
    let some : 0 < n = let other = c.if-n-eq0.false in omega arith in
    let goes_on : g.S.Source.has_ended c.read_piece.new.source ≡ false = c.in-Ok.ensures.goes_on some ∙ c.reads.invariant.source_goes_on in (
      text ++ more,
      run.written,
      c.in-Ok.ensures.gives ∙ ap (λ t. t ++ more) i.1 ∙ append_assoc (g.S.Source.given c.args.source.now) text more,
      run.output,
      subst (λ b. AfterWriteFault c.args.index.now (lines_so_far b (text ++ more)) run.written c.feed.new.index) (sym goes_on) run.fault,
    )

pub returns-in_err-execute_current-clause-after_write_fault :
    goal.returns-in_err-execute_current-clause-after_write_fault
returns-in_err-execute_current-clause-after_write_fault g c = λ _.
    let i = c.reads.invariant.carried in let text : List ℕ = i.0 in
    let held : List ℕ = c.reads.held.items in
    let some : 0 < length held = let h = eqb-false _ _ (sym c.if-is_empty.ensures) in omega arith in
    let sent = subst (λ t. Carried c.args.index.now c.reads.index text held (g.W.Sink.taken c.args.sink.now) t []) (sym c.send.ensures.keeps) i.2 in
    let l = c.in_err-execute_current.ensures.cut c.as_slice-line.result.now c.parse_now.ensures.read in
    let none_read : l.0.visits_ahead ≡ 0 = (let few = l.1 in let is = c.parse_now.ensures.ahead in omega arith) in
    let run = cut_run-last c.args.index.now c.reads.index c.execute_current.new.index text held (g.W.Sink.taken c.args.sink.now) (g.W.Sink.taken c.send.new.self) (g.W.Sink.taken c.execute_current.new.sink) c.as_slice-line.result.now []
    sent some c.as_slice-line.ensures.value l.0
    (none_ahead (records_in sent.outcome) c.reads.index.records (command_of c.as_slice-line.result.now) l.0.visits_ahead (now_is_in [] c.args.index.now c.reads.index sent.outcome.asked sent.outcome.done) none_read) in
    let ended : g.S.Source.has_ended c.read_piece.new.source ≡ true = c.in-Ok.ensures.ends (ap (λ n. Ok n) c.if-n-eq0.true) in (
      text,
      run.written,
      given_end (g.S.Source.given c.args.source.now) text (g.S.Source.given c.reads.source) (g.S.Source.given c.read_piece.new.source) c.in-Ok.n c.read_piece.new.buf i.1 c.in-Ok.ensures.gives c.if-n-eq0.true,
      run.output,
      subst (λ b. AfterWriteFault c.args.index.now (lines_so_far b text) run.written c.execute_current.new.index) (sym ended) run.fault,
    )
