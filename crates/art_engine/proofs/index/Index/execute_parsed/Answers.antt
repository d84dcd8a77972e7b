use Rattle.std.proofs.Common.{ℕ, ◌≤◌, ◌++◌, ◌∷◌, [], ap, sym, subst, ◌∙◌}
use Rattle.art_engine.specs.Done.{IsLineAnswered}
use Rattle.art_lines.proofs.Common.{when_err}
use Rattle.art_engine.proofs.Terms.{State, most_ahead}
use Rattle.art_engine.proofs.CarriedOut.{line_answered, line_cut}
use Rattle.art_engine.proofs.CutRuns.{told_ahead}
use Rattle.art_engine.proofs.index.Index.execute_parsed.Goals as goal

pub returns-clause-done : goal.returns-clause-done
returns-clause-done g c = λ line read.
    let n = c.count-visits.ensures in let a = c.count_ahead.ensures in let visits = c.execute-done.result.reads.number in
    subst (λ (k : ℕ). IsLineAnswered c.execute-done.result.memory k line c.args.self.now c.count_ahead.new.self (g.W.Sink.taken c.args.sink.now) (g.W.Sink.taken c.execute-done.new.sink)) (sym n.number)
    (line_answered _ line c.execute-done.result.memory visits _ c.execute-done.new.self c.execute-done.result.written (g.W.Sink.taken c.args.sink.now) (g.W.Sink.taken c.execute-done.new.sink) _ _ c.args.self.now c.count_ahead.new.self
    read c.execute-done.ensures (ap (λ (s : State g.row.PREFIX_LEN). s.records) c.self.view_is) (a.kept.0 ∙ n.kept.0) c.in_ok-written.was
    (a.kept.1 ∙ n.counted ∙ ap (λ (s : State g.row.PREFIX_LEN). s.reads ++ visits ∷ []) c.self.view_is))

pub returns-in_err-written-clause-cut : goal.returns-in_err-written-clause-cut
returns-in_err-written-clause-cut g c = λ line read.
    let n = c.count-visits.ensures in let a = c.count_ahead.ensures in let visits = c.execute-done.result.reads.number in
    when_err _ (told_ahead c.args.self.now c.count-visits.new.self c.count_ahead.new.self line _ _ c.args.line.now.ahead
    (line_cut _ line c.execute-done.result.memory visits _ c.execute-done.new.self c.execute-done.result.written _ _ _ _ c.args.self.now c.count-visits.new.self
    read c.execute-done.ensures (ap (λ (s : State g.row.PREFIX_LEN). s.records) c.self.view_is) n.kept.0 c.in_err-written.was
    (n.counted ∙ ap (λ (s : State g.row.PREFIX_LEN). s.reads ++ visits ∷ []) c.self.view_is))
    (n.kept.1 ∙ ap (λ (s : State g.row.PREFIX_LEN). s.ahead) c.self.view_is) (subst (λ o. c.args.line.now.ahead ≤ most_ahead o) read c.requires.few) a.kept.0 a.kept.1 a.counted)
