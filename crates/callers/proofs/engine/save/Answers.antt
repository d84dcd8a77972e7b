use Rattle.std.proofs.Common.{◌++◌, ◌∙◌, ap}
use Rattle.art_engine.proofs.DumpReplies.{dump_answer, dump_left}
use Rattle.callers.proofs.engine.save.Goals as goal

pub returns-clause-told : goal.returns-clause-told
returns-clause-told g c =
    let done = c.in_ok-handle in
    done.ensures.output ∙ ap (λ t. g.W.Sink.taken c.args.sink.now ++ t) (dump_answer done.field-0.memory c.args.index.now.records done.ensures.lawful)

pub returns-clause-kept : goal.returns-clause-kept
returns-clause-kept g c = let done = c.in_ok-handle in done.ensures.left ∙ dump_left done.field-0.memory c.args.index.now.records
