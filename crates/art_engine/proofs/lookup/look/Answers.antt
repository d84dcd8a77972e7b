use Rattle.std.proofs.Common.{◌+◌, ◌≤◌, subst}
use Rattle.std.specs.Prelude.{OnOk, Some, flat_map}
use Rattle.art_lines.proofs.Common.{Command, Writes, line_of}
use Rattle.art_engine.proofs.Terms.{Grew, all_records_of, command_reply, key_visits, number_visits}
use Rattle.art_engine.proofs.lookup.look.Goals as goal

pub returns-clause-output : goal.returns-clause-output
returns-clause-output g c = λ ps ns r s.
    subst (λ (q : Command). Writes c.look_up.result (g.W.Sink.taken c.args.sink.now) (g.W.Sink.taken c.look_up.new.sink) (flat_map line_of (command_reply (Some q) (all_records_of ps ns))) (g.W.Sink.has_failed c.look_up.new.sink))
    c.set_look_up-word.ensures (c.look_up.ensures.output ps ns r s)

pub returns-clause-bytes_read : goal.returns-clause-bytes_read
returns-clause-bytes_read g c = λ ps ns r s.
    subst (λ (q : Command). OnOk c.look_up.result (Grew (key_visits g.row.PREFIX_LEN (Some q) (all_records_of ps ns)) c.args.bytes.now.count c.look_up.new.bytes.count))
    c.set_look_up-word.ensures (c.look_up.ensures.bytes_read ps ns r s)

pub returns-clause-numbers_read : goal.returns-clause-numbers_read
returns-clause-numbers_read g c = λ ps ns r s.
    subst (λ (q : Command). OnOk c.look_up.result (Grew (number_visits g.row.PREFIX_LEN (Some q) (all_records_of ps ns)) c.args.numbers.now.count c.look_up.new.numbers.count))
    c.set_look_up-word.ensures (c.look_up.ensures.numbers_read ps ns r s)

pub returns-clause-bytes_few : goal.returns-clause-bytes_few
returns-clause-bytes_few g c = λ ps ns r s.
    subst (λ (q : Command). c.look_up.new.bytes.count ≤ c.args.bytes.now.count + (key_visits g.row.PREFIX_LEN (Some q) (all_records_of ps ns)).most)
    c.set_look_up-word.ensures (c.look_up.ensures.bytes_few ps ns r s)

pub returns-clause-numbers_few : goal.returns-clause-numbers_few
returns-clause-numbers_few g c = λ ps ns r s.
    subst (λ (q : Command). c.look_up.new.numbers.count ≤ c.args.numbers.now.count + (number_visits g.row.PREFIX_LEN (Some q) (all_records_of ps ns)).most)
    c.set_look_up-word.ensures (c.look_up.ensures.numbers_few ps ns r s)
