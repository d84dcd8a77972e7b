use Rattle.std.proofs.Common.{◌≤◌, subst}
use Rattle.std.specs.Prelude.{OnOk, Some, flat_map}
use Rattle.art_lines.proofs.Common.{Writes, line_of, looks_up}
use Rattle.art_engine.proofs.Terms.{AreRecords, IsWithin, Records, command_reply, visits_of}
use Rattle.art_engine.proofs.NumberPlaces.{are_in_order}
use Rattle.art_engine.proofs.records.Records.look_up.Goals as goal

pub returns-clause-output : goal.returns-clause-output
returns-clause-output g c =
    subst (λ (r : Records). Writes c.execute.result.0 (g.W.Sink.taken c.args.sink.now) (g.W.Sink.taken c.execute.new.sink) (flat_map line_of (command_reply (Some (looks_up c.args.word c.args.fields.now)) r)) (g.W.Sink.has_failed c.execute.new.sink))
    c.self.view_is (c.execute.ensures.output _ _ c.new-readers.ensures.bytes c.new-readers.ensures.numbers)

pub returns-clause-visits : goal.returns-clause-visits
returns-clause-visits g c =
    subst (λ (r : Records). OnOk c.execute.result.0 (IsWithin (visits_of g.row.PREFIX_LEN (Some (looks_up c.args.word c.args.fields.now)) r) c.execute.result.1.number))
    c.self.view_is (c.execute.ensures.visits _ _ c.new-readers.ensures.bytes c.new-readers.ensures.numbers)

pub returns-clause-few : goal.returns-clause-few
returns-clause-few g c =
    subst (λ (r : Records). c.execute.result.1.number ≤ (visits_of g.row.PREFIX_LEN (Some (looks_up c.args.word c.args.fields.now)) r).most)
    c.self.view_is (c.execute.ensures.few _ _ c.new-readers.ensures.bytes c.new-readers.ensures.numbers)

pub returns-clause-are : goal.returns-clause-are
returns-clause-are g c = subst AreRecords c.self.view_is (record {
  keys_in_order = c.self.invariant.0.stand.in_order;
  numbers_in_order = are_in_order c.self.inside.numbers.pairs c.self.invariant.1;
  keys_fit = c.self.invariant.0.fit;
  numbers_fit = c.self.invariant.1.fit;
})
