use Rattle.std.proofs.Common.{false, refl, sym, subst, Some}
use Rattle.art_lines.proofs.Common.{looks_up}
use Rattle.art_engine.specs.Done.{IsCommandDone}
use Rattle.art_engine.proofs.CarriedOut.{always, looked_up}
use Rattle.art_engine.proofs.Terms.{IsWithin, visits_of}
use Rattle.art_engine.proofs.records.Records.execute_look_up.Goals as goal

pub returns-in-Some : goal.returns-in-Some
returns-in-Some g c =
    let f = c.args.line.now.fields.now in let r = c.args.self.now in
    let within : IsWithin (visits_of g.row.PREFIX_LEN (Some (looks_up c.args.word f)) r) c.of.result.number =
    subst (IsWithin (visits_of g.row.PREFIX_LEN (Some (looks_up c.args.word f)) r)) (sym c.of.ensures) c.in-Some.ensures.visits in
    looked_up c.in-Some.written _ _ _ c.args.word f r c.of.result.number c.in-Some.ensures.output (always c.in-Some.written within) within.1 c.are_records.ensures

pub returns : goal.returns
returns g c =
    let e = c.look_up-written.ensures in let f = c.args.line.now.fields.now in let r = c.args.self.now in
    subst (λ s. IsCommandDone g.row.PREFIX_LEN (Some (looks_up c.args.word f)) false c.look_up-written.result.1.number r r c.look_up-written.result.0 (g.W.Sink.taken s) (g.W.Sink.taken c.look_up-written.new.sink) (g.W.Sink.has_failed c.look_up-written.new.sink))
    (c.in_default.ensures.left_alone refl) (looked_up c.look_up-written.result.0 _ _ _ c.args.word f r c.look_up-written.result.1.number e.output e.visits e.few e.are)
