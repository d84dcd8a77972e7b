use Rattle.std.proofs.Common.{◌≡◌, ◌∙◌, subst, sym}
use Rattle.std.specs.List.{AllZip}
use Rattle.art_engine.specs.ReadAhead.{IsDescended}
use Rattle.art_engine.proofs.WaysAhead.{all_on, none_reached}
use Rattle.art_engine.proofs.read_ahead.descents.descend_all.Goals as goal

pub returns-clause-descended : goal.returns-clause-descended
returns-clause-descended g c =
    let a = c.args.reader.now.arena.now in let s = c.step_all.ensures in
    all_on g.K.AsBytes.bytes a c.args.of_number c.args.lines.now c.step_all.new.lines c.land_each.new.lines s.descended
    (c.land_each.ensures.descended a (s.reached (none_reached a c.args.of_number c.args.lines.now 16)))
