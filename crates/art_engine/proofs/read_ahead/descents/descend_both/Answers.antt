use Rattle.std.proofs.Common.{take, sym, subst, ◌∙◌}
use Rattle.std.proofs.lemmas.List.{length-take-le}
use Rattle.std.specs.List.{AllByRecursion}
use Rattle.art_engine.specs.ReadAhead.{IsOnOwnWay}
use Rattle.art_engine.proofs.WaysAhead.{all_own, take_first}
use Rattle.art_engine.proofs.read_ahead.descents.descend_both.Goals as goal

pub returns-clause-ways : goal.returns-clause-ways
returns-clause-ways g c = λ keys_root numbers_root own.
    let a = c.args in let first = c.descend_all.ensures in let second = c.descend_all-2.ensures in
    subst (AllByRecursion (IsOnOwnWay a.keys.now.arena.now keys_root a.numbers.now.arena.now numbers_root))
    (sym (take_first c.descend_all-2.new.lines _ a.len (second.long ∙ first.long ∙ length-take-le a.len a.lines.now c.requires)))
    (all_own a.keys.now.arena.now keys_root a.numbers.now.arena.now numbers_root (take a.len a.lines.now) c.descend_all.new.lines c.descend_all-2.new.lines first.descended second.descended own)
