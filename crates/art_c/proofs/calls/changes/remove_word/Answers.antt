use Rattle.std.proofs.Common.{refl, sym, ◌∙◌}
use Rattle.art_c.proofs.Lookups.{none-gone}
use Rattle.art_c.proofs.NodeRoom.{not-ok, of-none, of-some}
use Rattle.art_c.proofs.calls.changes.remove_word.Goals as goal

pub returns-in-Ok-Some : goal.returns-in-Ok-Some
returns-in-Ok-Some c =
    let e = c.in-Ok-Some.ensures in
    (sym e.value ∙ c.in-Ok-Some.field-0-is, e.pairs, (e.room, of-some _ _ c.in-Ok-Some.field-0-is e.leaf_room))

pub returns-in-Ok-None : goal.returns-in-Ok-None
returns-in-Ok-None c =
    let e = c.in-Ok-None.ensures in
    let none = sym c.in-Ok-None.field-0-is ∙ e.value in
    (sym none, e.pairs ∙ none-gone c.args.key.now c.args.map.now.pairs none, refl, of-none _ c.in-Ok-None.field-0-is e.none_room)

pub returns-in-Err : goal.returns-in-Err
returns-in-Err c =
    let e = c.in-Err.ensures in (e.shrinks.0, e.shrinks.1, e.err, refl, (e.kept.2, not-ok e.succeeds))
