use Rattle.std.proofs.Common.{refl, ◌∙◌, ap}
use Rattle.std.specs.Ordering.{is_lt}
use Rattle.art_bytes.proofs.Common.{front_not_before}
use Rattle.art_arena.proofs.shapes.Prefixes.{begins_not, begins_of}
use Rattle.art_map.proofs.Pushed.{order-tells}
use Rattle.art_map.proofs.map.builder.push.goes_after.Goals as goal

pub returns-then-starts_with : goal.returns-then-starts_with
returns-then-starts_with c =
    let key = c.args.key.now in
    let other = c.args.other.now in
    front_not_before other key (begins_of c.starts_with.result key key other other refl refl c.starts_with.ensures.value c.if-starts_with.true)

pub returns : goal.returns
returns c =
    let key = c.args.key.now in
    let other = c.args.other.now in
    order-tells c.is_lt.result other key (c.is_lt.ensures ∙ ap is_lt c.cmp.ensures) (begins_not c.starts_with.result key key other other refl refl c.starts_with.ensures.value c.if-starts_with.false)
