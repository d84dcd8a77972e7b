use Rattle.std.proofs.Common.{refl, ap, ◌∙◌}
use Rattle.art_arena.proofs.Common.{begins_tells, begins_with}
use Rattle.art_operations.proofs.Lookups.{told-prefix}
use Rattle.art_map.specs.Extractions.{left_of}
use Rattle.art_c.proofs.Prefixes.{next-told}
use Rattle.art_c.proofs.calls.prefixes.is_next_with.Goals as goal

pub returns-in-Some : goal.returns-in-Some
returns-in-Some c =
    let prefix = c.args.prefix.now in
    next-told prefix (left_of c.args.pairs.now) (c.in-Some.key.now, c.in-Some._word.now) c.starts_with.result c.in-Some.ensures
    (told-prefix c.starts_with.result c.as_bytes.result.now prefix
    (begins_tells c.starts_with.result c.as_bytes.result.now c.as_bytes.result.now prefix prefix refl refl c.starts_with.ensures.value)
    ∙ ap (begins_with prefix) c.as_bytes.ensures.value)
