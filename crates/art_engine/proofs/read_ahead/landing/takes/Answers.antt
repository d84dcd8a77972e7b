use Rattle.std.proofs.Common.{refl, rules}
use Rattle.art_arena.proofs.Common.{begins_tells}
use Rattle.art_engine.proofs.WholeWays.{told_begins}
use Rattle.art_engine.proofs.read_ahead.landing.takes.Goals as goal

pub returns-in-LookUp-Find : goal.returns-in-LookUp-Find
returns-in-LookUp-Find c = λ fields.
    let told = told_begins c.starts_with.result c.args.stored.now c.args.full.now (begins_tells c.starts_with.result _ c.args.full.now _ c.args.stored.now refl refl c.starts_with.ensures.value) in
    search (rules, told)
