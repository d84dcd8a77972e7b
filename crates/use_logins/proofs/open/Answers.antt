use Rattle.std.proofs.Common.{ap, length, ◌∙◌}
use Rattle.art_map.proofs.Common.{found-inserted, long-inserted}
use Rattle.use_logins.specs.Logins.{last_seen}
use Rattle.use_logins.proofs.open.Goals as goal

pub returns-in-Ok-clause-seen : goal.returns-in-Ok-clause-seen
returns-in-Ok-clause-seen c = λ other.
    ap (last_seen other) c.in-Ok.ensures.pairs
    ∙ found-inserted (λ k. k) other c.args.token c.args.time c.args.logins.now.pairs

pub returns-in-Ok-clause-many : goal.returns-in-Ok-clause-many
returns-in-Ok-clause-many c =
    ap length c.in-Ok.ensures.pairs
    ∙ long-inserted (λ k. k) c.args.token c.args.time c.args.logins.now.pairs c.keys_ascend.ensures
