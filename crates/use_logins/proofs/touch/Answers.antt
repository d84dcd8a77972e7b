use Rattle.std.proofs.Common.{ap, bytes_eq, length, ◌∙◌}
use Rattle.art_map.proofs.Common.{found-written, long-written}
use Rattle.use_logins.specs.Logins.{last_seen}
use Rattle.use_logins.proofs.touch.Goals as goal

pub returns-in-Some-clause-seen : goal.returns-in-Some-clause-seen
returns-in-Some-clause-seen c = λ other.
    ap (last_seen other) (c.get_mut.follows.holds c.args.time).0
    ∙ found-written (λ k. k) other c.args.token.now c.args.time c.args.logins.now.pairs

pub returns-in-Some-clause-many : goal.returns-in-Some-clause-many
returns-in-Some-clause-many c =
    ap length (c.get_mut.follows.holds c.args.time).0
    ∙ long-written (λ k. bytes_eq k c.args.token.now) c.args.time c.args.logins.now.pairs
