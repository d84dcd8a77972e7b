use Rattle.std.proofs.Common.{ap, cond, is_some, length, ◌∙◌, ◌+◌}
use Rattle.art_map.proofs.Common.{found-removed, long-removed}
use Rattle.use_logins.specs.Logins.{last_seen}
use Rattle.use_logins.proofs.close.Goals as goal

pub returns-clause-gone : goal.returns-clause-gone
returns-clause-gone c = λ other.
    ap (last_seen other) c.in_ok-old.ensures.pairs
    ∙ found-removed (λ k. k) other c.args.token.now c.args.logins.now.pairs

pub returns-clause-many : goal.returns-clause-many
returns-clause-many c =
    ap (λ ps. length ps + cond (is_some (last_seen c.args.token.now c.args.logins.now.pairs)) 1 0) c.in_ok-old.ensures.pairs
    ∙ long-removed (λ k. k) c.args.token.now c.args.logins.now.pairs c.keys_ascend.ensures
