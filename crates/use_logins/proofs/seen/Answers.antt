use Rattle.std.proofs.Common.{◌∙◌}
use Rattle.use_logins.proofs.seen.Goals as goal

pub returns : goal.returns
returns c = c.copied.ensures ∙ c.get.ensures
