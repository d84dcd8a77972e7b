use Rattle.use_path_catalogue.proofs.LookedUp.{old_size, gone_after}
use Rattle.use_path_catalogue.proofs.forget.Goals as goal

pub returns-clause-old : goal.returns-clause-old
returns-clause-old c = old_size c.remove.result c.args.path.now c.args.catalogue.now.pairs c.remove.ensures.value

pub returns-clause-gone : goal.returns-clause-gone
returns-clause-gone c =
    gone_after c.remove.result c.args.path.now c.args.catalogue.now.pairs c.remove.new.self.pairs c.remove.ensures.pairs
