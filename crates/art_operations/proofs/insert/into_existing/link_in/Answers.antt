use Rattle.std.proofs.Common.{subst}
use Rattle.art_arena.proofs.Common.{links_at, kept-between}
use Rattle.art_operations.proofs.Terms.{AreNeighbours}
use Rattle.art_operations.proofs.insert.into_existing.link_in.Goals as goal

pub returns-in-Both-clause-others : goal.returns-in-Both-clause-others
returns-in-Both-clause-others g c = λ xs ys m beside between m_is.
    let both = subst (λ neighbours. AreNeighbours neighbours xs ys) c.in-Both.is between in
    kept-between (links_at c.args.arena.now) (links_at c.insert_between.new.arena) xs ys m
    (rw (both.0, both.1, m_is) c.insert_between.ensures.others)
