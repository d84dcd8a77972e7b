use Rattle.std.proofs.Common.{subst}
use Rattle.art_arena.proofs.Common.{links_at}
use Rattle.art_operations.proofs.Common.{IsAtEnd}
use Rattle.art_walks.proofs.Common.{IsWalk}
use Rattle.art_map.proofs.map.extraction.next_of.Goals as goal

pub returns-in-First-clause-taken : goal.returns-in-First-clause-taken
returns-in-First-clause-taken g c = λ l ys zs at walk. c.next.ensures.first l ys (subst (IsWalk (links_at c.args.arena.now) c.args.leaves.now) (subst (λ end. IsAtEnd end l ys zs) c.in-First.is at) walk)
