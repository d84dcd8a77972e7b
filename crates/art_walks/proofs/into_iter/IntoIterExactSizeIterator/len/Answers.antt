use Rattle.std.proofs.Common.{sym}
use Rattle.art_walks.proofs.Rests.{rest-length}
use Rattle.art_walks.proofs.into_iter.IntoIterExactSizeIterator.len.Goals as goal

pub returns-clause-value : goal.returns-clause-value
returns-clause-value g c = rw (← c.self.view_is) (sym (rest-length c.self.inside.arena c.self.inside.leaves c.self.inside.len c.self.invariant))
