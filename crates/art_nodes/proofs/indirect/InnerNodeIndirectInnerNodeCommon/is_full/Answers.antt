use Rattle.art_nodes.proofs.ChildLemmas.{length-zip_same, is_true-eq}
use Rattle.art_nodes.proofs.indirect.InnerNodeIndirectInnerNodeCommon.is_full.Goals as goal

pub returns-clause-value : goal.returns-clause-value
returns-clause-value g c = rw (← c.self.view_is, length-zip_same _ _ c.self.invariant.same_length, ← c.self.invariant.counts, c.num_children.ensures.value, c.min.ensures) (is_true-eq _ _)

pub returns-clause-room : goal.returns-clause-room
returns-clause-room g c = rw (← c.self.view_is, length-zip_same _ _ c.self.invariant.same_length) c.self.invariant.fits
