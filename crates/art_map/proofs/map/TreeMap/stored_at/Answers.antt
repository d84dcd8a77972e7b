use Rattle.art_map.proofs.Places.{met-at, met-nowhere}
use Rattle.art_map.proofs.map.TreeMap.stored_at.Goals as goal

pub returns-in-Some : goal.returns-in-Some
returns-in-Some g c = λ key known.
    rw (← c.self.view_is)
    (met-at g.K.AsBytes.bytes g.K.AsBytes.is_key g.row.PREFIX_LEN c.self.inside.arena key c.self.inside.root c.self.invariant _ (rw (← c.self.view_is, c.in-Some.is) at known) c.stored_leaf.result c.stored_leaf.ensures)

pub returns-in-None : goal.returns-in-None
returns-in-None g c = λ key known. rw (← c.self.view_is) (met-nowhere g.K.AsBytes.bytes g.K.AsBytes.is_key g.row.PREFIX_LEN c.self.inside.arena key c.self.inside.root (rw (← c.self.view_is, c.in-None.is) at known))
