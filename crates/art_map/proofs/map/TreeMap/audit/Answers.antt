use Rattle.art_map.proofs.Audits.{counted, no-fault}
use Rattle.art_map.proofs.map.TreeMap.audit.Goals as goal

pub alloc_error_of-requires : goal.alloc_error_of-requires
alloc_error_of-requires g c =
    no-fault g.K.AsBytes.bytes g.row.PREFIX_LEN c.self.inside.arena _ c.self.inside.root c.self.invariant.has c.len.result (rw (← c.self.view_is) at c.len.ensures) c.in-Err.fault c.in-Err.ensures.err

pub returns-in-Ok : goal.returns-in-Ok
returns-in-Ok g c = rw (← c.self.view_is) (counted g.K.AsBytes.bytes g.row.PREFIX_LEN c.self.inside.arena _ c.self.inside.root c.self.invariant.has c.len.result c.in-Ok.stats c.in-Ok.ensures.ok)
