use denote.Param.{number, param}
use Rattle.art_set.proofs.set.TreeSet.TheSendSync.{the_send, the_sync}
use Rattle.art_set.proofs.laws.set_crosses.Goals as goal

pub returns-clause-sent : goal.returns-clause-sent
returns-clause-sent g c = the_send (param 0 g.row.K) (param 1 (number g.row.PREFIX_LEN)) g.K.AsBytes c.type_bounds.send-K

pub returns-clause-shared : goal.returns-clause-shared
returns-clause-shared g c = the_sync (param 0 g.row.K) (param 1 (number g.row.PREFIX_LEN)) g.K.AsBytes c.type_bounds.sync-K
