-- All laws of the map, as its functions of laws need them.
use Rattle.art_map.proofs.FoundAfter.{laws}
use Rattle.art_map.proofs.AfterChanges.{change_laws}
use Rattle.art_map.proofs.PairChanges.{pair_laws}
use Rattle.art_map.proofs.EndedKeys.{ended_laws}

pub ruleset all_laws = (laws, change_laws, pair_laws, ended_laws)
