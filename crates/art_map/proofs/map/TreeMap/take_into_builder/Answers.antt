use Rattle.std.proofs.Common.{sym, subst}
use Rattle.art_arena.proofs.Common.{HasRoom}
use Rattle.art_operations.proofs.Common.{HasLeavesOf}
use Rattle.art_map.proofs.Terms.{HasGathered, nodes_of}
use Rattle.art_map.proofs.map.TreeMap.take_into_builder.Goals as goal

pub returns-clause-pairs : goal.returns-clause-pairs
returns-clause-pairs g c = subst (λ m. HasGathered g.K.AsBytes.bytes g.K.AsBytes.is_key c.from_map.result m.pairs) c.replace.ensures.value c.from_map.ensures.pairs

pub returns-clause-names : goal.returns-clause-names
returns-clause-names g c = subst (λ m. HasLeavesOf g.K.AsBytes.bytes (nodes_of c.from_map.result) m.nodes) c.replace.ensures.value c.from_map.ensures.names

pub returns-clause-room : goal.returns-clause-room
returns-clause-room g c = λ n room. c.from_map.ensures.room n (subst (λ m. HasRoom m.nodes n) (sym c.replace.ensures.value) room)
