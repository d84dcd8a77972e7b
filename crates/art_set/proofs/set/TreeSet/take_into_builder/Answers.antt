use Rattle.std.proofs.Common.{sym, ap, subst, ◌∙◌}
use Rattle.std.specs.Map.{keys_of}
use Rattle.art_arena.proofs.Common.{HasRoom}
use Rattle.art_operations.proofs.Common.{HasLeavesOf}
use Rattle.art_map.specs.Builders.{nodes_of}
use Rattle.art_set.proofs.set.TreeSet.take_into_builder.Goals as goal

pub returns-clause-keys : goal.returns-clause-keys
returns-clause-keys g c = (c.replace.result.pairs, c.from_map.ensures.pairs, ap (λ m. keys_of m.pairs) c.replace.ensures.value ∙ ap (λ m. m.keys) c.self.view_is)

pub returns-clause-names : goal.returns-clause-names
returns-clause-names g c = rw (← c.self.view_is) (subst (λ m. HasLeavesOf g.K.AsBytes.bytes (nodes_of c.from_map.result) m.nodes) c.replace.ensures.value c.from_map.ensures.names)

pub returns-clause-room : goal.returns-clause-room
returns-clause-room g c = rw (← c.self.view_is) (λ n room. c.from_map.ensures.room n (subst (λ m. HasRoom m.nodes n) (sym c.replace.ensures.value) room))
