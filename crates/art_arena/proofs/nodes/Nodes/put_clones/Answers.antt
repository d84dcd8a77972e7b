use Rattle.std.proofs.Common.{subst}
use Rattle.slab.specs.Slab.{get, IsSlotClone}
use Rattle.art_arena.proofs.shapes.ClonedArenas.{slots-cloned}
use Rattle.art_arena.proofs.nodes.Nodes.put_clones.Goals as goal

pub returns-clause-clones : goal.returns-clause-clones
returns-clause-clones g c = λ slot.
    subst (λ s. IsSlotClone g.N.Clone.is_clone (get s slot) (get c.in_ok-slab.slab slot)) c.source.view_is
    (slots-cloned g.N.Clone.is_clone c.source.inside.slab.slots c.in_ok-slab.slab.slots c.in_ok-slab.ensures.clones.slots slot)
