use Rattle.std.proofs.Common.{◌∙◌}
use Rattle.art_arena.proofs.shapes.ClonedArenas.{slots-counted}
use Rattle.art_arena.proofs.claimed.ClaimedSlab.try_clone.Goals as goal

pub returns : goal.returns
returns g c =
    let clones = c.in_ok-slab.ensures.cases in
    rw (← c.self.view_is) (record { clones = record { slots = clones.slots; vacant_key = clones.vacant_key }; exact = c.len-claimed.ensures ∙ slots-counted g.T.Clone.is_clone c.self.inside.slab.slots c.in_ok-slab.slab.slots clones.slots })
