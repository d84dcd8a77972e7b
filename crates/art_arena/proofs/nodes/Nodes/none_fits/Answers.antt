use Rattle.std.proofs.Common.{arith}
use Rattle.art_arena.proofs.shapes.UnusedRooms.{no_room_above, none_above}
use Rattle.art_arena.proofs.nodes.Nodes.none_fits.Goals as goal

pub returns-clause-none : goal.returns-clause-none
returns-clause-none g c = λ large. rw (← c.self.view_is) (none_above g.row.PREFIX_LEN c.self.inside.slab c.self.invariant large)

pub returns-clause-len : goal.returns-clause-len
returns-clause-len g c = λ large.
    rw (← c.self.view_is) (omega (arith, no_room_above g.row.PREFIX_LEN c.self.inside.slab c.self.invariant large, c.capacity-capacity.ensures.value, c.capacity-capacity.ensures.holds_all))

pub returns-clause-capacity : goal.returns-clause-capacity
returns-clause-capacity g c = λ large. rw (← c.self.view_is) (no_room_above g.row.PREFIX_LEN c.self.inside.slab c.self.invariant large)
