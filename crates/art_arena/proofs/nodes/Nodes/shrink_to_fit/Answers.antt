use Rattle.std.proofs.Common.{arith}
use Rattle.art_arena.proofs.shapes.UnusedRooms.{no_room_above}
use Rattle.art_arena.proofs.nodes.Nodes.shrink_to_fit.Goals as goal

pub returns-then-this-ge-PREFIX_LEN_LIMIT-clause-frees : goal.returns-then-this-ge-PREFIX_LEN_LIMIT-clause-frees
returns-then-this-ge-PREFIX_LEN_LIMIT-clause-frees g c =
    rw (← c.self.view_is) (λ none. no_room_above g.row.PREFIX_LEN c.self.inside.slab c.self.invariant (omega (arith, c.if-this-ge-PREFIX_LEN_LIMIT.true)))
