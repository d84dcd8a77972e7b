use Rattle.std.proofs.Common.{sym, subst}
use Rattle.slab.specs.Slab.{HasRoomFor}
use Rattle.art_arena.proofs.Terms.{Arena}
use Rattle.art_arena.proofs.arena.NodeArena.room_is_bounded.Goals as goal

pub returns : goal.returns
returns g c = λ n room. c.room_is_bounded.ensures n (subst (λ (a : Arena g.row.K.Denot g.row.V.Denot). HasRoomFor a.leaves n) (sym c.self.view_is) room.leaves)
