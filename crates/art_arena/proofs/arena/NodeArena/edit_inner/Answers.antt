use Rattle.std.proofs.Common.{◌≡◌, subst}
use Rattle.art_nodes.proofs.Common.{Name}
use Rattle.art_arena.proofs.Terms.{Arena, FreesRoomOf}
use Rattle.art_arena.proofs.arena.NodeArena.edit_inner.Goals as goal

-- the kind whose room is freed is the kind of the name
freed : {K V : Type 0} (old new : Arena K V) {there name : Name} → there ≡ name → FreesRoomOf there.kind old new → FreesRoomOf name.kind old new
freed old new is frees = subst (λ n. FreesRoomOf n.kind old new) is frees

pub returns-in-Node4-clause-frees : goal.returns-in-Node4-clause-frees
returns-in-Node4-clause-frees g c free = freed c.args.self.now c.edit_at.new.arena c.in-Node4.ensures (c.edit_at.ensures.frees free)

pub returns-in-Node16-clause-frees : goal.returns-in-Node16-clause-frees
returns-in-Node16-clause-frees g c free = freed c.args.self.now c.edit_at-in-Node16.new.arena c.in-Node16.ensures (c.edit_at-in-Node16.ensures.frees free)

pub returns-in-Node32-clause-frees : goal.returns-in-Node32-clause-frees
returns-in-Node32-clause-frees g c free = freed c.args.self.now c.edit_at-in-Node32.new.arena c.in-Node32.ensures (c.edit_at-in-Node32.ensures.frees free)

pub returns-in-Node48-clause-frees : goal.returns-in-Node48-clause-frees
returns-in-Node48-clause-frees g c free = freed c.args.self.now c.edit_at-in-Node48.new.arena c.in-Node48.ensures (c.edit_at-in-Node48.ensures.frees free)

pub returns-in-Node256-clause-frees : goal.returns-in-Node256-clause-frees
returns-in-Node256-clause-frees g c free = freed c.args.self.now c.edit_at-in-Node256.new.arena c.in-Node256.ensures (c.edit_at-in-Node256.ensures.frees free)
