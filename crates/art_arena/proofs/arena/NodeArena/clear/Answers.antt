use Rattle.std.proofs.Common.{◌≡◌, ℕ, [], sym, ap, subst, arith}
use Rattle.std.specs.Prelude.{count_by, is_some}
use Rattle.slab.specs.Slab.{Slab, slab_len, HasRoomFor}
use Rattle.art_arena.proofs.Terms.{Arena, HasRoom}
use Rattle.art_arena.proofs.arena.NodeArena.clear.Goals as goal

emptied : {T : Type 0} (old new : Slab T) (n : ℕ) → new.slots ≡ [] → new.capacity ≡ old.capacity → HasRoomFor old n → HasRoomFor new n
emptied old new n slots capacity room =
    let none : slab_len new ≡ 0 = ap (count_by is_some) slots in
    omega (arith, none, capacity, room)

pub returns-clause-room : goal.returns-clause-room
returns-clause-room g c = λ n room.
    let a = c.self.inside in
    let r = subst (λ (arena : Arena g.row.K.Denot g.row.V.Denot). HasRoom arena n) (sym c.self.view_is) room in
    c.clear_inner.ensures.room n
    (record { leaves = emptied a.leaves c.clear.new.self n c.clear.ensures.slots c.clear.ensures.capacity r.leaves; nodes4 = r.nodes4; nodes16 = r.nodes16; nodes32 = r.nodes32; nodes48 = r.nodes48; nodes256 = r.nodes256 })
