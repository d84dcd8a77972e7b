use Rattle.std.proofs.Common.{◌≡◌, Option, Some, IsSome, refl, ap, ◌∙◌}
use Rattle.art_nodes.proofs.Common.{InnerNode}
use Rattle.art_arena.proofs.Terms.{Held, held_at, inner_held, as_inner}
use Rattle.art_arena.specs.arena.NodeEdits.{edited}
use Rattle.art_arena.proofs.node_edits.edit_at.Goals as goal

-- the node that was lent is the one that stood there
lent : {K V : Type 0} (there : Option (Held K V)) (held : Held K V) (inner n : InnerNode) → held ≡ inner_held inner → there ≡ Some held → there ≡ Some (inner_held n) → inner ≡ n
lent there held inner n law was is = cc

pub returns-clause-updates : goal.returns-clause-updates
returns-clause-updates g c n is =
    let there : IsSome (held_at c.args.arena.now (record { kind = g.N.Kind.NodeKind.TYPE; slot = c.args.ptr })) = rw is refl in
    let same = lent _ _ _ n (g.met.N.StoredInner.held_inner c.as_mut.result.now) c.as_mut.ensures.value is in
    let made : Some (g.N.Stored.held c.apply.new.node) ≡ as_inner (edited c.args.edit.now n) =
    ap Some (g.met.N.StoredInner.held_inner c.apply.new.node) ∙ ap as_inner (c.apply.ensures ∙ ap (edited c.args.edit.now) same) in
    rw made at (g.met.N.Stored.written c.args.arena.now c.args.ptr c.apply.new.node there)

pub returns-clause-room : goal.returns-clause-room
returns-clause-room g c = g.met.N.Stored.keeps_room c.args.arena.now c.args.ptr c.apply.new.node (rw c.requires.1 refl)

pub returns-clause-room_of : goal.returns-clause-room_of
returns-clause-room_of g c = g.met.N.Stored.keeps_room_of c.args.arena.now c.args.ptr c.apply.new.node (rw c.requires.1 refl)

pub returns-clause-capacity : goal.returns-clause-capacity
returns-clause-capacity g c = g.met.N.Stored.keeps_capacity c.args.arena.now c.args.ptr c.apply.new.node
