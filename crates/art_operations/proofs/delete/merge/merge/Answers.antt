use Rattle.std.proofs.Common.{◌≡◌, ℕ, sym, ap, subst, ◌∙◌, lit<}
use Rattle.art_nodes.proofs.Common.{Name}
use Rattle.art_arena.proofs.Common.{held_at, node_at, IsSubtree}
use Rattle.art_operations.proofs.Terms.{Lengthens}
use Rattle.art_operations.proofs.Lengthened.{others_kept}
use Rattle.art_operations.proofs.delete.merge.merge.Goals as goal
use Rattle.art_operations.proofs.delete.merge.merge.Goals.{After-lengthen}

pub lengthen-requires : goal.lengthen-requires
lengthen-requires g c =
    let t = c.requires.two in
    let is = sym (c.other_child-edge.ensures t.0 t.1 t.2 t.3) in
    (lit< tt, (c.requires.inner, (t.0, t.2, t.4, t.5, subst (λ (o : ℕ × Name). IsSubtree g.K.AsBytes.bytes g.row.PREFIX_LEN (node_at c.args.arena.now) o.1 t.4 t.5) is t.6, t.7)))

-- the node above stands as it stood when its child got a longer prefix
kept : (g : _) (c : After-lengthen g) → held_at c.lengthen.new.arena c.args.parent ≡ held_at c.args.arena.now c.args.parent
kept g c =
    let t = c.requires.two in
    let is = sym (c.other_child-edge.ensures t.0 t.1 t.2 t.3) in
    others_kept g.K.AsBytes.bytes g.row.PREFIX_LEN c.args.arena.now c.lengthen.new.arena t.0 t.1.0 t.1.1 t.4 t.5 t.6
    (subst (λ (o : ℕ × Name). Lengthens g.row.PREFIX_LEN c.args.arena.now c.lengthen.new.arena t.0 o.0 o.1) (sym is) (c.lengthen.ensures.lengthens t.0 t.2)) c.args.parent (λ e. t.8 (sym e))

pub edit_inner-requires : goal.edit_inner-requires
edit_inner-requires g c =
    let t = c.requires.two in
    (lit< tt, (lit< tt, ((t.0, kept g ((goal.at.edit_inner-requires g c).After-lengthen) ∙ t.2, tt), c.requires.inner)))

pub returns-clause-value : goal.returns-clause-value
returns-clause-value g c = λ n other there two. ap (λ (o : ℕ × Name). o.1) (c.other_child-edge.ensures n other there two)

pub returns-clause-merges : goal.returns-clause-merges
returns-clause-merges g c = λ n other there two. (
  c.lengthen.new.arena,
  subst (λ (o : ℕ × Name). Lengthens g.row.PREFIX_LEN c.args.arena.now c.lengthen.new.arena n o.0 o.1) (c.other_child-edge.ensures n other there two) (c.lengthen.ensures.lengthens n there),
  c.edit_inner.ensures.updates n (kept g ((goal.at.returns-clause-merges g c).After-lengthen) ∙ there),
)

pub returns-clause-room : goal.returns-clause-room
returns-clause-room g c = λ n room. c.edit_inner.ensures.room n (c.lengthen.ensures.room n room)

pub returns-clause-room_of : goal.returns-clause-room_of
returns-clause-room_of g c = λ kind n room. c.edit_inner.ensures.room_of kind n (c.lengthen.ensures.room_of kind n room)
