use Rattle.std.proofs.Common.{rules, ◌≡◌, None, length, ap, ◌∙◌, inl, arith}
use Rattle.art_nodes.proofs.Terms.{child_at, IsAscending, row_of}
use Rattle.art_nodes.proofs.ReplayLemmas.{isn't_largest, room_when_grown}
use Rattle.art_nodes.proofs.replaying.written.Goals as goal

pub grow-larger-requires-clause-larger : goal.grow-larger-requires-clause-larger
grow-larger-requires-clause-larger g c =
    let children = (g.N.InnerNodeInit.inner c.args.node).children in
    let full : length children ≡ g.N.InnerNodeCommon.room = search (rules, c.is_full, c.if-not-is_full) in
    let vacant : child_at children c.args.byte ≡ None = search (rules, c.lookup_child, c.is_some, c.if-is_some) in
    let rises : IsAscending children = rw (← c.iter-children.ensures.value) c.iter-children.ensures.ascending in
    isn't_largest g.N.Kind.NodeKind.TYPE c.args.byte children g.met.N.Kind.InnerKind.is_inner rises
    (omega (arith, c.ranges.byte.fits)) vacant (full ∙ g.met.N.InnerNode.room_is_most)

pub write_child-requires-2 : goal.write_child-requires-2
write_child-requires-2 g c =
    let kind = g.N.Kind.NodeKind.TYPE in
    let children = (g.N.InnerNodeInit.inner c.args.node).children in
    let full : length children ≡ g.N.InnerNodeCommon.room = search (rules, c.is_full, c.if-not-is_full) in
    let vacant : child_at children c.args.byte ≡ None = search (rules, c.lookup_child, c.is_some, c.if-is_some) in
    let rises : IsAscending children = rw (← c.iter-children.ensures.value) c.iter-children.ensures.ascending in
    let whole = full ∙ g.met.N.InnerNode.room_is_most in
    let larger = isn't_largest kind c.args.byte children g.met.N.Kind.InnerKind.is_inner rises
    (omega (arith, c.ranges.byte.fits)) vacant whole in
    let room = g.met.N.GrownNode.InnerNode.room_is_most ∙ ap (λ k. (row_of k).most) g.met.N.InnerNode.grows_by_table in
    inl (rw (c.grow-larger.ensures, room, whole) (room_when_grown kind larger))
