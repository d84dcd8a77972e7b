use Rattle.std.proofs.Common.{arith, refl, sym, ap, subst, ◌∙◌}
use Rattle.art_arena.proofs.Common.{node_at}
use Rattle.art_arena.proofs.shapes.Subtrees.{subtree-held}
use Rattle.art_arena.proofs.shapes.Walking.{lent-leaf, lent-inner, node-there}
use Rattle.art_operations.proofs.Terms.{IsDeepest, IsMarked}
use Rattle.art_operations.proofs.MarkedWays.{IsAnswer, IsMarkedWay, full-long, here, here-subtree, marked-ended, marked-leaf, marked-past, marked-start, marked-step, other-leaf}
use Rattle.art_operations.proofs.marked.deepest_marked.Goals as goal

pub down-init : goal.down-init
down-init g c = record { within = omega arith; way = λ s tree. marked-start g.K.AsBytes.bytes g.row.PREFIX_LEN (node_at c.args.arena.now) c.args.query.now c.args.mark s c.args.root tree }

pub node_in-requires : goal.node_in-requires
node_in-requires g c =
    let way = c.down.invariant.way c.requires.0 c.requires.1 in
    (omega arith, (omega arith, node-there c.args.arena.now c.args.arena.now c.down.current refl (subtree-held g.K.AsBytes.bytes g.row.PREFIX_LEN (node_at c.args.arena.now) c.down.current way.path way.part way.subtree)))

pub returns-then-is_marked : goal.returns-then-is_marked
returns-then-is_marked g c = λ s tree.
    let same = c.as_bytes.ensures.value ∙ ap g.K.AsBytes.bytes c.key_ref.ensures in
    subst (IsDeepest g.K.AsBytes.bytes c.args.query.now c.args.mark s) (sym c.with_kind.ensures)
    (marked-leaf g.K.AsBytes.bytes g.row.PREFIX_LEN (node_at c.args.arena.now) c.args.query.now c.args.mark s c.down.current c.down.depth c.down.best (c.down.invariant.way s tree)
    c.in-Ok.leaf.now.key c.in-Ok.leaf.now.value (lent-leaf c.args.arena.now c.args.arena.now c.down.current _ c.in-Ok.leaf.now refl c.in-Ok.ensures refl)
    (subst (IsMarked c.args.query.now c.args.mark) same (c.is_marked.ensures.0 c.if-is_marked.true)))

pub returns-in-Ok : goal.returns-in-Ok
returns-in-Ok g c = λ s tree.
    let same = c.as_bytes.ensures.value ∙ ap g.K.AsBytes.bytes c.key_ref.ensures in
    other-leaf g.K.AsBytes.bytes g.row.PREFIX_LEN (node_at c.args.arena.now) c.args.query.now c.args.mark s c.down.current c.down.depth c.down.best (c.down.invariant.way s tree)
    c.in-Ok.leaf.now.key c.in-Ok.leaf.now.value (lent-leaf c.args.arena.now c.args.arena.now c.down.current _ c.in-Ok.leaf.now refl c.in-Ok.ensures refl)
    (λ by. let t = c.is_marked.ensures.1 (subst (IsMarked c.args.query.now c.args.mark) (sym same) by) in let f = c.if-is_marked.false in cc)

pub returns-then-query-depth : goal.returns-then-query-depth
returns-then-query-depth g c = λ s tree.
    marked-past g.K.AsBytes.bytes g.row.PREFIX_LEN (node_at c.args.arena.now) c.args.query.now c.args.mark s c.down.current c.down.depth c.down.best (c.down.invariant.way s tree)
    c.in-Err.inner.node (lent-inner c.args.arena.now c.args.arena.now c.down.current _ c.in-Err.inner.node refl c.in-Err.ensures refl)
    (omega (arith, c.if-query-depth.true, c.prefix_len-len.ensures, c.down.invariant.within))

pub down-preserved : goal.down-preserved
down-preserved g c = record {
  within = c.in-Some.ensures.within;
  way = λ s tree.
      let bytes = g.K.AsBytes.bytes in
      let P = g.row.PREFIX_LEN in
      let way = c.down.invariant.way s tree in
      let there = lent-inner c.args.arena.now c.args.arena.now c.down.current _ c.in-Err.inner.node refl c.in-Err.ensures refl in
      let at = here bytes P (node_at c.args.arena.now) c.args.query.now c.args.mark s c.down.current c.down.depth c.down.best way c.in-Err.inner.node there in
      let sub = here-subtree bytes P (node_at c.args.arena.now) c.args.query.now c.args.mark s c.down.current c.down.depth c.down.best way c.in-Err.inner.node there in
      let long = full-long bytes P (node_at c.args.arena.now) c.args.query.now c.args.mark s c.down.current c.down.depth c.down.best way c.in-Err.inner.node there in
      let child = c.marked_child.ensures c.down.current way.path at.prefix at.kids sub at.children (omega (arith, long, c.prefix_len-len.ensures)) in
      subst (IsMarkedWay bytes P (node_at c.args.arena.now) c.args.query.now c.args.mark s c.in-Some.step.child c.in-Some.step.depth) (sym c.first_or-best.ensures)
      (marked-step bytes P (node_at c.args.arena.now) c.args.query.now c.args.mark s c.down.current c.down.depth c.down.best way c.in-Err.inner.node there
      c.marked_child.result child (omega (arith, c.if-query-depth.false, c.prefix_len-len.ensures, c.down.invariant.within)) c.in-Some.step.byte c.in-Some.step.child c.in-Some.step.depth c.in-Some.ensures);
}

pub returns-in-None : goal.returns-in-None
returns-in-None g c = λ s tree.
    let bytes = g.K.AsBytes.bytes in
    let P = g.row.PREFIX_LEN in
    let way = c.down.invariant.way s tree in
    let there = lent-inner c.args.arena.now c.args.arena.now c.down.current _ c.in-Err.inner.node refl c.in-Err.ensures refl in
    let at = here bytes P (node_at c.args.arena.now) c.args.query.now c.args.mark s c.down.current c.down.depth c.down.best way c.in-Err.inner.node there in
    let sub = here-subtree bytes P (node_at c.args.arena.now) c.args.query.now c.args.mark s c.down.current c.down.depth c.down.best way c.in-Err.inner.node there in
    let long = full-long bytes P (node_at c.args.arena.now) c.args.query.now c.args.mark s c.down.current c.down.depth c.down.best way c.in-Err.inner.node there in
    let child = c.marked_child.ensures c.down.current way.path at.prefix at.kids sub at.children (omega (arith, long, c.prefix_len-len.ensures)) in
    subst (IsAnswer bytes c.args.query.now c.args.mark s) (sym c.first_or-best.ensures)
    (marked-ended bytes P (node_at c.args.arena.now) c.args.query.now c.args.mark s c.down.current c.down.depth c.down.best way c.in-Err.inner.node there
    c.marked_child.result child (omega (arith, c.if-query-depth.false, c.prefix_len-len.ensures, c.down.invariant.within)) c.in-None.ensures)
