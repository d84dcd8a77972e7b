use Rattle.std.proofs.Common.{arith, refl, sym, ap, ◌∙◌}
use Rattle.art_nodes.proofs.Common.{child_at}
use Rattle.art_arena.proofs.Common.{node_at}
use Rattle.art_arena.proofs.shapes.Walking.{lent-leaf, lent-inner, node-there}
use Rattle.art_operations.proofs.MarkedWays.{no-child, child-held, child-ends, child-other, child-inner}
use Rattle.art_operations.proofs.marked.marked_child.Goals as goal

pub node_in-requires : goal.node_in-requires
node_in-requires g c =
    let r = c.requires in
    let found = ap (λ cs. child_at cs c.args.mark) (sym r.5) ∙ sym c.lookup_child.ensures ∙ c.in-Some.is in
    (omega arith, (omega arith, node-there c.args.arena.now c.args.arena.now c.in-Some.child refl (child-held g.K.AsBytes.bytes g.row.PREFIX_LEN (node_at c.args.arena.now) r.0 r.1 r.2 r.3 c.args.mark r.4 c.in-Some.child found)))

pub returns-in-None : goal.returns-in-None
returns-in-None g c = λ name path prefix kids sub is long.
    no-child g.K.AsBytes.bytes g.row.PREFIX_LEN (node_at c.args.arena.now) name path prefix kids c.args.mark sub
    (ap (λ cs. child_at cs c.args.mark) (sym is) ∙ sym c.lookup_child.ensures ∙ c.in-None.is)

pub returns-then-ends_at : goal.returns-then-ends_at
returns-then-ends_at g c = λ name path prefix kids sub is long.
    child-ends g.K.AsBytes.bytes g.row.PREFIX_LEN (node_at c.args.arena.now) name path prefix kids c.args.mark sub c.in-Some.child
    (ap (λ cs. child_at cs c.args.mark) (sym is) ∙ sym c.lookup_child.ensures ∙ c.in-Some.is)
    c.in-Ok.leaf.now.key c.in-Ok.leaf.now.value (lent-leaf c.args.arena.now c.args.arena.now c.in-Some.child _ c.in-Ok.leaf.now refl c.in-Ok.ensures refl)
    c.args.depth c.with_kind.result c.as_bytes.result.now long (c.as_bytes.ensures.value ∙ ap g.K.AsBytes.bytes c.key_ref.ensures) c.with_kind.ensures (c.ends_at.ensures.0 c.if-ends_at.true)

pub returns-else-ends_at : goal.returns-else-ends_at
returns-else-ends_at g c = λ name path prefix kids sub is long.
    child-other g.K.AsBytes.bytes g.row.PREFIX_LEN (node_at c.args.arena.now) name path prefix kids c.args.mark sub c.in-Some.child
    (ap (λ cs. child_at cs c.args.mark) (sym is) ∙ sym c.lookup_child.ensures ∙ c.in-Some.is)
    c.in-Ok.leaf.now.key c.in-Ok.leaf.now.value (lent-leaf c.args.arena.now c.args.arena.now c.in-Some.child _ c.in-Ok.leaf.now refl c.in-Ok.ensures refl)
    c.args.depth c.as_bytes.result.now long (c.as_bytes.ensures.value ∙ ap g.K.AsBytes.bytes c.key_ref.ensures)
    (λ ends. let t = c.ends_at.ensures.1 ends in let f = c.if-ends_at.false in cc)

pub returns-in-Err : goal.returns-in-Err
returns-in-Err g c = λ name path prefix kids sub is long.
    child-inner g.K.AsBytes.bytes g.row.PREFIX_LEN (node_at c.args.arena.now) name path prefix kids c.args.mark sub c.in-Some.child
    (ap (λ cs. child_at cs c.args.mark) (sym is) ∙ sym c.lookup_child.ensures ∙ c.in-Some.is)
    c.in-Err.field-0.node (lent-inner c.args.arena.now c.args.arena.now c.in-Some.child _ c.in-Err.field-0.node refl c.in-Err.ensures refl)
