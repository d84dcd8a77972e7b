use Rattle.std.proofs.Common.{◌+◌, ◌∙◌, sym, arith}
use Rattle.art_nodes.specs.declared.kind.NodeType.TheVariants.{Leaf}
use Rattle.art_arena.proofs.Common.{width}
use Rattle.art_operations.proofs.Growth.{next-kind, both-held, still-held, same_links, renamed}
use Rattle.art_operations.proofs.Waiting.{open_node, node-held, node-inner, as_many}
use Rattle.art_operations.proofs.NewNodes.{all_room, larger-inner}
use Rattle.art_operations.proofs.insert.into_existing.grow_at.Goals as goal

pub grow-requires : goal.grow-requires
grow-requires g c =
    let r = c.requires in
    let there = node-held _ _ _ _ _ _ _ _ _ _ r.7 in
    (omega arith, ((open_node g.row.PREFIX_LEN r.2, there, as_many _ _ _ _ _ _ _ _ _ _ r.7 ∙ r.10.0), r.10.1))

pub put_below-root-requires : goal.put_below-root-requires
put_below-root-requires g c =
    let r = c.requires in
    let copies = c.in_ok-node.ensures.ok _ (node-held _ _ _ _ _ _ _ _ _ _ r.7) in
    (omega arith, (_, _, _, _, both-held _ _ _ _ _ _ _ _ _ _ r.7 c.grow.new.self _ copies _ r.8, r.9))

pub edit_inner-requires : goal.edit_inner-requires
edit_inner-requires g c =
    let r = c.requires in
    let copies = c.in_ok-node.ensures.ok _ (node-held _ _ _ _ _ _ _ _ _ _ r.7) in
    let moved = c.put_below-root.ensures.holds _ _ _ _ (both-held _ _ _ _ _ _ _ _ _ _ r.7 c.grow.new.self _ copies _ r.8) r.9 in
    (omega arith, (omega arith, ((open_node g.row.PREFIX_LEN r.2, still-held _ _ _ _ _ _ _ _ _ _ r.7 c.grow.new.self _ copies c.put_below-root.new.arena moved, tt), node-inner _ _ _ _ _ _ _ _ _ _ r.7)))

pub returns-clause-ok : goal.returns-clause-ok
returns-clause-ok g c = λ byte leaf f outer l rest steps awaits path last full.
    let there = node-held _ _ _ _ _ _ _ _ _ _ awaits in
    let copies = c.in_ok-node.ensures.ok _ there in
    let stands = both-held _ _ _ _ _ _ _ _ _ _ awaits c.grow.new.self _ copies _ path in
    let holds = c.put_below-root.ensures.holds _ _ _ _ stands last in (
      renamed _ _ _ _ _ _ _ _ _ _ awaits c.grow.new.self _ copies c.put_below-root.new.arena holds c.edit_inner.new.self _ (c.put_below-root.ensures.root _ _ _ _ stands last) c.put_below-root.ensures.links
          (c.edit_inner.ensures.updates _ (still-held _ _ _ _ _ _ _ _ _ _ awaits c.grow.new.self _ copies c.put_below-root.new.arena holds)),
      next-kind _ _ (width f.before + width f.after) c.in_ok-node.ensures.kind full.0,
    )

pub returns-clause-links : goal.returns-clause-links
returns-clause-links g c =
    let r = c.requires in
    let copies = c.in_ok-node.ensures.ok _ (node-held _ _ _ _ _ _ _ _ _ _ r.7) in
    let stands = both-held _ _ _ _ _ _ _ _ _ _ r.7 c.grow.new.self _ copies _ r.8 in
    let moved = c.put_below-root.ensures.holds _ _ _ _ stands r.9 in
    same_links _ _ _ _ _ _ _ _ _ _ r.7 c.grow.new.self _ copies c.put_below-root.new.arena moved c.edit_inner.new.self c.put_below-root.ensures.links
    (c.edit_inner.ensures.updates _ (still-held _ _ _ _ _ _ _ _ _ _ r.7 c.grow.new.self _ copies c.put_below-root.new.arena moved))

pub returns-clause-room : goal.returns-clause-room
returns-clause-room g c = λ n room. c.edit_inner.ensures.room n (all_room _ _ c.put_below-root.ensures.room_of n (c.grow.ensures.room n room))

pub returns-clause-leaf_room : goal.returns-clause-leaf_room
returns-clause-leaf_room g c = λ n room.
    c.edit_inner.ensures.room_of Leaf n
    (c.put_below-root.ensures.room_of Leaf n (c.in_ok-node.ensures.room_of.others Leaf (λ e. larger-inner c.args.inner.kind c.in_ok-node.node.kind c.in_ok-node.ensures.kind (sym e)) n room))

pub returns-in_err-node-clause-leaf_room : goal.returns-in_err-node-clause-leaf_room
returns-in_err-node-clause-leaf_room g c = λ n room. c.in_err-node.ensures.kept_room Leaf n room
