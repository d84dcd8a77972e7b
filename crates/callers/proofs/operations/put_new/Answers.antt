use Rattle.std.proofs.Common.{[], sym, subst, ◌∙◌, arith}
use Rattle.art_arena.proofs.Common.{node_at, LeafAt, leaves, StoresOnly, nodes-subtree, in_map}
use Rattle.art_operations.proofs.Common.{IsPoint, stored_in}
use Rattle.callers.proofs.operations.put_new.Goals as goal

pub apply-requires : goal.apply-requires
apply-requires g c =
    let (s, tree) = c.requires in
    let found = (c.in-Ok.ensures.value s (nodes-subtree g.K.AsBytes.bytes g.row.PREFIX_LEN (node_at c.args.arena.now) c.args.root s tree.nodes)).0 in
    (omega arith, (s, [], rw (sym found.named ∙ tree.nodes.named) tree, rw (sym c.as_bytes.ensures.value) found))

pub returns-in-Ok-apply : goal.returns-in-Ok-apply
returns-in-Ok-apply g c =
    let (s, tree) = c.requires in
    let found = (c.in-Ok.ensures.value s (nodes-subtree g.K.AsBytes.bytes g.row.PREFIX_LEN (node_at c.args.arena.now) c.args.root s tree.nodes)).0 in
    let there = subst (λ n. StoresOnly g.K.AsBytes.bytes g.row.PREFIX_LEN c.args.arena.now n s) (sym tree.nodes.named ∙ found.named) tree in
    let at = subst (λ k. IsPoint g.K.AsBytes.bytes k s c.in-Ok.point) c.as_bytes.ensures.value found in
    let now = c.in-Ok-apply.ensures.ok s [] there at in
    let leaf : LeafAt g.row.K.Denot g.row.V.Denot = record { slot = c.in-Ok-apply.put.leaf_node_ptr; key = c.args.key; value = c.args.value } in
    record {
      some = (now.shape, now.is_tree, in_map (λ l. (l.key, l.value)) leaf (leaves now.shape) (stored_in g.K.AsBytes.bytes leaf c.in-Ok-apply.put.existing_leaf (leaves s) (leaves now.shape) now.stored));
      none = tt;
    }
