use Rattle.std.proofs.Common.{◌≡◌, ◌+◌, ◌≤◌, length, refl, ap, ◌∙◌, arith, lit<}
use Rattle.art_nodes.proofs.Common.{InnerNode}
use Rattle.art_arena.proofs.Common.{prefix_of, header_there, first_leaf, read}
use Rattle.art_operations.proofs.PutBack.{same_inner}
use Rattle.art_operations.proofs.delete.merge.prefixes_fit.Goals as goal

pub as_key_ref-requires : goal.as_key_ref-requires
as_key_ref-requires g c =
    let r = c.requires.stored in
    let first = first_leaf g.K.AsBytes.bytes g.row.PREFIX_LEN c.args.arena.now c.args.child r.0 r.1 c.first_leaf-leaf.result r.2 (c.first_leaf-leaf.ensures r.0 r.1 r.2) in
    (lit< tt, rw first.there refl)

pub returns : goal.returns
returns g c = λ n there.
    let r = c.requires.stored in
    let h = header_there g.K.AsBytes.bytes g.row.PREFIX_LEN c.args.arena.now c.args.child r.0 r.1 r.2 c.requires.inner in
    let first = first_leaf g.K.AsBytes.bytes g.row.PREFIX_LEN c.args.arena.now c.args.child r.0 r.1 c.first_leaf-leaf.result r.2 (c.first_leaf-leaf.ensures r.0 r.1 r.2) in
    let len : n.header.prefix_len ≡ length (prefix_of r.1) = ap (λ (m : InnerNode). m.header.prefix_len) (same_inner _ n h.node there h.there) ∙ h.len in
    let key : c.as_bytes-key.result.now ≡ g.K.AsBytes.bytes first.leaf.key = c.as_bytes-key.ensures.value ∙ ap g.K.AsBytes.bytes (c.as_key_ref.ensures first.leaf first.there) in
    let within = (read r.0 (prefix_of r.1) (g.K.AsBytes.bytes first.leaf.key) (length r.0) n.header.prefix_len refl len first.begins).within in
    let known : length r.0 + n.header.prefix_len ≤ length c.as_bytes-key.result.now = rw key within in
    let less = r.3 in
    omega arith
