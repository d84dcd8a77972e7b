use Rattle.std.proofs.Common.{refl, sym, subst}
use Rattle.art_arena.proofs.Common.{leaves}
use Rattle.art_operations.proofs.Terms.{IsEnd}
use Rattle.art_operations.proofs.NewLeaves.{end_of_one}
use Rattle.art_operations.proofs.Points.{seen_leaf}
use Rattle.art_operations.proofs.insert.split.leaf_at_end.Goals as goal

pub returns-in-Some : goal.returns-in-Some
returns-in-Some g c = λ path s stands.
    let l = seen_leaf g.K.AsBytes.bytes g.row.PREFIX_LEN c.args.arena.now c.args.node c.in-Some.leaf path s (c.in-Some.ensures.variant.0 refl) c.in-Some.ensures.slot stands in
    subst (λ t. IsEnd c.args.is_first c.in-Some.leaf (leaves t)) (sym l.is) (end_of_one c.args.is_first (record { slot = c.in-Some.leaf; key = l.leaf.key; value = l.value }))
