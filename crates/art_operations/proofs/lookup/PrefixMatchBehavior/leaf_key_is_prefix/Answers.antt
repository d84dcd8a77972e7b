use Rattle.std.proofs.Common.{refl, ap, drop, ◌∙◌}
use Rattle.art_arena.proofs.Common.{begins_tells}
use Rattle.art_operations.proofs.lookup.PrefixMatchBehavior.leaf_key_is_prefix.Goals as goal

pub returns-in-Pessimistic : goal.returns-in-Pessimistic
returns-in-Pessimistic g c =
    let front = c.as_bytes-front.ensures.value ∙ ap g.K.AsBytes.bytes c.key_ref.ensures in
    rw c.in-Pessimistic.is
    (begins_tells c.starts_with.result _ (drop c.args.depth c.args.key.now) _ (drop c.args.depth (g.K.AsBytes.bytes c.args.leaf.now.key))
    c.rest_after.ensures (c.rest_after-in-Pessimistic.ensures ∙ ap (drop c.args.depth) front) c.starts_with.ensures.value)

pub returns-in-Optimistic : goal.returns-in-Optimistic
returns-in-Optimistic g c =
    let front = c.as_bytes-front.ensures.value ∙ ap g.K.AsBytes.bytes c.key_ref.ensures in
    rw c.in-Optimistic.is
    (begins_tells c.starts_with-in-Optimistic.result _ c.args.key.now _ (g.K.AsBytes.bytes c.args.leaf.now.key) refl front c.starts_with-in-Optimistic.ensures.value)
