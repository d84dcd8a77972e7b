use Rattle.std.proofs.Common.{◌≡◌, ◌∙◌, ap, drop, sym, bytes_eq}
use Rattle.std.proofs.lemmas.Slice.Eq.{bytes_eq-Decides}
use Rattle.art_operations.proofs.lookup.PrefixMatchBehavior.matches_leaf_key.Goals as goal

pub returns-in-Pessimistic : goal.returns-in-Pessimistic
returns-in-Pessimistic g c =
    let stored = drop c.args.depth (g.K.AsBytes.bytes c.args.leaf.now.key) in
    let sought = drop c.args.depth c.args.key.now in
    let front = c.rest_after.ensures ∙ ap (drop c.args.depth) (c.as_bytes.ensures.value ∙ ap g.K.AsBytes.bytes c.key_ref.ensures) in
    let e : c.eq.result ≡ bytes_eq stored sought = rw (front, c.rest_after-in-Pessimistic.ensures) at c.eq.ensures in
    let tells = bytes_eq-Decides stored sought in
    rw c.in-Pessimistic.is (λ passed. tells.0 (sym e ∙ passed), λ alike. e ∙ tells.1 alike)
