use Rattle.std.proofs.Common.{ap, drop, ◌∙◌}
use Rattle.art_arena.proofs.shapes.Prefixes.{begins_tells}
use Rattle.art_arena.proofs.tree.LookUps.{begins_rest, rest_begins}
use Rattle.art_arena.proofs.descent.Landed.has_prefix_of.Goals as goal

pub returns : goal.returns
returns g c =
    let n = c.args.self.now.compared in
    let key = g.K.AsBytes.bytes c.args.self.now.leaf.now.key in
    let tells = begins_tells c.starts_with.result _ (drop n c.args.query.now) _ (drop n key)
    c.rest_after.ensures (c.rest_after-2.ensures ∙ ap (drop n) (c.as_bytes-own.ensures.value ∙ ap g.K.AsBytes.bytes c.key_ref.ensures)) c.starts_with.ensures.value in
    (λ passed. begins_rest n key c.args.query.now c.requires (tells.0 passed), λ begins. tells.1 (rest_begins n key c.args.query.now c.requires begins))
