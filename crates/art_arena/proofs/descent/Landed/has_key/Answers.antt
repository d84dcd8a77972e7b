use Rattle.std.proofs.Common.{◌≡◌, ◌∙◌, ap, drop, sym, bytes_eq}
use Rattle.std.proofs.lemmas.Slice.Eq.{bytes_eq-Decides}
use Rattle.art_arena.proofs.tree.LookUps.{same_rest}
use Rattle.art_arena.proofs.descent.Landed.has_key.Goals as goal

pub returns : goal.returns
returns g c =
    let key = g.K.AsBytes.bytes c.args.self.now.leaf.now.key in
    let own = drop c.args.self.now.compared key in
    let sought = drop c.args.self.now.compared c.args.key.now in
    let front = c.rest_after.ensures ∙ ap (drop c.args.self.now.compared) (c.as_bytes-own.ensures.value ∙ ap g.K.AsBytes.bytes c.key_ref.ensures) in
    let e : c.eq.result ≡ bytes_eq own sought = rw (front, c.rest_after-2.ensures) at c.eq.ensures in
    let tells = bytes_eq-Decides own sought in
    (λ passed. same_rest c.args.self.now.compared key c.args.key.now c.requires (tells.0 (sym e ∙ passed)), λ same. e ∙ tells.1 (ap (drop c.args.self.now.compared) same))
