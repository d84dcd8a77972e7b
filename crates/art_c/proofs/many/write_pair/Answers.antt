use Rattle.std.proofs.Common.{◌++◌, ap, ap₂, ◌∙◌, drop, length}
use Rattle.art_c.specs.Copies.{written}
use Rattle.art_c.proofs.Layouts.{then-written}
use Rattle.art_c.proofs.many.write_pair.Goals as goal

pub returns : goal.returns
returns c =
    let following = c.split_at_mut-key_room.ensures.back ∙ ap (drop (length c.args.key.now)) c.split_at_mut-front.ensures.back in
    ap₂ (λ f g. f ++ g) c.split_at_mut-front.ensures.front
    (ap₂ (λ k w. k ++ w) c.copy_from_slice.ensures.after (c.write.ensures ∙ ap (written c.args.text.now) following)
    ∙ then-written c.args.key.now c.args.text.now (drop c.args.at c.args.room.now))
