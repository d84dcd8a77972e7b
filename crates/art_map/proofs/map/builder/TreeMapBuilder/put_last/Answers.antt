use Rattle.art_map.proofs.Pushed.{after-free}
use Rattle.art_map.proofs.map.builder.TreeMapBuilder.put_last.Goals as goal

pub assume_proved-requires : goal.assume_proved-requires
assume_proved-requires g c =
    let (pairs, has, following) = c.requires.taken in
    absurd (after-free g.K.AsBytes.bytes (g.K.AsBytes.bytes c.args.key) pairs following ((rw c.in-Err-Conflict.field-0-is at c.in-Err-Conflict.ensures.refused) pairs has).2)
