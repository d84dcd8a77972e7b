use Rattle.std.proofs.Common.{refl, ap, ◌∙◌, arith}
use Rattle.art_walks.proofs.KeyWalks.{leaf_held_at}
use Rattle.art_walks.proofs.checker.keys.key_at.Goals as goal

pub as_key_ref-requires : goal.as_key_ref-requires
as_key_ref-requires g c = (omega arith, let l = leaf_held_at g.K.AsBytes.bytes g.row.PREFIX_LEN c.args.arena.now c.args.leaf c.requires.0 c.requires.1 in rw l.1 refl)

pub returns : goal.returns
returns g c = λ key has.
    let l = leaf_held_at g.K.AsBytes.bytes g.row.PREFIX_LEN c.args.arena.now c.args.leaf key has in
    c.as_bytes.ensures.value ∙ ap g.K.AsBytes.bytes (c.as_key_ref.ensures l.0 l.1) ∙ l.2
