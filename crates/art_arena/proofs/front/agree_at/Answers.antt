use Rattle.std.proofs.lemmas.Simd.{length-chunk}
use lib.Lanes.{chunk}
use Rattle.art_arena.proofs.Words.{lanes_tell}
use Rattle.art_arena.proofs.front.agree_at.Goals as goal

pub returns : goal.returns
returns g c =
    let n = g.row.N in
    lanes_tell (chunk c.args.at n c.args.bytes.now) (chunk c.args.at n c.args.front.now) n
    (length-chunk c.args.at n c.args.bytes.now c.requires.within.0) (length-chunk c.args.at n c.args.front.now c.requires.within.1) c.requires.lanes.1
