use Rattle.std.proofs.Common.{refl}
use Rattle.art_set.proofs.MergeLemmas.{compared-none}
use Rattle.art_set.proofs.merges.sides.Sides+K+PREFIX_LEN.next_wanted.Goals as goal

pub loop-wanted-init : goal.loop-wanted-init
loop-wanted-init g c = record { same = refl; compared = compared-none g.K.AsBytes.bytes c.args.self.now }
