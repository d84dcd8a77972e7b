use Rattle.std.proofs.Common.{sym, subst}
use Rattle.art_arena.proofs.Common.{key_of}
use Rattle.art_operations.proofs.Common.{overlapping}
use Rattle.art_map.proofs.Terms.{IsWalkOf}
use Rattle.art_map.proofs.map.TreeMap.walk_over.Goals as goal

pub returns : goal.returns
returns g c = subst (λ ends. IsWalkOf c.args.self.now.nodes ends (overlapping (key_of g.K.AsBytes.bytes) c.args.key.now c.args.self.now.pairs)) (sym c.walk_of.ensures) c.ends_over.ensures.walk
