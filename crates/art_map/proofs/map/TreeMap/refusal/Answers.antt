use Rattle.std.proofs.Common.{sym, subst, arith}
use Rattle.art_arena.proofs.Common.{key_of}
use Rattle.art_operations.proofs.Common.{IsBlocked}
use Rattle.art_map.proofs.map.TreeMap.refusal.Goals as goal

pub blocked-requires : goal.blocked-requires
blocked-requires g c =
    let is = rw c.in-Conflict.is at c.requires.2 in
    (omega arith, subst (λ k. IsBlocked (key_of g.K.AsBytes.bytes) (g.K.AsBytes.bytes k) c.args.self.now.pairs) (sym is.0) is.2)
