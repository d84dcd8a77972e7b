use Rattle.std.proofs.Common.{◌≡◌, subst}
use Rattle.std.specs.Prelude.{IfOk}
use Rattle.art_arena.proofs.Common.{key_of}
use Rattle.art_map.proofs.Common.{audit_of}
use Rattle.art_set.proofs.KeyPairs.{with-units}
use Rattle.art_set.proofs.set.TreeSet.audit.Goals as goal

pub returns : goal.returns
returns g c =
    rw (← c.self.view_is)
    (subst (λ ps. IfOk c.audit.result (λ stats. stats ≡ audit_of (key_of g.K.AsBytes.bytes) ps)) (with-units c.self.inside.map.pairs) c.audit.ensures)
