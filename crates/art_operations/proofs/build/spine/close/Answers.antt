use Rattle.std.proofs.Common.{IfOk, List, subst}
use Rattle.art_nodes.proofs.Common.{Name}
use Rattle.art_arena.proofs.Common.{Cell}
use Rattle.art_operations.proofs.Terms.{HasSpine, OfEach}
use Rattle.art_operations.proofs.build.spine.close.Goals as goal

pub returns-clause-ok : goal.returns-clause-ok
returns-clause-ok g c =
    subst (λ start. IfOk c.close_from.result (λ root. (rest : List (Name × Cell g.row.K.Denot g.row.V.Denot))
    → OfEach (HasSpine g.K.AsBytes.bytes g.row.PREFIX_LEN c.args.arena.now c.args.spine.now rest c.args.last c.args.low start)
    (HasSpine g.K.AsBytes.bytes g.row.PREFIX_LEN c.close_from.new.arena c.close_from.new.spine rest c.args.last c.args.low root)))
    c.to_opaque.ensures c.close_from.ensures.ok
