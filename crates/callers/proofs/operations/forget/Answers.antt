use Rattle.std.proofs.Common.{[], Some, sym, subst}
use Rattle.art_arena.proofs.Common.{key_of}
use Rattle.art_operations.proofs.Common.{HasPairs, nothing_taken}
use Rattle.callers.proofs.operations.forget.Goals as goal

pub returns-in-Some-clause-ok : goal.returns-in-Some-clause-ok
returns-in-Some-clause-ok g c = λ pairs has. (rw c.in-Some.is at (c.in_ok-deleted.ensures.ok pairs [] has)).1

pub returns-in-None-clause-ok : goal.returns-in-None-clause-ok
returns-in-None-clause-ok g c = λ pairs has.
    let kept = rw c.in-None.is at (c.in_ok-deleted.ensures.ok pairs [] has) in
    subst (λ ps. HasPairs g.K.AsBytes.bytes g.row.PREFIX_LEN c.take_pair.new.arena (Some c.args.root) ps) (sym (nothing_taken (key_of g.K.AsBytes.bytes) c.args.key.now pairs kept.0)) kept.1
