use Rattle.std.proofs.Common.{sym, subst, arith}
use Rattle.art_arena.proofs.Common.{key_of}
use Rattle.art_operations.proofs.Common.{IsPairRefused, IsBlocked}
use Rattle.art_map.proofs.Terms.{IsTryRefused}
use Rattle.art_map.proofs.Joins.{blocked}
use Rattle.art_map.proofs.map.TreeMap.try_insert.Goals.{In-Err}
use Rattle.art_map.proofs.map.TreeMap.try_insert.Goals as goal

-- why the pair was refused, told of the pairs that are still there
told : (g : _) (c : In-Err g) → IsPairRefused c.args.key c.args.value (IsBlocked (key_of g.K.AsBytes.bytes) (g.K.AsBytes.bytes c.args.key) c.put.new.self.pairs) c.in-Err.refused
told g c = subst (λ ps. IsPairRefused c.args.key c.args.value (IsBlocked (key_of g.K.AsBytes.bytes) (g.K.AsBytes.bytes c.args.key) ps) c.in-Err.refused) (sym c.in-Err.ensures.err) c.in-Err.ensures.refused

pub refusal-requires : goal.refusal-requires
refusal-requires g c = (omega arith, (c.args.key, c.args.value, told g c))

pub returns-in-Err-clause-refused : goal.returns-in-Err-clause-refused
returns-in-Err-clause-refused g c =
    subst (λ ps. IsTryRefused g.K.AsBytes.bytes ps c.args.key c.args.value c.refusal.result) c.in-Err.ensures.err (c.refusal.ensures c.args.key c.args.value (told g (goal.at.returns-in-Err-clause-refused g c).In-Err))

pub returns-in-Err-clause-succeeds : goal.returns-in-Err-clause-succeeds
returns-in-Err-clause-succeeds g c = blocked c.args.key c.args.value c.in-Err.refused c.in-Err.ensures.refused c.in-Err.ensures.succeeds
