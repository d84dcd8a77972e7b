use Rattle.std.proofs.Common.{◌-◌, length, sym, arith}
use Rattle.art_arena.proofs.Words.{begins_by_last, parts_agree}
use Rattle.art_arena.proofs.front.begins_with_two.Goals as goal

pub returns-then-agree_at : goal.returns-then-agree_at
returns-then-agree_at g c =
    let n = g.row.N in
    let front = c.args.front.now in
    let bytes = c.args.bytes.now in
    let first = c.agree_at.ensures in
    let last = c.agree_at-then-agree_at.ensures in (
      λ yes. begins_by_last front bytes n (length front - n) n (omega arith) (omega arith) (sym (first.0 c.if-agree_at.true)) (last.0 yes),
      λ begins. last.1 (parts_agree front bytes (length front - n) n (omega arith) begins),
    )

pub returns-else-agree_at : goal.returns-else-agree_at
returns-else-agree_at g c = (
  λ no. absurd cc,
  λ begins. let same = c.agree_at.ensures.1 (parts_agree c.args.front.now c.args.bytes.now 0 g.row.N (omega arith) begins) in absurd cc,
)
