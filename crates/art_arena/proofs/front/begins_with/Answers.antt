use Rattle.std.proofs.Common.{◌-◌, length, arith, eq-eqb}
use Rattle.std.specs.Prelude.{IsTrue}
use Rattle.art_arena.proofs.Words.{begins_by_last, begins_empty, one_byte_tells, parts_agree, take_part}
use Rattle.art_arena.proofs.front.begins_with.Goals as goal

pub returns-then-not-agree_at : goal.returns-then-not-agree_at
returns-then-not-agree_at c = (
  λ no. absurd cc,
  λ begins.
      let same = c.agree_at.ensures.1 (parts_agree c.args.front.now c.args.bytes.now c.words.at 8 (omega arith) begins) in
      absurd cc,
)

pub words-preserved : goal.words-preserved
words-preserved c =
    let same : IsTrue c.agree_at.result = cc in
    take_part c.args.front.now c.args.bytes.now c.words.at 8 c.words.invariant (c.agree_at.ensures.0 same)

pub returns-then-len-ge8 : goal.returns-then-len-ge8
returns-then-len-ge8 c =
    let front = c.args.front.now in
    let bytes = c.args.bytes.now in
    let tells = c.agree_at-then-len-ge8.ensures in (
      λ yes. begins_by_last front bytes c.words.at (length front - 8) 8 (omega arith) (omega arith) c.words.invariant (tells.0 yes),
      λ begins. tells.1 (parts_agree front bytes (length front - 8) 8 (omega arith) begins),
    )

pub returns-then-len-eq0 : goal.returns-then-len-eq0
returns-then-len-eq0 c = (λ _. begins_empty c.args.front.now c.if-len-eq0.true c.args.bytes.now, λ _. eq-eqb _ 0 c.if-len-eq0.true)

pub returns-else-len-eq0 : goal.returns-else-len-eq0
returns-else-len-eq0 c = one_byte_tells c.args.front.now c.args.bytes.now (omega arith) (omega arith)
