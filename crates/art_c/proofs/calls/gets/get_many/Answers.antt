use Rattle.std.proofs.Common.{◌+◌, ap, drop, get_or, refl, arith}
use Rattle.art_c.specs.declared.value.WordsPair.{WordsPair}
use Rattle.art_c.proofs.Gets.{next-item, one-got}
use Rattle.art_c.proofs.calls.gets.get_many.Goals as goal

pub loop-at-preserved : goal.loop-at-preserved
loop-at-preserved c =
    let none : WordsPair = record { key_len = 0; word = 0 } in
    let items = c.args.pairs.now in let flags = c.args.found.now in let at = c.loop-at.at in
    let it = c.loop-at.invariant in
    let cut = c.in-Some.ensures.cases in
    one-got c.args.keys.now c.args.map.now.pairs items flags it c.in-Some.key.now c.in-Some.following.now
    (get_or c.loop-at.pairs at none) (drop (at + 1) items) c.word_or-word.result.0 c.word_or-word.result.1
    cut.1 cut.2 cut.3 (next-item c.args.keys.now c.args.map.now.pairs items flags it none refl c.loop-at-test.true)
    c.loop-at-test.true (omega (arith, c.if-at-found.false, c.loop-at.auto.found, it.count_is, it.fit))
    (ap (λ r. r.0) c.word_or-word.ensures) (ap (λ r. r.1) c.word_or-word.ensures)
