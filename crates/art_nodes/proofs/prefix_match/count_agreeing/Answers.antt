use Rattle.std.proofs.Common.{◌≡◌, ◌+◌, ◌-◌, take, drop, arith, sym}
use Rattle.std.proofs.lemmas.Slice.Eq.{bytes_eq-Decides}
use Rattle.art_nodes.proofs.PrefixLemmas.{agreeing-word}
use Rattle.art_nodes.proofs.prefix_match.count_agreeing.Goals as goal

pub words-preserved : goal.words-preserved
words-preserved c =
    let at = c.words.at in
    let equal : take (at + 8 - at) (drop at c.args.prefix.now) ≡ take (at + 8 - at) (drop at c.args.rest.now) = (bytes_eq-Decides _ _).0 (sym c.if-eq-2.ensures) in
    let long : at + 8 - at ≡ 8 = omega arith in
    let word = agreeing-word 8 at c.args.prefix.now c.args.rest.now (rw long at equal) c.words-test.true in
    record { within = c.words-test.true; within_rest = c.if-at-rest-2.true; so_far = omega (arith, word, c.words.invariant.so_far) }

pub pages-preserved : goal.pages-preserved
pages-preserved c =
    let at = c.pages.at in
    let equal : take (at + 256 - at) (drop at c.args.prefix.now) ≡ take (at + 256 - at) (drop at c.args.rest.now) = (bytes_eq-Decides _ _).0 (sym c.if-eq.ensures) in
    let long : at + 256 - at ≡ 256 = omega arith in
    let word = agreeing-word 256 at c.args.prefix.now c.args.rest.now (rw long at equal) c.pages-test.true in
    record { within = c.pages-test.true; within_rest = c.if-at-rest.true; so_far = omega (arith, word, c.pages.invariant.so_far) }
