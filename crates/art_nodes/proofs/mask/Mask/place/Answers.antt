use Rattle.std.proofs.Common.{◌≡◌, ◌+◌, ◌*◌, ◌/◌, refl, sym, ap, ap₂, ◌∙◌, arith, length}
use Rattle.art_nodes.specs.inner.Mask.{those_passing}
use Rattle.art_nodes.proofs.Terms.{is_marked}
use Rattle.art_nodes.proofs.PassingLemmas.{place_of_bound}
use Rattle.art_nodes.proofs.MaskLemmas.{one_word_more, place_by_words}
use Rattle.art_nodes.proofs.mask.Mask.place.Goals as goal

pub loop-at-init : goal.loop-at-init
unfolding those_passing
loop-at-init c = (refl, omega arith)

pub loop-at-preserved : goal.loop-at-preserved
loop-at-preserved c =
    let words = c.self.inside.words in
    let at = c.loop-at.at in
    (omega (arith, one_word_more words at, c.loop-at.invariant.0, c.set_bits_below-count.ensures.value), omega (arith, c.loop-at.invariant.1, c.set_bits_below-count.ensures.few))

pub returns-then-whole-eq-WORDS : goal.returns-then-whole-eq-WORDS
returns-then-whole-eq-WORDS c =
    let words = c.self.inside.words in
    let all : 64 * c.loop-at.at ≡ c.args.bound = omega (arith, c.loop-at-test.false, c.loop-at.auto.at-end, c.if-whole-eq-WORDS.true, c.requires) in
    rw (← c.self.view_is) (c.loop-at.invariant.0 ∙ ap (λ k. length (those_passing (is_marked words) 0 k)) all ∙ sym (place_of_bound (is_marked words) c.args.bound c.requires))

pub returns : goal.returns
returns c =
    let words = c.self.inside.words in
    let bound = c.args.bound in
    let all : c.loop-at.at ≡ bound / 64 = omega (arith, c.loop-at-test.false, c.loop-at.auto.at-end) in
    rw (← c.self.view_is) (ap₂ (λ a b. a + b) (c.loop-at.invariant.0 ∙ ap (λ k. length (those_passing (is_marked words) 0 (64 * k))) all) c.set_bits_below.ensures.value ∙ sym (place_by_words words bound c.requires))
