use Rattle.std.proofs.Common.{ℕ, List, Some, ap, subst, sym, ◌∙◌}
use Rattle.art_c.specs.Handles.{state_of, word_map_in}
use Rattle.art_c.specs.Spans.{reach}
use Rattle.art_c.specs.Walks.{IsWordsWalked}
use Rattle.art_c.proofs.Answered.{answers_read, none_read}
use Rattle.art_c.proofs.words.many.words_walk_words.Goals as goal

pub returns-in-Some-kept : goal.returns-in-Some-kept
returns-in-Some-kept c =
    let old : List ℕ × ℕ = (c.args.words.now, c.args.count.now) in
    let new : List ℕ × ℕ = (c.walk_words-code.new.words, c.walk_words-code.new.count) in
    let r = reach c.args.back c.args.from c.args.from_key.now c.args.to c.args.to_key.now in
    answers_read word_map_in _ _ old new _ (IsWordsWalked r) (state_of c.in-Some-kept.kept.now) c.walk_words-code.result c.number.ensures
    (ap word_map_in (c.in-Some.ensures.map ∙ ap Some (sym c.deref.ensures ∙ c.in-Some-kept.ensures))) (c.set.ensures ∙ sym c.in-Some.ensures.map)
    (subst (λ ps. IsWordsWalked r ps old c.walk_words-code.result new) c.map-map.ensures
    (subst (λ s. IsWordsWalked s c.map-map.result.now.pairs old c.walk_words-code.result new) c.new-span.ensures c.walk_words-code.ensures))

pub returns-in-None-kept : goal.returns-in-None-kept
returns-in-None-kept c =
    none_read word_map_in _ _ _ _ _ _ _ c.number-in-None-kept.ensures c.in-Some.ensures.map c.deref.ensures c.in-None-kept.ensures c.set-in-None-kept.ensures
