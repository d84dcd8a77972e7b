use Rattle.art_c.specs.Handles.{word_map_in}
use Rattle.art_c.proofs.Answered.{none_read}
use Rattle.art_c.proofs.words.many.words_prefixes.Goals as goal

pub returns-in-None-kept : goal.returns-in-None-kept
returns-in-None-kept c =
    none_read word_map_in _ _ _ _ _ _ _ c.number-in-None-kept.ensures c.in-Some.ensures.map c.deref.ensures c.in-None-kept.ensures c.set-in-None-kept.ensures
