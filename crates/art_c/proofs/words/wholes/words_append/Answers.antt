use Rattle.art_c.specs.Handles.{word_map_in}
use Rattle.art_c.proofs.Answered.{none_lent}
use Rattle.art_c.proofs.words.wholes.words_append.Goals as goal

pub returns-in-None-kept_mut : goal.returns-in-None-kept_mut
returns-in-None-kept_mut c =
    none_lent word_map_in _ _ _ _ _ _ _ c.number-in-None-kept_mut.ensures c.in-Some.ensures.map c.deref_mut.ensures.value c.in-None-kept_mut.ensures.value c.set-in-None-kept_mut.ensures
