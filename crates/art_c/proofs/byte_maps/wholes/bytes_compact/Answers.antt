use Rattle.art_c.specs.Handles.{byte_map_in}
use Rattle.art_c.proofs.Answered.{none_lent}
use Rattle.art_c.proofs.byte_maps.wholes.bytes_compact.Goals as goal

pub returns-in-None-kept_mut-clause-pairs : goal.returns-in-None-kept_mut-clause-pairs
returns-in-None-kept_mut-clause-pairs c =
    none_lent byte_map_in _ _ _ _ _ _ _ c.number-in-None-kept_mut.ensures c.in-Some.ensures.map c.deref_mut.ensures.value c.in-None-kept_mut.ensures.value c.set-in-None-kept_mut.ensures
