use Rattle.std.proofs.Common.{◌≡◌, Some, ap, subst, sym, ◌∙◌}
use Rattle.art_map.proofs.Common.{last_item}
use Rattle.art_c.specs.Calls.{IsPairRead}
use Rattle.art_c.specs.Copies.{pair_code, pair_out, rooms}
use Rattle.art_c.specs.Handles.{byte_map_in, state_of}
use Rattle.art_c.proofs.Answered.{answers_read, none_read}
use Rattle.art_c.proofs.byte_maps.ends.bytes_last.Goals as goal

pub returns-in-Some-kept : goal.returns-in-Some-kept
returns-in-Some-kept c =
    let old = rooms c.args.key_room.now c.args.key_len.now c.args.value_room.now c.args.value_len.now in
    let new = rooms c.give_pair-code.new.key_room c.give_pair-code.new.key_len c.give_pair-code.new.value_room c.give_pair-code.new.value_len in
    answers_read byte_map_in _ _ old new _ (IsPairRead last_item) (state_of c.in-Some-kept.kept.now) c.give_pair-code.result c.number.ensures
    (ap byte_map_in (c.in-Some.ensures.map ∙ ap Some (sym c.deref.ensures ∙ c.in-Some-kept.ensures))) (c.set.ensures ∙ sym c.in-Some.ensures.map)
    (subst (λ ps. IsPairRead last_item ps old c.give_pair-code.result new) c.map-map.ensures
    (subst (λ o. (c.give_pair-code.result ≡ pair_code o old) × (new ≡ pair_out o old)) c.pair_of.ensures
    (c.give_pair-code.ensures.code, c.give_pair-code.ensures.rooms)))

pub returns-in-None-kept : goal.returns-in-None-kept
returns-in-None-kept c =
    none_read byte_map_in _ _ _ _ _ _ _ c.number-in-None-kept.ensures c.in-Some.ensures.map c.deref.ensures c.in-None-kept.ensures c.set-in-None-kept.ensures
