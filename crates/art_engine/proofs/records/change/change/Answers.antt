use Rattle.std.proofs.Common.{rules, sym, subst}
use Rattle.art_lines.proofs.Common.{Spells, tenant_in_place, key_in_place, value_in_place, number_in_place, changes}
use Rattle.art_engine.proofs.Terms.{all_records_of, IsChangeDone}
use Rattle.art_engine.proofs.BothMaps.{put_in_both, over_in_both, del_in_both, nput_in_both, ndel_in_both}
use Rattle.art_engine.proofs.FieldLengths.{put_fits, over_fits, nput_fits}
use Rattle.art_engine.proofs.NumberPlaces.{are_in_order}
use Rattle.art_engine.proofs.CarriedOut.{put_done}
use Rattle.art_engine.proofs.records.change.change.Goals as goal

pub put_value-requires : goal.put_value-requires
put_value-requires g c =
    let F = c.args.fields.now in let line = c.requires.spelled.0 in
    let fits = put_fits line (tenant_in_place F) (key_in_place F) (value_in_place F) (subst (λ w. Spells line (changes w F)) c.in-Put.is c.requires.spelled.1) in
    (search rules, (c.requires.held, fits))

pub put_over-requires : goal.put_over-requires
put_over-requires g c =
    let F = c.args.fields.now in let line = c.requires.spelled.0 in
    let fits = over_fits line (tenant_in_place F) (key_in_place F) (value_in_place F) (subst (λ w. Spells line (changes w F)) c.in-Over.is c.requires.spelled.1) in
    (search rules, (c.requires.held, fits))

pub put_at_number-requires : goal.put_at_number-requires
put_at_number-requires g c =
    let F = c.args.fields.now in let line = c.requires.spelled.0 in
    let fits = nput_fits line (tenant_in_place F) (number_in_place F) (value_in_place F) (subst (λ w. Spells line (changes w F)) c.in-NPut.is c.requires.spelled.1) in
    (search rules, (c.requires.numbers, fits))

pub returns-in-Put-clause-done : goal.returns-in-Put-clause-done
returns-in-Put-clause-done g c =
    let F = c.args.fields.now in let ps = c.args.records.now.pairs in let ns = c.args.numbers.now.pairs in let new = c.put_value.new.records.pairs in
    subst (λ w. IsChangeDone c.put_value.result (changes w F) (all_records_of ps ns) (all_records_of new ns)) (sym c.in-Put.is)
    (put_in_both ps new ns (are_in_order ns c.requires.numbers) c.put_value.result (tenant_in_place F) (key_in_place F) (value_in_place F)
    (put_done c.put_value.result _ _ (tenant_in_place F) (key_in_place F) (value_in_place F) c.put_value.ensures.placed))

pub returns-in-Over-clause-done : goal.returns-in-Over-clause-done
returns-in-Over-clause-done g c =
    let F = c.args.fields.now in let ps = c.args.records.now.pairs in let ns = c.args.numbers.now.pairs in let new = c.put_over.new.records.pairs in
    subst (λ w. IsChangeDone c.put_over.result (changes w F) (all_records_of ps ns) (all_records_of new ns)) (sym c.in-Over.is)
    (over_in_both ps new ns (are_in_order ns c.requires.numbers) c.put_over.result (tenant_in_place F) (key_in_place F) (value_in_place F) c.put_over.ensures.done)

pub returns-in-Del-clause-done : goal.returns-in-Del-clause-done
returns-in-Del-clause-done g c =
    let F = c.args.fields.now in let ps = c.args.records.now.pairs in let ns = c.args.numbers.now.pairs in let new = c.remove_key.new.records.pairs in
    subst (λ w. IsChangeDone c.remove_key.result (changes w F) (all_records_of ps ns) (all_records_of new ns)) (sym c.in-Del.is)
    (del_in_both ps new ns (are_in_order ns c.requires.numbers) c.remove_key.result (tenant_in_place F) (key_in_place F) c.remove_key.ensures.done)

pub returns-in-NPut-clause-done : goal.returns-in-NPut-clause-done
returns-in-NPut-clause-done g c =
    let F = c.args.fields.now in let ps = c.args.records.now.pairs in let ns = c.args.numbers.now.pairs in let new = c.put_at_number.new.numbers.pairs in
    subst (λ w. IsChangeDone c.put_at_number.result (changes w F) (all_records_of ps ns) (all_records_of ps new)) (sym c.in-NPut.is)
    (nput_in_both ps ns new c.requires.held.stand.in_order c.put_at_number.result (tenant_in_place F) (number_in_place F) (value_in_place F) c.put_at_number.ensures.done)

pub returns-in-NDel-clause-done : goal.returns-in-NDel-clause-done
returns-in-NDel-clause-done g c =
    let F = c.args.fields.now in let ps = c.args.records.now.pairs in let ns = c.args.numbers.now.pairs in let new = c.remove_number.new.numbers.pairs in
    subst (λ w. IsChangeDone c.remove_number.result (changes w F) (all_records_of ps ns) (all_records_of ps new)) (sym c.in-NDel.is)
    (ndel_in_both ps ns new c.requires.held.stand.in_order c.remove_number.result (tenant_in_place F) (number_in_place F) c.remove_number.ensures.done)
