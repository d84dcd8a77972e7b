use Rattle.std.proofs.Common.{ℕ, List, ap, ◌∙◌, subst, Some}
use Rattle.std.specs.Prelude.{option_map}
use Rattle.art_walks.specs.MapReads.{ReadsTree, look_up_reads}
use Rattle.art_lines.proofs.Common.{tenant_in_place, number_in_place}
use Rattle.art_engine.proofs.Terms.{NumberPair}
use Rattle.art_engine.proofs.KeyKinds.{number_pairs_stand, under_numbers}
use Rattle.art_engine.proofs.RecordCounts.{number_look_up, value_found}
use Rattle.art_engine.proofs.lookup.record.value_at_number.Goals as goal

pub returns-in-Some-clause-value : goal.returns-in-Some-clause-value
returns-in-Some-clause-value g c = λ ns r.
    let F = c.args.fields.now in
    ap Some c.as_slice.ensures.value ∙ ap (option_map (λ (p : NumberPair). p.1.items)) (c.in-Some.ensures.value ns r.read)
    ∙ value_found under_numbers (tenant_in_place F) (number_in_place F) c.number_key.result c.number_key.ensures.tenant c.number_key.ensures.number c.number_key.ensures.value ns (number_pairs_stand ns r.are)

pub returns-in-None-clause-value : goal.returns-in-None-clause-value
returns-in-None-clause-value g c = λ ns r.
    let F = c.args.fields.now in
    ap (option_map (λ (p : NumberPair). p.1.items)) (c.in-None.ensures.value ns r.read)
    ∙ value_found under_numbers (tenant_in_place F) (number_in_place F) c.number_key.result c.number_key.ensures.tenant c.number_key.ensures.number c.number_key.ensures.value ns (number_pairs_stand ns r.are)

pub returns-in-Some-clause-visits : goal.returns-in-Some-clause-visits
returns-in-Some-clause-visits g c = λ ns r.
    let F = c.args.fields.now in
    number_look_up g.row.PREFIX_LEN (tenant_in_place F) (number_in_place F) ns r.are _ _
    (subst (λ q. ReadsTree (λ (k : List ℕ). k) (look_up_reads g.row.PREFIX_LEN q) ns c.args.numbers.now.count c.get_key_value.new.self.count) c.number_key.ensures.value (c.in-Some.ensures.counts ns r.read))

pub returns-in-None-clause-visits : goal.returns-in-None-clause-visits
returns-in-None-clause-visits g c = λ ns r.
    let F = c.args.fields.now in
    number_look_up g.row.PREFIX_LEN (tenant_in_place F) (number_in_place F) ns r.are _ _
    (subst (λ q. ReadsTree (λ (k : List ℕ). k) (look_up_reads g.row.PREFIX_LEN q) ns c.args.numbers.now.count c.get_key_value.new.self.count) c.number_key.ensures.value (c.in-None.ensures.counts ns r.read))
