use Rattle.std.proofs.Common.{map, ap, ◌∙◌, subst, Some}
use Rattle.std.specs.Prelude.{option_map}
use Rattle.art_engine.proofs.Terms.{exactly, look_up_nodes, Grew, full_key_of, Pair, record_of}
use Rattle.art_lines.proofs.Common.{tenant_in_place, key_in_place}
use Rattle.art_engine.proofs.KeyKinds.{pairs_stand, under_keys}
use Rattle.art_engine.proofs.RecordCounts.{record_look_up, value_found}
use Rattle.art_engine.proofs.lookup.record.value_of.Goals as goal

pub returns-in-Some-clause-value : goal.returns-in-Some-clause-value
returns-in-Some-clause-value g c = λ ps r.
    ap Some c.as_slice.ensures.value ∙ ap (option_map (λ (p : Pair). p.1.items)) (c.in-Some.ensures.value ps r.read)
    ∙ value_found under_keys (tenant_in_place c.args.fields.now) (key_in_place c.args.fields.now) c.full_key.result.now c.full_key.ensures.tenant tt c.full_key.ensures.value ps (pairs_stand ps r.are)

pub returns-in-None-clause-value : goal.returns-in-None-clause-value
returns-in-None-clause-value g c = λ ps r.
    ap (option_map (λ (p : Pair). p.1.items)) (c.in-None.ensures.value ps r.read)
    ∙ value_found under_keys (tenant_in_place c.args.fields.now) (key_in_place c.args.fields.now) c.full_key.result.now c.full_key.ensures.tenant tt c.full_key.ensures.value ps (pairs_stand ps r.are)

pub returns-in-Some-clause-visits : goal.returns-in-Some-clause-visits
returns-in-Some-clause-visits g c = λ ps r.
    subst (λ q. Grew (exactly (look_up_nodes full_key_of g.row.PREFIX_LEN (map record_of ps) q)) c.args.records.now.count c.get_key_value.new.self.count) c.full_key.ensures.value
    (record_look_up under_keys ps (pairs_stand ps r.are) _ _ g.row.PREFIX_LEN c.full_key.result.now c.full_key.ensures.short (c.in-Some.ensures.counts ps r.read))

pub returns-in-None-clause-visits : goal.returns-in-None-clause-visits
returns-in-None-clause-visits g c = λ ps r.
    subst (λ q. Grew (exactly (look_up_nodes full_key_of g.row.PREFIX_LEN (map record_of ps) q)) c.args.records.now.count c.get_key_value.new.self.count) c.full_key.ensures.value
    (record_look_up under_keys ps (pairs_stand ps r.are) _ _ g.row.PREFIX_LEN c.full_key.result.now c.full_key.ensures.short (c.in-None.ensures.counts ps r.read))
