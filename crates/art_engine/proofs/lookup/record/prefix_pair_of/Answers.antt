use Rattle.std.proofs.Common.{◌+◌, ◌≤◌, ℕ, List, length, drop, map, ap, ap₂, sym, ◌∙◌, subst, Some}
use Rattle.std.specs.Prelude.{option_map}
use Rattle.art_arena.proofs.Common.{begins_with}
use Rattle.art_engine.proofs.Terms.{exactly, look_up_nodes, Grew, full_key_of, IsListed, Pair, record_of}
use Rattle.art_lines.proofs.Common.{line_of, pair_words, tenant_in_place, key_in_place}
use Rattle.art_engine.proofs.Finding.{all_found, front_found}
use Rattle.art_engine.proofs.ListedLines.{are_listed}
use Rattle.art_engine.proofs.KeyKinds.{pairs_stand, under_keys}
use Rattle.art_engine.proofs.RecordCounts.{record_look_up}
use Rattle.art_engine.proofs.lookup.record.prefix_pair_of.Goals as goal

pub key_of-key-requires : goal.key_of-key-requires
key_of-key-requires g c =
    let ps = c.requires.0 in let r = c.requires.1 in
    let one = all_found IsListed (λ j. begins_with j.items c.full_key.result.now) ps (c.in-Some.full.now, c.in-Some.value.now) (c.in-Some.ensures.value ps r.read) (are_listed ps r.are.stand.full r.are.fit) in
    subst (λ (xs : List ℕ). 4 ≤ length xs) (sym c.as_slice.ensures.value) one.0

pub returns-in-Some-clause-found : goal.returns-in-Some-clause-found
returns-in-Some-clause-found g c = λ ps r.
    let key = c.key_of-key.ensures ∙ ap (drop 4) c.as_slice.ensures.value in
    ap₂ (λ a b. Some (a, b)) key c.as_slice-text.ensures.value ∙ ap (option_map (λ (p : Pair). (drop 4 p.0.items, p.1.items))) (c.in-Some.ensures.value ps r.read)
    ∙ front_found (tenant_in_place c.args.fields.now) (key_in_place c.args.fields.now) c.full_key.result.now c.full_key.ensures.tenant c.full_key.ensures.value ps r.are.stand

pub returns-in-Some-clause-line : goal.returns-in-Some-clause-line
returns-in-Some-clause-line g c =
    let ps = c.requires.0 in let r = c.requires.1 in
    let one = all_found IsListed (λ j. begins_with j.items c.full_key.result.now) ps (c.in-Some.full.now, c.in-Some.value.now) (c.in-Some.ensures.value ps r.read) (are_listed ps r.are.stand.full r.are.fit) in
    let key = c.key_of-key.ensures ∙ ap (drop 4) c.as_slice.ensures.value in
    subst (λ (q : List ℕ × List ℕ). 3 + length (line_of (pair_words q)) ≤ 4097) (sym (ap₂ (λ a b. (a, b)) key c.as_slice-text.ensures.value)) one.1

pub returns-in-None-clause-found : goal.returns-in-None-clause-found
returns-in-None-clause-found g c = λ ps r.
    ap (option_map (λ (p : Pair). (drop 4 p.0.items, p.1.items))) (c.in-None.ensures.value ps r.read)
    ∙ front_found (tenant_in_place c.args.fields.now) (key_in_place c.args.fields.now) c.full_key.result.now c.full_key.ensures.tenant c.full_key.ensures.value ps r.are.stand

pub returns-in-Some-clause-visits : goal.returns-in-Some-clause-visits
returns-in-Some-clause-visits g c = λ ps r.
    subst (λ q. Grew (exactly (look_up_nodes full_key_of g.row.PREFIX_LEN (map record_of ps) q)) c.args.records.now.count c.prefix_get_key_value.new.self.count) c.full_key.ensures.value
    (record_look_up under_keys ps (pairs_stand ps r.are) _ _ g.row.PREFIX_LEN c.full_key.result.now c.full_key.ensures.short (c.in-Some.ensures.counts ps r.read))

pub returns-in-None-clause-visits : goal.returns-in-None-clause-visits
returns-in-None-clause-visits g c = λ ps r.
    subst (λ q. Grew (exactly (look_up_nodes full_key_of g.row.PREFIX_LEN (map record_of ps) q)) c.args.records.now.count c.prefix_get_key_value.new.self.count) c.full_key.ensures.value
    (record_look_up under_keys ps (pairs_stand ps r.are) _ _ g.row.PREFIX_LEN c.full_key.result.now c.full_key.ensures.short (c.in-None.ensures.counts ps r.read))
