use Rattle.std.proofs.Common.{ℕ, rules, ◌^◌, ◌<◌, List, length, map, ap, sym, ◌∙◌, subst}
use Rattle.std.specs.Prelude.{filter}
use Rattle.std.specs.List.{AllByRecursion}
use Rattle.std.proofs.lemmas.Result.{on_ok_weaker}
use Rattle.art_arena.proofs.Common.{begins_with}
use Rattle.art_walks.proofs.Common.{all-filter}
use Rattle.art_lines.proofs.Common.{Writes, bytes, full_key, tenant_in_place, key_in_place}
use Rattle.art_engine.proofs.Terms.{GrewBy, GrewUpTo, span_pairs, own_pair, IsListed, Pair}
use Rattle.art_engine.proofs.KeyKinds.{pairs_stand, under_keys}
use Rattle.art_engine.proofs.ListedLines.{are_listed, list_all}
use Rattle.art_engine.proofs.RecordCounts.{own_left, left_few, left_grew, left_most, list_opens, list_tests}
use Rattle.art_engine.proofs.SpanLemmas.{span_left}
use Rattle.art_engine.proofs.listing.write_list.Goals as goal

pub write_pairs-requires : goal.write_pairs-requires
write_pairs-requires g c =
    let t = tenant_in_place c.args.fields.now in let k = key_in_place c.args.fields.now in
    let ps = c.requires.reads.0 in let r = c.requires.reads.1 in
    let left = span_left _ ps _ _ (c.prefix-span.ensures.value ps r.read) ∙ ap (λ q. filter (λ (p : Pair). begins_with q p.0.items) ps) c.full_key.ensures.value in
    let listed : AllByRecursion IsListed (span_pairs c.prefix-span.new.self.nodes c.prefix-span.result) = subst (AllByRecursion IsListed) (sym left) (all-filter IsListed _ ps (are_listed ps r.are.stand.full r.are.fit)) in
    let few : length (span_pairs c.prefix-span.new.self.nodes c.prefix-span.result) < 2 ^ 64 = subst (λ (l : List Pair). length l < 2 ^ 64) (sym left) (left_few under_keys t _ _ (list_tests t k c.full_key.ensures.tenant) ps (pairs_stand ps r.are) r.few) in
    search (rules, listed, few)

pub returns-clause-output : goal.returns-clause-output
returns-clause-output g c = λ ps r.
    let t = tenant_in_place c.args.fields.now in let k = key_in_place c.args.fields.now in
    let left = span_left _ ps _ _ (c.prefix-span.ensures.value ps r.read) ∙ ap (λ q. filter (λ (p : Pair). begins_with q p.0.items) ps) c.full_key.ensures.value in
    let own = ap (map own_pair) left ∙ own_left under_keys t _ _ (list_tests t k c.full_key.ensures.tenant) ps (pairs_stand ps r.are) in
    subst (λ (text : List ℕ). Writes c.write_pairs.result (g.W.Sink.taken c.args.sink.now) (g.W.Sink.taken c.write_pairs.new.sink) text (g.W.Sink.has_failed c.write_pairs.new.sink)) (list_all own_pair bytes _ _ own) c.write_pairs.ensures.written

pub returns-clause-visits : goal.returns-clause-visits
returns-clause-visits g c = λ ps r.
    let t = tenant_in_place c.args.fields.now in let k = key_in_place c.args.fields.now in
    let left = span_left _ ps _ _ (c.prefix-span.ensures.value ps r.read) ∙ ap (λ q. filter (λ (p : Pair). begins_with q p.0.items) ps) c.full_key.ensures.value in
    let opens = list_opens under_keys ps (pairs_stand ps r.are) _ _ g.row.PREFIX_LEN c.full_key.result.now (full_key t k) c.full_key.ensures.value (c.prefix-span.ensures.counts ps r.read) in
    on_ok_weaker c.write_pairs.result (λ is. left_grew under_keys t _ _ (list_tests t k c.full_key.ensures.tenant) ps (pairs_stand ps r.are) _ _ _ _ r.few opens
    (subst (λ (l : List Pair). GrewBy (length l) c.prefix-span.new.self.count c.write_pairs.new.records.count) left is)) c.write_pairs.ensures.counts

pub returns-clause-few : goal.returns-clause-few
returns-clause-few g c = λ ps r.
    let t = tenant_in_place c.args.fields.now in let k = key_in_place c.args.fields.now in
    let left = span_left _ ps _ _ (c.prefix-span.ensures.value ps r.read) ∙ ap (λ q. filter (λ (p : Pair). begins_with q p.0.items) ps) c.full_key.ensures.value in
    let opens = list_opens under_keys ps (pairs_stand ps r.are) _ _ g.row.PREFIX_LEN c.full_key.result.now (full_key t k) c.full_key.ensures.value (c.prefix-span.ensures.counts ps r.read) in
    left_most under_keys t _ _ (list_tests t k c.full_key.ensures.tenant) ps (pairs_stand ps r.are) _ _ _ _ r.few opens
    (subst (λ (l : List Pair). GrewUpTo (length l) c.prefix-span.new.self.count c.write_pairs.new.records.count) left c.write_pairs.ensures.few)
