use Rattle.std.proofs.Common.{rules, ℕ, ◌^◌, ◌<◌, List, length, map, ap, ap₂, sym, ◌∙◌, subst, inr}
use Rattle.std.specs.Prelude.{filter}
use Rattle.std.specs.List.{AllByRecursion}
use Rattle.std.specs.declared.ops.Bound.TheVariants.{Included, Excluded}
use Rattle.std.specs.BTreeMap.Range.{IsLeBy, range_contains}
use Rattle.std.proofs.lemmas.Result.{on_ok_weaker}
use Rattle.art_bytes.proofs.Common.{bytes_cmp}
use Rattle.art_walks.proofs.Common.{all-filter}
use Rattle.art_lines.proofs.Common.{Writes, bytes, full_key, tenant_in_place, key_in_place, upper_in_place}
use Rattle.art_engine.proofs.Terms.{GrewBy, GrewUpTo, span_pairs, own_pair, IsListed, Pair}
use Rattle.art_engine.proofs.FullTests.{in_order_full}
use Rattle.art_engine.proofs.KeyKinds.{pairs_stand, under_keys}
use Rattle.art_engine.proofs.ListedLines.{are_listed, list_all}
use Rattle.art_engine.proofs.RecordCounts.{own_left, left_few, left_grew, left_most, span_opens, span_tests}
use Rattle.art_engine.proofs.SpanLemmas.{span_left}
use Rattle.art_engine.proofs.listing.write_between.Goals as goal

pub range-span-requires : goal.range-span-requires
range-span-requires g c =
    let F = c.args.fields.now in
    let valid = in_order_full (tenant_in_place F) (key_in_place F) (upper_in_place F) c.full_key.ensures.tenant c.requires.order in
    let ends = sym (ap₂ (λ a b. (a, b)) c.full_key.ensures.value c.full_upper.ensures) in
    (search rules, (search rules, λ ps r. inr (subst (λ (q : List ℕ × List ℕ). IsLeBy bytes_cmp q.0 q.1) ends valid)))

pub write_pairs-requires : goal.write_pairs-requires
write_pairs-requires g c =
    let F = c.args.fields.now in let t = tenant_in_place F in let low = key_in_place F in let high = upper_in_place F in
    let ps = c.requires.reads.0 in let r = c.requires.reads.1 in
    let left = span_left _ ps _ _ (c.range-span.ensures.value ps r.read)
    ∙ ap₂ (λ a b. filter (λ (p : Pair). range_contains bytes_cmp (Included a) (Excluded b) p.0.items) ps) c.full_key.ensures.value c.full_upper.ensures in
    let listed : AllByRecursion IsListed (span_pairs c.range-span.new.self.nodes c.range-span.result) = subst (AllByRecursion IsListed) (sym left) (all-filter IsListed _ ps (are_listed ps r.are.stand.full r.are.fit)) in
    let few : length (span_pairs c.range-span.new.self.nodes c.range-span.result) < 2 ^ 64 = subst (λ (l : List Pair). length l < 2 ^ 64) (sym left) (left_few under_keys t _ _ (span_tests t low high c.full_key.ensures.tenant) ps (pairs_stand ps r.are) r.few) in
    search (rules, listed, few)

pub returns-clause-output : goal.returns-clause-output
returns-clause-output g c = λ ps r.
    let F = c.args.fields.now in let t = tenant_in_place F in let low = key_in_place F in let high = upper_in_place F in
    let left = span_left _ ps _ _ (c.range-span.ensures.value ps r.read)
    ∙ ap₂ (λ a b. filter (λ (p : Pair). range_contains bytes_cmp (Included a) (Excluded b) p.0.items) ps) c.full_key.ensures.value c.full_upper.ensures in
    let own = ap (map own_pair) left ∙ own_left under_keys t _ _ (span_tests t low high c.full_key.ensures.tenant) ps (pairs_stand ps r.are) in
    subst (λ (text : List ℕ). Writes c.write_pairs.result (g.W.Sink.taken c.args.sink.now) (g.W.Sink.taken c.write_pairs.new.sink) text (g.W.Sink.has_failed c.write_pairs.new.sink)) (list_all own_pair bytes _ _ own) c.write_pairs.ensures.written

pub returns-clause-visits : goal.returns-clause-visits
returns-clause-visits g c = λ ps r.
    let F = c.args.fields.now in let t = tenant_in_place F in let low = key_in_place F in let high = upper_in_place F in
    let left = span_left _ ps _ _ (c.range-span.ensures.value ps r.read)
    ∙ ap₂ (λ a b. filter (λ (p : Pair). range_contains bytes_cmp (Included a) (Excluded b) p.0.items) ps) c.full_key.ensures.value c.full_upper.ensures in
    let opens = span_opens under_keys ps (pairs_stand ps r.are) _ _ g.row.PREFIX_LEN (λ k. Excluded k) _ _ (full_key t low) (full_key t high) c.full_key.ensures.value c.full_upper.ensures (c.range-span.ensures.counts ps r.read) in
    on_ok_weaker c.write_pairs.result (λ is. left_grew under_keys t _ _ (span_tests t low high c.full_key.ensures.tenant) ps (pairs_stand ps r.are) _ _ _ _ r.few opens
    (subst (λ (l : List Pair). GrewBy (length l) c.range-span.new.self.count c.write_pairs.new.records.count) left is)) c.write_pairs.ensures.counts

pub returns-clause-few : goal.returns-clause-few
returns-clause-few g c = λ ps r.
    let F = c.args.fields.now in let t = tenant_in_place F in let low = key_in_place F in let high = upper_in_place F in
    let left = span_left _ ps _ _ (c.range-span.ensures.value ps r.read)
    ∙ ap₂ (λ a b. filter (λ (p : Pair). range_contains bytes_cmp (Included a) (Excluded b) p.0.items) ps) c.full_key.ensures.value c.full_upper.ensures in
    let opens = span_opens under_keys ps (pairs_stand ps r.are) _ _ g.row.PREFIX_LEN (λ k. Excluded k) _ _ (full_key t low) (full_key t high) c.full_key.ensures.value c.full_upper.ensures (c.range-span.ensures.counts ps r.read) in
    left_most under_keys t _ _ (span_tests t low high c.full_key.ensures.tenant) ps (pairs_stand ps r.are) _ _ _ _ r.few opens
    (subst (λ (l : List Pair). GrewUpTo (length l) c.range-span.new.self.count c.write_pairs.new.records.count) left c.write_pairs.ensures.few)
