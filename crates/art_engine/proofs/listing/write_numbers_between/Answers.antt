use Rattle.std.proofs.Common.{rules, ℕ, ◌^◌, ◌<◌, List, length, map, ap, ap₂, sym, ◌∙◌, subst, inr}
use Rattle.std.specs.Prelude.{filter}
use Rattle.std.specs.List.{AllByRecursion}
use Rattle.std.specs.declared.ops.Bound.TheVariants.{Included}
use Rattle.std.specs.BTreeMap.Range.{IsLeBy, range_contains}
use Rattle.std.proofs.lemmas.Result.{on_ok_weaker}
use Rattle.art_bytes.proofs.Common.{bytes_cmp, pair_key}
use Rattle.art_walks.proofs.Common.{all-filter}
use Rattle.art_lines.proofs.Common.{Writes, signed, tenant_in_place, number_in_place, bound_in_place}
use Rattle.art_engine.proofs.Terms.{GrewBy, GrewUpTo, span_pairs, own_number, IsNumbered, NumberPair}
use Rattle.art_engine.proofs.NumberKeys.{HaveBytes, numbers_in_order}
use Rattle.art_engine.proofs.KeyKinds.{number_pairs_stand, under_numbers}
use Rattle.art_engine.proofs.ListedLines.{are_numbered, list_all}
use Rattle.art_engine.proofs.RecordCounts.{own_left, left_few, left_grew, left_most, number_tests, span_opens}
use Rattle.art_engine.proofs.SpanLemmas.{span_left}
use Rattle.art_engine.proofs.listing.write_numbers_between.Goals as goal

pub range-span-requires : goal.range-span-requires
range-span-requires g c =
    let F = c.args.fields.now in
    let valid = numbers_in_order (tenant_in_place F) (number_in_place F) (bound_in_place F) (c.number_key-low.ensures.tenant, c.number_key-low.ensures.number) (c.number_key-low.ensures.tenant, c.bound_key-high.ensures.bound) c.requires.order in
    let ends = sym (ap₂ (λ a b. (a, b)) c.number_key-low.ensures.value c.bound_key-high.ensures.value) in
    (search rules, (search rules, λ ns r. inr (subst (λ (q : List ℕ × List ℕ). IsLeBy bytes_cmp q.0 q.1) ends valid)))

pub write_pairs-requires : goal.write_pairs-requires
write_pairs-requires g c =
    let F = c.args.fields.now in let t = tenant_in_place F in let low = number_in_place F in let high = bound_in_place F in
    let fits_low : HaveBytes t low = (c.number_key-low.ensures.tenant, c.number_key-low.ensures.number) in
    let fits_high : HaveBytes t high = (c.number_key-low.ensures.tenant, c.bound_key-high.ensures.bound) in
    let ns = c.requires.reads.0 in let r = c.requires.reads.1 in
    let left = span_left _ ns _ _ (c.range-span.ensures.value ns r.read)
    ∙ ap₂ (λ a b. filter (λ (p : NumberPair). range_contains bytes_cmp (Included a) (Included b) p.0) ns) c.number_key-low.ensures.value c.bound_key-high.ensures.value in
    let listed : AllByRecursion IsNumbered (span_pairs c.range-span.new.self.nodes c.range-span.result) = subst (AllByRecursion IsNumbered) (sym left) (all-filter IsNumbered _ ns (are_numbered ns r.are.fit)) in
    let few : length (span_pairs c.range-span.new.self.nodes c.range-span.result) < 2 ^ 64 = subst (λ (l : List NumberPair). length l < 2 ^ 64) (sym left) (left_few under_numbers t _ _ (number_tests t low high fits_low fits_high) ns (number_pairs_stand ns r.are) r.few) in
    search (rules, listed, few)

pub returns-clause-output : goal.returns-clause-output
returns-clause-output g c = λ ns r.
    let F = c.args.fields.now in let t = tenant_in_place F in let low = number_in_place F in let high = bound_in_place F in
    let fits_low : HaveBytes t low = (c.number_key-low.ensures.tenant, c.number_key-low.ensures.number) in
    let fits_high : HaveBytes t high = (c.number_key-low.ensures.tenant, c.bound_key-high.ensures.bound) in
    let left = span_left _ ns _ _ (c.range-span.ensures.value ns r.read)
    ∙ ap₂ (λ a b. filter (λ (p : NumberPair). range_contains bytes_cmp (Included a) (Included b) p.0) ns) c.number_key-low.ensures.value c.bound_key-high.ensures.value in
    let own = ap (map own_number) left ∙ own_left under_numbers t _ _ (number_tests t low high fits_low fits_high) ns (number_pairs_stand ns r.are) in
    subst (λ (text : List ℕ). Writes c.write_pairs.result (g.W.Sink.taken c.args.sink.now) (g.W.Sink.taken c.write_pairs.new.sink) text (g.W.Sink.has_failed c.write_pairs.new.sink)) (list_all own_number signed _ _ own) c.write_pairs.ensures.written

pub returns-clause-visits : goal.returns-clause-visits
returns-clause-visits g c = λ ns r.
    let F = c.args.fields.now in let t = tenant_in_place F in let low = number_in_place F in let high = bound_in_place F in
    let fits_low : HaveBytes t low = (c.number_key-low.ensures.tenant, c.number_key-low.ensures.number) in
    let fits_high : HaveBytes t high = (c.number_key-low.ensures.tenant, c.bound_key-high.ensures.bound) in
    let left = span_left _ ns _ _ (c.range-span.ensures.value ns r.read)
    ∙ ap₂ (λ a b. filter (λ (p : NumberPair). range_contains bytes_cmp (Included a) (Included b) p.0) ns) c.number_key-low.ensures.value c.bound_key-high.ensures.value in
    let opens = span_opens under_numbers ns (number_pairs_stand ns r.are) _ _ g.row.PREFIX_LEN (λ k. Included k) _ _ (pair_key (t, low)) (pair_key (t, high)) c.number_key-low.ensures.value c.bound_key-high.ensures.value (c.range-span.ensures.counts ns r.read) in
    on_ok_weaker c.write_pairs.result (λ is. left_grew under_numbers t _ _ (number_tests t low high fits_low fits_high) ns (number_pairs_stand ns r.are) _ _ _ _ r.few opens
    (subst (λ (l : List NumberPair). GrewBy (length l) c.range-span.new.self.count c.write_pairs.new.records.count) left is)) c.write_pairs.ensures.counts

pub returns-clause-few : goal.returns-clause-few
returns-clause-few g c = λ ns r.
    let F = c.args.fields.now in let t = tenant_in_place F in let low = number_in_place F in let high = bound_in_place F in
    let fits_low : HaveBytes t low = (c.number_key-low.ensures.tenant, c.number_key-low.ensures.number) in
    let fits_high : HaveBytes t high = (c.number_key-low.ensures.tenant, c.bound_key-high.ensures.bound) in
    let left = span_left _ ns _ _ (c.range-span.ensures.value ns r.read)
    ∙ ap₂ (λ a b. filter (λ (p : NumberPair). range_contains bytes_cmp (Included a) (Included b) p.0) ns) c.number_key-low.ensures.value c.bound_key-high.ensures.value in
    let opens = span_opens under_numbers ns (number_pairs_stand ns r.are) _ _ g.row.PREFIX_LEN (λ k. Included k) _ _ (pair_key (t, low)) (pair_key (t, high)) c.number_key-low.ensures.value c.bound_key-high.ensures.value (c.range-span.ensures.counts ns r.read) in
    left_most under_numbers t _ _ (number_tests t low high fits_low fits_high) ns (number_pairs_stand ns r.are) _ _ _ _ r.few opens
    (subst (λ (l : List NumberPair). GrewUpTo (length l) c.range-span.new.self.count c.write_pairs.new.records.count) left c.write_pairs.ensures.few)
