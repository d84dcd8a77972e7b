use Rattle.std.proofs.Common.{rules, arith, ◌≡◌, ℕ, List, ◌≢◌, ◌<◌, ◌^◌, [], length, refl, sym, ap, ap₂, subst, ◌∙◌}
use Rattle.std.specs.Global.{Vec}
use Rattle.std.specs.Int.{to_be_bytes, w32}
use Rattle.art_arena.proofs.Common.{with_front, without_front}
use Rattle.art_operations.proofs.Common.{ShrinksWithout}
use Rattle.art_map.specs.PrefixBlocks.{cut_reads}
use Rattle.art_engine.proofs.Terms.{Pair, NumberPair, ArePairs, AreNumberPairs}
use Rattle.art_lines.proofs.Common.{full_key, tenant_in_place}
use Rattle.art_engine.proofs.Conflicts.{bytes_of}
use Rattle.art_engine.proofs.NumberPlaces.{number_bytes}
use Rattle.art_engine.proofs.DroppedTenants.{drop_same, same_pairs, same_number_pairs, keys_kept, numbers_kept, keys_refused, numbers_refused, drop_done, drop_counts, visits_same}
use Rattle.art_engine.proofs.records.drop_tenant.drop_tenant.Goals as goal

pub returns-in_default-clause-done : goal.returns-in_default-clause-done
returns-in_default-clause-done g c =
    let ps = c.args.records.now.pairs in let ns = c.args.numbers.now.pairs in let t = tenant_in_place c.args.fields.now in
    let small : t < 2 ^ 32 = let is = c.tenant.ensures in let fits = c.tenant.type_inv in omega arith in
    let front : c.to_be_bytes-prefix.result ≡ full_key t [] = c.to_be_bytes-prefix.ensures ∙ ap (to_be_bytes w32) c.tenant.ensures in
    keys_refused t small ps ns c.requires.held c.requires.numbers _ ns g.row.PREFIX_LEN (search rules) refl
    (subst (λ f. (with_front bytes_of f ps ≢ []) × ShrinksWithout bytes_of ps f) front c.in_default.ensures.shrinks)

pub returns-in-Ok-prepare_remove_prefix-clause-held : goal.returns-in-Ok-prepare_remove_prefix-clause-held
returns-in-Ok-prepare_remove_prefix-clause-held g c =
    let ps = c.args.records.now.pairs in let ns = c.args.numbers.now.pairs in let t = tenant_in_place c.args.fields.now in
    let small : t < 2 ^ 32 = let is = c.tenant.ensures in let fits = c.tenant.type_inv in omega arith in
    let front : c.to_be_bytes-prefix.result ≡ full_key t [] = c.to_be_bytes-prefix.ensures ∙ ap (to_be_bytes w32) c.tenant.ensures in
    let left : c.apply.new.self.0.pairs ≡ without_front bytes_of (full_key t []) ps =
    c.apply.ensures.pairs ∙ ap₂ (λ f (qs : List Pair). without_front bytes_of f qs) (c.in-Ok.ensures.prefix ∙ front) c.in-Ok.ensures.same in
    same_pairs _ c.apply.new.self.0.pairs (search rules) (subst ArePairs (sym left) (keys_kept t small ps ns c.requires.held c.requires.numbers))

pub returns-in-Ok-prepare_remove_prefix-clause-numbers : goal.returns-in-Ok-prepare_remove_prefix-clause-numbers
returns-in-Ok-prepare_remove_prefix-clause-numbers g c =
    let ps = c.args.records.now.pairs in let ns = c.args.numbers.now.pairs in let t = tenant_in_place c.args.fields.now in
    let small : t < 2 ^ 32 = let is = c.tenant.ensures in let fits = c.tenant.type_inv in omega arith in
    let front : c.to_be_bytes-prefix.result ≡ full_key t [] = c.to_be_bytes-prefix.ensures ∙ ap (to_be_bytes w32) c.tenant.ensures in
    let left : c.apply-in-Ok-prepare_remove_prefix.new.self.0.pairs ≡ without_front number_bytes (full_key t []) ns =
    c.apply-in-Ok-prepare_remove_prefix.ensures.pairs
    ∙ ap₂ (λ f (qs : List NumberPair). without_front number_bytes f qs) (c.in-Ok-prepare_remove_prefix.ensures.prefix ∙ front) c.in-Ok-prepare_remove_prefix.ensures.same in
    same_number_pairs _ c.apply-in-Ok-prepare_remove_prefix.new.self.0.pairs (search rules)
    (subst AreNumberPairs (sym left) (numbers_kept t small ps ns c.requires.held c.requires.numbers))

pub returns-in-Ok-prepare_remove_prefix-clause-done : goal.returns-in-Ok-prepare_remove_prefix-clause-done
returns-in-Ok-prepare_remove_prefix-clause-done g c =
    let ps = c.args.records.now.pairs in let ns = c.args.numbers.now.pairs in let t = tenant_in_place c.args.fields.now in
    let small : t < 2 ^ 32 = let is = c.tenant.ensures in let fits = c.tenant.type_inv in omega arith in
    let front : c.to_be_bytes-prefix.result ≡ full_key t [] = c.to_be_bytes-prefix.ensures ∙ ap (to_be_bytes w32) c.tenant.ensures in
    let left : c.apply.new.self.0.pairs ≡ without_front bytes_of (full_key t []) ps =
    c.apply.ensures.pairs ∙ ap₂ (λ f (qs : List Pair). without_front bytes_of f qs) (c.in-Ok.ensures.prefix ∙ front) c.in-Ok.ensures.same in
    let others_left : c.apply-in-Ok-prepare_remove_prefix.new.self.0.pairs ≡ without_front number_bytes (full_key t []) ns =
    c.apply-in-Ok-prepare_remove_prefix.ensures.pairs
    ∙ ap₂ (λ f (qs : List NumberPair). without_front number_bytes f qs) (c.in-Ok-prepare_remove_prefix.ensures.prefix ∙ front) c.in-Ok-prepare_remove_prefix.ensures.same in
    let keys : c.apply.result.pairs ≡ length (with_front bytes_of (full_key t []) ps) =
    c.apply.ensures.count ∙ ap₂ (λ f (qs : List Pair). length (with_front bytes_of f qs)) (c.in-Ok.ensures.prefix ∙ front) c.in-Ok.ensures.same in
    let others : c.apply-in-Ok-prepare_remove_prefix.result.pairs ≡ length (with_front number_bytes (full_key t []) ns) =
    c.apply-in-Ok-prepare_remove_prefix.ensures.count
    ∙ ap₂ (λ f (qs : List NumberPair). length (with_front number_bytes f qs)) (c.in-Ok-prepare_remove_prefix.ensures.prefix ∙ front) c.in-Ok-prepare_remove_prefix.ensures.same in
    let P = g.row.PREFIX_LEN in
    let found = c.in-Ok.ensures.counts ∙ ap (λ f. cut_reads (λ (k : Vec ℕ). k.items) P f ps) front in
    let others_found = c.in-Ok-prepare_remove_prefix.ensures.counts ∙ ap (λ f. cut_reads (λ (k : List ℕ). k) P f ns) front in
    let read = visits_same (λ (k : Vec ℕ). k.items) c.apply.result.visits _ _ (full_key t []) _ ps (c.in-Ok.ensures.prefix ∙ front) c.in-Ok.ensures.same c.apply.ensures.visits in
    let others_read = visits_same (λ (k : List ℕ). k) c.apply-in-Ok-prepare_remove_prefix.result.visits _ _ (full_key t []) _ ns (c.in-Ok-prepare_remove_prefix.ensures.prefix ∙ front) c.in-Ok-prepare_remove_prefix.ensures.same c.apply-in-Ok-prepare_remove_prefix.ensures.visits in
    drop_same P c.sum_removed.result _ t _ _ c.sum_removed.ensures
    (drop_done t small ps ns c.requires.held c.requires.numbers _ _ P c.apply.result.pairs c.apply-in-Ok-prepare_remove_prefix.result.pairs _
    (◌∙◌ {b = c.apply.new.self.0.pairs} (search rules) left) (◌∙◌ {b = c.apply-in-Ok-prepare_remove_prefix.new.self.0.pairs} (search rules) others_left) keys others
    (drop_counts t small ps ns c.requires.held c.requires.numbers P c.apply.result.visits c.apply-in-Ok-prepare_remove_prefix.result.visits _ _ _
    read others_read found others_found refl))

pub returns-in-Err-clause-done : goal.returns-in-Err-clause-done
returns-in-Err-clause-done g c =
    let ps = c.args.records.now.pairs in let ns = c.args.numbers.now.pairs in let t = tenant_in_place c.args.fields.now in
    let small : t < 2 ^ 32 = let is = c.tenant.ensures in let fits = c.tenant.type_inv in omega arith in
    let front : c.to_be_bytes-prefix.result ≡ full_key t [] = c.to_be_bytes-prefix.ensures ∙ ap (to_be_bytes w32) c.tenant.ensures in
    numbers_refused t small ps ns c.requires.held c.requires.numbers _ _ g.row.PREFIX_LEN (search rules) (search rules)
    (subst (λ f. (with_front number_bytes f ns ≢ []) × ShrinksWithout number_bytes ns f) front c.in-Err.ensures.shrinks)
