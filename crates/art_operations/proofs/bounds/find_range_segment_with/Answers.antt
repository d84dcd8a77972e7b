use Rattle.std.proofs.Common.{ℕ, List, false, true, None, Some, IsSome, ◌≡◌, ap, subst, sym, ◌∙◌, arith}
use Rattle.std.specs.BTreeMap.Range.{is_past_end}
use Rattle.std.specs.Range.Bound.{bound_map}
use Rattle.std.specs.declared.ops.Bound.{Bound}
use Rattle.art_bytes.proofs.Common.{bytes_cmp}
use Rattle.art_arena.proofs.Common.{held_at, leaf_held, links_at, leaf_name, AreLinked, leaves, Stores}
use Rattle.art_operations.proofs.Points.{stored_is}
use Rattle.art_operations.proofs.RangeEnds.{ends-between, first-from, first-held, has-last, key-read, none-between, none-from}
use Rattle.art_operations.proofs.RangeEnds.{after-found, after-none, after-past}
use Rattle.art_operations.proofs.bounds.find_range_segment_with.Goals as goal

pub returns-in-None-clause-value : goal.returns-in-None-clause-value
returns-in-None-clause-value g c = λ s stores linked.
    none-from g.K.AsBytes.bytes (bound_map (λ key. key.now) c.args.start) (bound_map (λ key. key.now) c.args.end) (leaves s) (sym (c.in-None.ensures.value s stores linked))

pub visit_leaf-requires : goal.visit_leaf-requires
visit_leaf-requires g c =
    let r = c.requires in (
      omega arith,
      subst (λ a. IsSome (held_at a (leaf_name c.in-Some.first))) (sym c.in-Some.ensures.kept)
          (first-held g.K.AsBytes.bytes g.row.PREFIX_LEN c.args.reader.now.arena.now c.args.root r.0 r.1 (bound_map (λ key. key.now) c.args.start)
          (bound_map (λ key. key.now) c.args.end) c.in-Some.first (sym (c.in-Some.ensures.value r.0 r.1 r.2))),
    )

pub returns-then-is_past-clause-value : goal.returns-then-is_past-clause-value
returns-then-is_past-clause-value g c = λ s stores linked.
    let start : Bound (List ℕ) = bound_map (λ key. key.now) c.args.start in
    let end : Bound (List ℕ) = bound_map (λ key. key.now) c.args.end in
    let found = sym (c.in-Some.ensures.value s stores linked) in
    let at = first-from g.K.AsBytes.bytes g.row.PREFIX_LEN c.args.reader.now.arena.now c.args.root s stores start end c.in-Some.first found in
    let key = key-read g.K.AsBytes.bytes g.row.PREFIX_LEN c.args.reader.now.arena.now c.args.root s stores start end c.in-Some.first found c.as_bytes.result.now
    (λ l held. stored_is g.K.AsBytes.bytes held (subst (λ a. held_at a (leaf_name c.in-Some.first) ≡ Some (leaf_held c.visit_leaf.result.now))
    c.in-Some.ensures.kept c.visit_leaf.ensures.value) c.key_ref.ensures c.as_bytes.ensures.value) in
    let past : is_past_end bytes_cmp end (g.K.AsBytes.bytes at.leaf.key) ≡ true = ap (is_past_end bytes_cmp end) (sym key) ∙ sym c.is_past.ensures ∙ c.if-is_past.true in
    none-between g.K.AsBytes.bytes start end (leaves s) c.in-Some.first at past

pub returns-in-Some-find_leaf_pointer_for_bound_with-clause-value : goal.returns-in-Some-find_leaf_pointer_for_bound_with-clause-value
returns-in-Some-find_leaf_pointer_for_bound_with-clause-value g c = λ s stores linked.
    let start : Bound (List ℕ) = bound_map (λ key. key.now) c.args.start in
    let end : Bound (List ℕ) = bound_map (λ key. key.now) c.args.end in
    let found = sym (c.in-Some.ensures.value s stores linked) in
    let at = first-from g.K.AsBytes.bytes g.row.PREFIX_LEN c.args.reader.now.arena.now c.args.root s stores start end c.in-Some.first found in
    let key = key-read g.K.AsBytes.bytes g.row.PREFIX_LEN c.args.reader.now.arena.now c.args.root s stores start end c.in-Some.first found c.as_bytes.result.now
    (λ l held. stored_is g.K.AsBytes.bytes held (subst (λ a. held_at a (leaf_name c.in-Some.first) ≡ Some (leaf_held c.visit_leaf.result.now))
    c.in-Some.ensures.kept c.visit_leaf.ensures.value) c.key_ref.ensures c.as_bytes.ensures.value) in
    let off : is_past_end bytes_cmp end (g.K.AsBytes.bytes at.leaf.key) ≡ false = ap (is_past_end bytes_cmp end) (sym key) ∙ sym c.is_past.ensures ∙ c.if-is_past.false in
    ends-between g.K.AsBytes.bytes start end (leaves s) c.in-Some.first at off c.in-Some-find_leaf_pointer_for_bound_with.last
    (sym (c.in-Some-find_leaf_pointer_for_bound_with.ensures.value s
    (subst (λ a. Stores g.K.AsBytes.bytes g.row.PREFIX_LEN a c.args.root s) (sym (c.visit_leaf.ensures.kept ∙ c.in-Some.ensures.kept)) stores)
    (subst (λ a. AreLinked (links_at a) None (leaves s) None) (sym (c.visit_leaf.ensures.kept ∙ c.in-Some.ensures.kept)) linked)))

pub returns-in-None-find_leaf_pointer_for_bound_with-clause-value : goal.returns-in-None-find_leaf_pointer_for_bound_with-clause-value
returns-in-None-find_leaf_pointer_for_bound_with-clause-value g c = λ s stores linked.
    let start : Bound (List ℕ) = bound_map (λ key. key.now) c.args.start in
    let end : Bound (List ℕ) = bound_map (λ key. key.now) c.args.end in
    let found = sym (c.in-Some.ensures.value s stores linked) in
    let at = first-from g.K.AsBytes.bytes g.row.PREFIX_LEN c.args.reader.now.arena.now c.args.root s stores start end c.in-Some.first found in
    let key = key-read g.K.AsBytes.bytes g.row.PREFIX_LEN c.args.reader.now.arena.now c.args.root s stores start end c.in-Some.first found c.as_bytes.result.now
    (λ l held. stored_is g.K.AsBytes.bytes held (subst (λ a. held_at a (leaf_name c.in-Some.first) ≡ Some (leaf_held c.visit_leaf.result.now))
    c.in-Some.ensures.kept c.visit_leaf.ensures.value) c.key_ref.ensures c.as_bytes.ensures.value) in
    let off : is_past_end bytes_cmp end (g.K.AsBytes.bytes at.leaf.key) ≡ false = ap (is_past_end bytes_cmp end) (sym key) ∙ sym c.is_past.ensures ∙ c.if-is_past.false in
    absurd (has-last g.K.AsBytes.bytes start end (leaves s) c.in-Some.first at off
    (sym (c.in-None-find_leaf_pointer_for_bound_with.ensures.value s
    (subst (λ a. Stores g.K.AsBytes.bytes g.row.PREFIX_LEN a c.args.root s) (sym (c.visit_leaf.ensures.kept ∙ c.in-Some.ensures.kept)) stores)
    (subst (λ a. AreLinked (links_at a) None (leaves s) None) (sym (c.visit_leaf.ensures.kept ∙ c.in-Some.ensures.kept)) linked))))

pub find_leaf_pointer_for_bound_with-requires-2 : goal.find_leaf_pointer_for_bound_with-requires-2
find_leaf_pointer_for_bound_with-requires-2 g c =
    let r = c.requires in
    let kept = sym (c.visit_leaf.ensures.kept ∙ c.in-Some.ensures.kept) in
    (omega arith, (r.0, subst (λ a. Stores g.K.AsBytes.bytes g.row.PREFIX_LEN a c.args.root r.0) kept r.1, subst (λ a. AreLinked (links_at a) None (leaves r.0) None) kept r.2))

pub returns-in-None-clause-few : goal.returns-in-None-clause-few
returns-in-None-clause-few g c = λ s stores longest short. omega (arith, c.in-None.ensures.few s stores longest short)

pub returns-then-is_past-clause-few : goal.returns-then-is_past-clause-few
returns-then-is_past-clause-few g c = λ s stores longest short. omega (arith, c.in-Some.ensures.few s stores longest short, c.visit_leaf.ensures.counts)

pub returns-in-Some-find_leaf_pointer_for_bound_with-clause-few : goal.returns-in-Some-find_leaf_pointer_for_bound_with-clause-few
returns-in-Some-find_leaf_pointer_for_bound_with-clause-few g c = λ s stores longest short.
    let there = subst (λ a. Stores g.K.AsBytes.bytes g.row.PREFIX_LEN a c.args.root s) (sym (c.visit_leaf.ensures.kept ∙ c.in-Some.ensures.kept)) stores in
    omega (arith, c.in-Some.ensures.few s stores longest short, c.visit_leaf.ensures.counts, c.in-Some-find_leaf_pointer_for_bound_with.ensures.few s there longest short)

pub returns-in-None-find_leaf_pointer_for_bound_with-clause-few : goal.returns-in-None-find_leaf_pointer_for_bound_with-clause-few
returns-in-None-find_leaf_pointer_for_bound_with-clause-few g c = λ s stores longest short.
    let there = subst (λ a. Stores g.K.AsBytes.bytes g.row.PREFIX_LEN a c.args.root s) (sym (c.visit_leaf.ensures.kept ∙ c.in-Some.ensures.kept)) stores in
    omega (arith, c.in-Some.ensures.few s stores longest short, c.visit_leaf.ensures.counts, c.in-None-find_leaf_pointer_for_bound_with.ensures.few s there longest short)

pub returns-in-None-clause-counts : goal.returns-in-None-clause-counts
returns-in-None-clause-counts g c = λ s stores linked.
    let start : Bound (List ℕ) = bound_map (λ key. key.now) c.args.start in
    let end : Bound (List ℕ) = bound_map (λ key. key.now) c.args.end in
    omega (arith, after-none g.K.AsBytes.bytes g.row.PREFIX_LEN start end s (sym (c.in-None.ensures.value s stores linked)), c.in-None.ensures.counts s stores)

pub returns-then-is_past-clause-counts : goal.returns-then-is_past-clause-counts
returns-then-is_past-clause-counts g c = λ s stores linked.
    let start : Bound (List ℕ) = bound_map (λ key. key.now) c.args.start in
    let end : Bound (List ℕ) = bound_map (λ key. key.now) c.args.end in
    let found = sym (c.in-Some.ensures.value s stores linked) in
    let at = first-from g.K.AsBytes.bytes g.row.PREFIX_LEN c.args.reader.now.arena.now c.args.root s stores start end c.in-Some.first found in
    let key = key-read g.K.AsBytes.bytes g.row.PREFIX_LEN c.args.reader.now.arena.now c.args.root s stores start end c.in-Some.first found c.as_bytes.result.now
    (λ l held. stored_is g.K.AsBytes.bytes held (subst (λ a. held_at a (leaf_name c.in-Some.first) ≡ Some (leaf_held c.visit_leaf.result.now))
    c.in-Some.ensures.kept c.visit_leaf.ensures.value) c.key_ref.ensures c.as_bytes.ensures.value) in
    let past : is_past_end bytes_cmp end (g.K.AsBytes.bytes at.leaf.key) ≡ true = ap (is_past_end bytes_cmp end) (sym key) ∙ sym c.is_past.ensures ∙ c.if-is_past.true in
    omega (arith, after-past g.K.AsBytes.bytes g.row.PREFIX_LEN start end s c.in-Some.first at past, c.in-Some.ensures.counts s stores, c.visit_leaf.ensures.counts)

pub returns-in-Some-find_leaf_pointer_for_bound_with-clause-counts : goal.returns-in-Some-find_leaf_pointer_for_bound_with-clause-counts
returns-in-Some-find_leaf_pointer_for_bound_with-clause-counts g c = λ s stores linked.
    let start : Bound (List ℕ) = bound_map (λ key. key.now) c.args.start in
    let end : Bound (List ℕ) = bound_map (λ key. key.now) c.args.end in
    let found = sym (c.in-Some.ensures.value s stores linked) in
    let at = first-from g.K.AsBytes.bytes g.row.PREFIX_LEN c.args.reader.now.arena.now c.args.root s stores start end c.in-Some.first found in
    let key = key-read g.K.AsBytes.bytes g.row.PREFIX_LEN c.args.reader.now.arena.now c.args.root s stores start end c.in-Some.first found c.as_bytes.result.now
    (λ l held. stored_is g.K.AsBytes.bytes held (subst (λ a. held_at a (leaf_name c.in-Some.first) ≡ Some (leaf_held c.visit_leaf.result.now))
    c.in-Some.ensures.kept c.visit_leaf.ensures.value) c.key_ref.ensures c.as_bytes.ensures.value) in
    let off : is_past_end bytes_cmp end (g.K.AsBytes.bytes at.leaf.key) ≡ false = ap (is_past_end bytes_cmp end) (sym key) ∙ sym c.is_past.ensures ∙ c.if-is_past.false in
    let there = subst (λ a. Stores g.K.AsBytes.bytes g.row.PREFIX_LEN a c.args.root s) (sym (c.visit_leaf.ensures.kept ∙ c.in-Some.ensures.kept)) stores in
    omega (arith, after-found g.K.AsBytes.bytes g.row.PREFIX_LEN start end s c.in-Some.first at off, c.in-Some.ensures.counts s stores, c.visit_leaf.ensures.counts, c.in-Some-find_leaf_pointer_for_bound_with.ensures.counts s there)

pub returns-in-None-find_leaf_pointer_for_bound_with-clause-counts : goal.returns-in-None-find_leaf_pointer_for_bound_with-clause-counts
returns-in-None-find_leaf_pointer_for_bound_with-clause-counts g c = λ s stores linked.
    let start : Bound (List ℕ) = bound_map (λ key. key.now) c.args.start in
    let end : Bound (List ℕ) = bound_map (λ key. key.now) c.args.end in
    let found = sym (c.in-Some.ensures.value s stores linked) in
    let at = first-from g.K.AsBytes.bytes g.row.PREFIX_LEN c.args.reader.now.arena.now c.args.root s stores start end c.in-Some.first found in
    let key = key-read g.K.AsBytes.bytes g.row.PREFIX_LEN c.args.reader.now.arena.now c.args.root s stores start end c.in-Some.first found c.as_bytes.result.now
    (λ l held. stored_is g.K.AsBytes.bytes held (subst (λ a. held_at a (leaf_name c.in-Some.first) ≡ Some (leaf_held c.visit_leaf.result.now))
    c.in-Some.ensures.kept c.visit_leaf.ensures.value) c.key_ref.ensures c.as_bytes.ensures.value) in
    let off : is_past_end bytes_cmp end (g.K.AsBytes.bytes at.leaf.key) ≡ false = ap (is_past_end bytes_cmp end) (sym key) ∙ sym c.is_past.ensures ∙ c.if-is_past.false in
    let there = subst (λ a. Stores g.K.AsBytes.bytes g.row.PREFIX_LEN a c.args.root s) (sym (c.visit_leaf.ensures.kept ∙ c.in-Some.ensures.kept)) stores in
    omega (arith, after-found g.K.AsBytes.bytes g.row.PREFIX_LEN start end s c.in-Some.first at off, c.in-Some.ensures.counts s stores, c.visit_leaf.ensures.counts, c.in-None-find_leaf_pointer_for_bound_with.ensures.counts s there)
