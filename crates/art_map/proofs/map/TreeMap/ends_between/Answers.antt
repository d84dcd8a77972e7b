use Rattle.std.proofs.Common.{ℕ, List, false, true, ◌≡◌, sym, ap, ◌∙◌, arith}
use Rattle.std.specs.BTreeMap.Range.{is_past_end}
use Rattle.std.specs.Map.Iter.{deref_pair}
use Rattle.std.specs.Range.Bound.{bound_map}
use Rattle.std.specs.declared.ops.Bound.{Bound}
use Rattle.art_bytes.proofs.Common.{bytes_cmp}
use Rattle.art_arena.proofs.Common.{held_at, leaf_name}
use Rattle.art_operations.proofs.Common.{held-some}
use Rattle.art_operations.proofs.RangeEnds.{ends-between, has-last, none-between, none-from}
use Rattle.art_map.proofs.LeafRuns.{not-false, not-true, start-held, start-read, starts}
use Rattle.art_map.proofs.map.TreeMap.ends_between.Goals as goal

pub returns-in-None : goal.returns-in-None
returns-in-None g c = λ ls are.
    none-from g.K.AsBytes.bytes (bound_map (λ key. key.now) c.args.start) (bound_map (λ key. key.now) c.args.end) ls (sym (c.in-None.ensures ls are))

pub pair_at-requires : goal.pair_at-requires
pair_at-requires g c =
    let nodes = c.args.self.now.nodes in
    let ls = c.some_leaves.ensures.0 in
    let are = c.some_leaves.ensures.1 in (
      omega arith,
      held-some (held_at nodes (leaf_name c.in-Some.first)) _
          (start-held g.K.AsBytes.bytes nodes g.row.PREFIX_LEN (bound_map (λ key. key.now) c.args.start) (bound_map (λ key. key.now) c.args.end) c.args.self.now.root ls are.has c.in-Some.first (c.in-Some.ensures ls are)),
    )

pub returns-then-not-is_inside : goal.returns-then-not-is_inside
returns-then-not-is_inside g c = λ ls are.
    let start : Bound (List ℕ) = bound_map (λ key. key.now) c.args.start in
    let end : Bound (List ℕ) = bound_map (λ key. key.now) c.args.end in
    let nodes = c.args.self.now.nodes in
    let at = starts g.K.AsBytes.bytes nodes g.row.PREFIX_LEN start end c.args.self.now.root ls are.has c.in-Some.first (c.in-Some.ensures ls are) in
    let read = start-read g.K.AsBytes.bytes nodes g.row.PREFIX_LEN start end c.args.self.now.root ls are.has c.in-Some.first (c.in-Some.ensures ls are) (deref_pair c.pair_at.result) c.pair_at.ensures in
    let key = c.as_bytes.ensures.value ∙ ap g.K.AsBytes.bytes read in
    let past : is_past_end bytes_cmp end (g.K.AsBytes.bytes at.leaf.key) ≡ true =
    ap (is_past_end bytes_cmp end) (sym key) ∙ not-false (is_past_end bytes_cmp end c.as_bytes.result.now) (sym c.is_inside.ensures ∙ c.if-not-is_inside.true) in
    none-between g.K.AsBytes.bytes start end ls c.in-Some.first at past

pub returns-in-Some-leaf_inside : goal.returns-in-Some-leaf_inside
returns-in-Some-leaf_inside g c = λ ls are.
    let start : Bound (List ℕ) = bound_map (λ key. key.now) c.args.start in
    let end : Bound (List ℕ) = bound_map (λ key. key.now) c.args.end in
    let nodes = c.args.self.now.nodes in
    let at = starts g.K.AsBytes.bytes nodes g.row.PREFIX_LEN start end c.args.self.now.root ls are.has c.in-Some.first (c.in-Some.ensures ls are) in
    let read = start-read g.K.AsBytes.bytes nodes g.row.PREFIX_LEN start end c.args.self.now.root ls are.has c.in-Some.first (c.in-Some.ensures ls are) (deref_pair c.pair_at.result) c.pair_at.ensures in
    let key = c.as_bytes.ensures.value ∙ ap g.K.AsBytes.bytes read in
    let off : is_past_end bytes_cmp end (g.K.AsBytes.bytes at.leaf.key) ≡ false =
    ap (is_past_end bytes_cmp end) (sym key) ∙ not-true (is_past_end bytes_cmp end c.as_bytes.result.now) (sym c.is_inside.ensures ∙ c.if-not-is_inside.false) in
    ends-between g.K.AsBytes.bytes start end ls c.in-Some.first at off c.in-Some-leaf_inside.last (sym (c.in-Some-leaf_inside.ensures ls are))

pub returns-in-None-leaf_inside : goal.returns-in-None-leaf_inside
returns-in-None-leaf_inside g c = λ ls are.
    let start : Bound (List ℕ) = bound_map (λ key. key.now) c.args.start in
    let end : Bound (List ℕ) = bound_map (λ key. key.now) c.args.end in
    let nodes = c.args.self.now.nodes in
    let at = starts g.K.AsBytes.bytes nodes g.row.PREFIX_LEN start end c.args.self.now.root ls are.has c.in-Some.first (c.in-Some.ensures ls are) in
    let read = start-read g.K.AsBytes.bytes nodes g.row.PREFIX_LEN start end c.args.self.now.root ls are.has c.in-Some.first (c.in-Some.ensures ls are) (deref_pair c.pair_at.result) c.pair_at.ensures in
    let key = c.as_bytes.ensures.value ∙ ap g.K.AsBytes.bytes read in
    let off : is_past_end bytes_cmp end (g.K.AsBytes.bytes at.leaf.key) ≡ false =
    ap (is_past_end bytes_cmp end) (sym key) ∙ not-true (is_past_end bytes_cmp end c.as_bytes.result.now) (sym c.is_inside.ensures ∙ c.if-not-is_inside.false) in
    absurd (has-last g.K.AsBytes.bytes start end ls c.in-Some.first at off (sym (c.in-None-leaf_inside.ensures ls are)))
