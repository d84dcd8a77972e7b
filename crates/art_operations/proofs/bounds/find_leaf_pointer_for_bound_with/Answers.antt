use Rattle.std.proofs.Common.{[], None, sym, ap, ap₂, ◌∙◌, arith}
use Rattle.std.specs.Range.Bound.{bound_map}
use Rattle.art_arena.proofs.Common.{erase, last_slot, leaves}
use Rattle.art_operations.proofs.Terms.{bound_reads, slot_inside}
use Rattle.art_operations.proofs.Nearest.{every_passes}
use Rattle.art_operations.proofs.bounds.find_leaf_pointer_for_bound_with.Goals as goal

pub returns-else-is_start-clause-value : goal.returns-else-is_start-clause-value
returns-else-is_start-clause-value g c = λ s stores linked.
    sym (ap₂ (λ b bound. slot_inside g.K.AsBytes.bytes b (bound_map (λ key. key.now) bound) (leaves s)) c.if-is_start.false c.in-Unbounded.is ∙ ap (last_slot None) (every_passes g.K.AsBytes.bytes (leaves s)) ∙ c.maximum_with.ensures.value [] s stores)

pub returns-then-is_start-clause-few : goal.returns-then-is_start-clause-few
returns-then-is_start-clause-few g c = λ s stores longest short. omega (arith, c.minimum_with.ensures.few [] s stores longest short)

pub returns-else-is_start-clause-few : goal.returns-else-is_start-clause-few
returns-else-is_start-clause-few g c = λ s stores longest short. omega (arith, c.maximum_with.ensures.few [] s stores longest short)

pub returns-then-is_start-clause-counts : goal.returns-then-is_start-clause-counts
returns-then-is_start-clause-counts g c = λ s stores.
    let same = ap₂ (λ b bound. bound_reads g.row.PREFIX_LEN b (erase s) (bound_map (λ key. key.now) bound)) c.if-is_start.true c.in-Unbounded.is in
    omega (arith, same, c.minimum_with.ensures.exact [] s stores)

pub returns-else-is_start-clause-counts : goal.returns-else-is_start-clause-counts
returns-else-is_start-clause-counts g c = λ s stores.
    let same = ap₂ (λ b bound. bound_reads g.row.PREFIX_LEN b (erase s) (bound_map (λ key. key.now) bound)) c.if-is_start.false c.in-Unbounded.is in
    omega (arith, same, c.maximum_with.ensures.exact [] s stores)

pub returns-in-Included-clause-counts : goal.returns-in-Included-clause-counts
returns-in-Included-clause-counts g c = λ s stores.
    let same = ap (λ bound. bound_reads g.row.PREFIX_LEN c.args.is_start (erase s) (bound_map (λ key. key.now) bound)) c.in-Included.is in
    omega (arith, same, c.leaf_inside.ensures.counts s stores)

pub returns-in-Excluded-clause-counts : goal.returns-in-Excluded-clause-counts
returns-in-Excluded-clause-counts g c = λ s stores.
    let same = ap (λ bound. bound_reads g.row.PREFIX_LEN c.args.is_start (erase s) (bound_map (λ key. key.now) bound)) c.in-Excluded.is in
    omega (arith, same, c.leaf_inside-in-Excluded.ensures.counts s stores)
