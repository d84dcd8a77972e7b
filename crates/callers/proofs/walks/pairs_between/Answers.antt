use Rattle.std.proofs.Common.{◌∙◌, arith}
use Rattle.std.specs.BTreeMap.Range.{range_contains}
use Rattle.std.specs.Range.Bound.{bound_map}
use Rattle.art_bytes.proofs.Common.{bytes_cmp}
use Rattle.art_operations.proofs.Common.{between_convex}
use Rattle.callers.proofs.TreeRuns.{passing-run, stores}
use Rattle.callers.proofs.walks.pairs_between.Goals as goal

pub new-requires : goal.new-requires
new-requires g c =
    let (s, tree) = c.requires in
    let run = passing-run g.K.AsBytes.bytes 4 c.args.arena.now c.args.root s tree
    (λ k. range_contains bytes_cmp (bound_map (λ key. key.now) c.args.start) (bound_map (λ key. key.now) c.args.end) k) (between_convex (bound_map (λ key. key.now) c.args.start) (bound_map (λ key. key.now) c.args.end))
    c.run_between-run.result (rw c.run_between-run.ensures (c.find_range_segment.ensures s (stores g.K.AsBytes.bytes 4 c.args.arena.now c.args.root s tree) tree.linked)) in
    (omega arith, (omega arith, (run.0, run.1)))

pub returns : goal.returns
returns g c = λ s tree.
    let run = passing-run g.K.AsBytes.bytes 4 c.args.arena.now c.args.root s tree
    (λ k. range_contains bytes_cmp (bound_map (λ key. key.now) c.args.start) (bound_map (λ key. key.now) c.args.end) k) (between_convex (bound_map (λ key. key.now) c.args.start) (bound_map (λ key. key.now) c.args.end))
    c.run_between-run.result (rw c.run_between-run.ensures (c.find_range_segment.ensures s (stores g.K.AsBytes.bytes 4 c.args.arena.now c.args.root s tree) tree.linked)) in
    c.new.ensures _ run.1 ∙ run.2
