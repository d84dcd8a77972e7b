use Rattle.std.proofs.Common.{◌∙◌, arith}
use Rattle.art_arena.proofs.Common.{begins_with}
use Rattle.art_operations.proofs.Common.{front_convex}
use Rattle.callers.proofs.TreeRuns.{passing-run, stores}
use Rattle.callers.proofs.walks.pairs_under_prefix.Goals as goal

pub new-requires : goal.new-requires
new-requires g c =
    let (s, tree) = c.requires in
    let run = passing-run g.K.AsBytes.bytes 4 c.args.arena.now c.args.root s tree (λ k. begins_with c.args.prefix.now k) (front_convex c.args.prefix.now)
    c.run_between-run.result (rw c.run_between-run.ensures (c.find_prefix_segment.ensures s (stores g.K.AsBytes.bytes 4 c.args.arena.now c.args.root s tree))) in
    (omega arith, (omega arith, (run.0, run.1)))

pub returns : goal.returns
returns g c = λ s tree.
    let run = passing-run g.K.AsBytes.bytes 4 c.args.arena.now c.args.root s tree (λ k. begins_with c.args.prefix.now k) (front_convex c.args.prefix.now)
    c.run_between-run.result (rw c.run_between-run.ensures (c.find_prefix_segment.ensures s (stores g.K.AsBytes.bytes 4 c.args.arena.now c.args.root s tree))) in
    c.new.ensures _ run.1 ∙ run.2
