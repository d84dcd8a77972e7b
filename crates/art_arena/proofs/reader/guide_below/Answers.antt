use Rattle.std.proofs.Common.{sym, subst, arith}
use Rattle.art_arena.proofs.Terms.{IsReadAt}
use Rattle.art_arena.proofs.reader.guide_below.Goals as goal

pub returns-clause-few : goal.returns-clause-few
returns-clause-few g c = λ root path s at longest short.
    let few = c.walk_on-leaf.ensures.few root path s (subst (λ a. IsReadAt g.K.AsBytes.bytes g.row.PREFIX_LEN a c.args.inner.now.node root c.args.depth path s) (sym c.new-along.ensures.arena) at) longest short in
    omega (arith, few, c.new-along.ensures.count, c.saturating_add-reader.ensures)

pub returns-clause-counts : goal.returns-clause-counts
returns-clause-counts g c = λ root path s at.
    let counts = c.walk_on-leaf.ensures.counts root path s (subst (λ a. IsReadAt g.K.AsBytes.bytes g.row.PREFIX_LEN a c.args.inner.now.node root c.args.depth path s) (sym c.new-along.ensures.arena) at) in
    omega (arith, counts, c.new-along.ensures.count, c.saturating_add-reader.ensures)
