use Rattle.std.proofs.Common.{◌≡◌, Some, sym, subst, arith, lit<}
use Rattle.art_arena.proofs.Terms.{held_at, leaf_held, leaf_name, IsReadAt}
use Rattle.art_arena.proofs.reader.first_below.Goals as goal

pub walk_below-first-requires : goal.walk_below-first-requires
walk_below-first-requires g c =
    let r = c.requires in
    (lit< tt, (lit< tt, (r.0, r.1, r.2, r.3, subst (λ a. IsReadAt g.K.AsBytes.bytes g.row.PREFIX_LEN a c.args.inner.now.node r.0 r.1 r.2 r.3) (sym c.new-further.ensures.arena) r.4)))

pub returns-clause-value : goal.returns-clause-value
returns-clause-value g c = λ root depth path s at.
    c.walk_below-first.ensures.value root depth path s (subst (λ a. IsReadAt g.K.AsBytes.bytes g.row.PREFIX_LEN a c.args.inner.now.node root depth path s) (sym c.new-further.ensures.arena) at)

pub returns-clause-few : goal.returns-clause-few
returns-clause-few g c = λ root depth path s at longest short.
    let few = c.walk_below-first.ensures.few root depth path s (subst (λ a. IsReadAt g.K.AsBytes.bytes g.row.PREFIX_LEN a c.args.inner.now.node root depth path s) (sym c.new-further.ensures.arena) at) longest short in
    omega (arith, few, c.new-further.ensures.count, c.saturating_add-reader.ensures)

pub returns-clause-counts : goal.returns-clause-counts
returns-clause-counts g c = λ root depth path s at slot leaf first held.
    let reads = c.walk_below-first.ensures.counts root depth path s
    (subst (λ a. IsReadAt g.K.AsBytes.bytes g.row.PREFIX_LEN a c.args.inner.now.node root depth path s) (sym c.new-further.ensures.arena) at) slot leaf
    first (subst (λ a. held_at a (leaf_name slot) ≡ Some (leaf_held leaf)) (sym c.new-further.ensures.arena) held) in
    omega (arith, reads, c.new-further.ensures.count, c.saturating_add-reader.ensures)

pub returns-clause-least : goal.returns-clause-least
returns-clause-least g c = omega (arith, c.walk_below-first.ensures.least, c.new-further.ensures.count, c.saturating_add-reader.ensures)

pub returns-clause-exact : goal.returns-clause-exact
returns-clause-exact g c = λ root depth path s at.
    let exact = c.walk_below-first.ensures.exact root depth path s (subst (λ a. IsReadAt g.K.AsBytes.bytes g.row.PREFIX_LEN a c.args.inner.now.node root depth path s) (sym c.new-further.ensures.arena) at) in
    omega (arith, exact, c.new-further.ensures.count, c.saturating_add-reader.ensures)
