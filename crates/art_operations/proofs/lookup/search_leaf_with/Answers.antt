use Rattle.std.proofs.Common.{sym, ◌∙◌}
use Rattle.art_operations.proofs.Lookups.{leaf-found, no-leaf, other-leaf}
use Rattle.art_operations.proofs.lookup.search_leaf_with.Goals as goal

pub returns-then-takes_leaf-clause-value : goal.returns-then-takes_leaf-clause-value
returns-then-takes_leaf-clause-value g c = λ s tree.
    leaf-found g.K.AsBytes.bytes c.args.of_prefixes c.args.query.now s _ c.in-Some.landed.leaf.now _ (c.in-Some.ensures.lands s tree) (sym c.takes_leaf.ensures ∙ c.if-takes_leaf.true)

pub returns-else-takes_leaf-clause-value : goal.returns-else-takes_leaf-clause-value
returns-else-takes_leaf-clause-value g c = λ s tree.
    other-leaf g.K.AsBytes.bytes c.args.of_prefixes c.args.query.now s _ c.in-Some.landed.leaf.now _ (c.in-Some.ensures.lands s tree) (sym c.takes_leaf.ensures ∙ c.if-takes_leaf.false)

pub returns-in-None-clause-value : goal.returns-in-None-clause-value
returns-in-None-clause-value g c = λ s tree. no-leaf g.K.AsBytes.bytes c.args.of_prefixes c.args.query.now s (c.in-None.ensures.lands s tree)
