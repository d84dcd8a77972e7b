use Rattle.std.proofs.Common.{◌≢◌, IsSome, refl, sym, subst}
use Rattle.art_nodes.specs.declared.kind.NodeType.TheVariants.{Leaf}
use Rattle.art_arena.proofs.Common.{links-kept}
use Rattle.art_operations.proofs.NewNodes.{held_inner}
use Rattle.art_operations.proofs.insert.split.trim.Goals as goal

pub returns-in-Some-clause-links : goal.returns-in-Some-clause-links
returns-in-Some-clause-links g c = λ slot.
    let inner : c.args.node.kind ≢ Leaf = c.requires.inner (subst IsSome (sym c.in-Some.is) refl) in
    let there = held_inner c.args.arena.now c.args.node c.requires.held inner in
    links-kept c.args.arena.now c.edit_inner.new.self c.args.node _ (c.edit_inner.ensures.updates there.0 there.1) inner slot
