use Rattle.std.proofs.Common.{◌≢◌, refl, sym, ap, ◌∙◌, length, lit<}
use Rattle.art_nodes.proofs.Common.{IsAscending}
use Rattle.art_nodes.specs.declared.kind.NodeType.TheVariants.{Leaf}
use Rattle.art_operations.proofs.Terms.{IsChildIn}
use Rattle.art_operations.proofs.NodesRead.{read_at, so_at}
use Rattle.art_operations.proofs.FreeSteps.{part-inner, node_in}
use Rattle.art_operations.proofs.FreedOne.{leaf-childless, inner-childless, freed-childless, freed-single, lessened, taken, taken-out, freed-child, kept-child}
use Rattle.art_operations.proofs.deallocate.free_one.Goals as goal

pub returns-then-is-clause-freed : goal.returns-then-is-clause-freed
returns-then-is-clause-freed g c = λ s rest part.
    freed-childless g.row.PREFIX_LEN c.args.with_leaves c.args.arena.now c.args.root s rest part c.free_node.new.arena (leaf-childless g.row.PREFIX_LEN c.args.with_leaves c.args.arena.now c.args.root s rest part (c.is.ensures.0 c.if-is.true)) (c.free_node.ensures.freed s rest part)

pub returns-in-None-clause-freed : goal.returns-in-None-clause-freed
returns-in-None-clause-freed g c = λ s rest part.
    let other : c.args.root.kind ≢ Leaf = λ e. let h = c.is.ensures.1 e in cc in
    let inner = part-inner g.row.PREFIX_LEN c.args.with_leaves c.args.arena.now c.args.root s rest part other in
    let none = rw c.in-None.is at (so_at (λ xs. IsChildIn xs c.child_below.result) _ _ (node_in g.row.PREFIX_LEN c.args.with_leaves c.args.arena.now inner.prefix inner.kids) c.inner-inner.ensures.value inner.there _ refl c.child_below.ensures) in
    freed-childless g.row.PREFIX_LEN c.args.with_leaves c.args.arena.now c.args.root s rest part c.free_node-in-None.new.arena (inner-childless g.row.PREFIX_LEN c.args.with_leaves c.args.arena.now c.args.root s rest part inner none) (c.free_node-in-None.ensures.freed s rest part)

pub returns-then-count-eq1-clause-freed : goal.returns-then-count-eq1-clause-freed
returns-then-count-eq1-clause-freed g c = λ s rest part.
    let other : c.args.root.kind ≢ Leaf = λ e. let h = c.is.ensures.1 e in cc in
    let inner = part-inner g.row.PREFIX_LEN c.args.with_leaves c.args.arena.now c.args.root s rest part other in
    let found = rw c.in-Some.is at (so_at (λ xs. IsChildIn xs c.child_below.result) _ _ (node_in g.row.PREFIX_LEN c.args.with_leaves c.args.arena.now inner.prefix inner.kids) c.inner-inner.ensures.value inner.there _ refl c.child_below.ensures) in
    let one = sym (read_at (λ m. length m.children) _ (node_in g.row.PREFIX_LEN c.args.with_leaves c.args.arena.now inner.prefix inner.kids) _ inner.there
    c.inner-inner.ensures.value _ (c.num_children-count.ensures.value ∙ ap (λ h. h.num_children) c.header.ensures.value
    ∙ c.header.ensures.is_inner_node.counts)) ∙ c.if-count-eq1.true in
    freed-single g.row.PREFIX_LEN c.args.with_leaves c.args.arena.now c.args.root s rest part c.free_node-then-count-eq1.new.arena inner c.in-Some.child found one (c.free_node-then-count-eq1.ensures.freed s rest part)

pub hang-left-requires : goal.hang-left-requires
hang-left-requires g c =
    let r = c.requires in
    let other : c.args.root.kind ≢ Leaf = λ e. let h = c.is.ensures.1 e in cc in
    let inner = part-inner g.row.PREFIX_LEN c.args.with_leaves c.args.arena.now c.args.root r.0 r.1 r.2 other in
    let found = rw c.in-Some.is at (so_at (λ xs. IsChildIn xs c.child_below.result) _ _ (node_in g.row.PREFIX_LEN c.args.with_leaves c.args.arena.now inner.prefix inner.kids) c.inner-inner.ensures.value inner.there _ refl c.child_below.ensures) in
    let up = so_at IsAscending _ _ (node_in g.row.PREFIX_LEN c.args.with_leaves c.args.arena.now inner.prefix inner.kids) c.inner-inner.ensures.value inner.there _ refl c.header.ensures.is_inner_node.ascending in (
      lit< tt,
      (
        lessened g.row.PREFIX_LEN c.args.with_leaves c.args.arena.now c.args.root r.0 r.1 r.2 c.edit_inner.new.self inner c.in-Some.child found up
            c.edit_inner.ensures.updates,
        taken g.row.PREFIX_LEN c.args.with_leaves c.args.arena.now c.args.root r.0 r.1 r.2 c.edit_inner.new.self inner
            c.in-Some.child found up c.edit_inner.ensures.updates,
        r.1,
        taken-out g.row.PREFIX_LEN c.args.with_leaves c.args.arena.now c.args.root r.0 r.1 r.2 c.edit_inner.new.self inner c.in-Some.child found up
            c.edit_inner.ensures.updates,
      ),
    )

pub returns-else-count-eq1-clause-freed : goal.returns-else-count-eq1-clause-freed
returns-else-count-eq1-clause-freed g c = λ s rest part.
    let other : c.args.root.kind ≢ Leaf = λ e. let h = c.is.ensures.1 e in cc in
    let inner = part-inner g.row.PREFIX_LEN c.args.with_leaves c.args.arena.now c.args.root s rest part other in
    let found = rw c.in-Some.is at (so_at (λ xs. IsChildIn xs c.child_below.result) _ _ (node_in g.row.PREFIX_LEN c.args.with_leaves c.args.arena.now inner.prefix inner.kids) c.inner-inner.ensures.value inner.there _ refl c.child_below.ensures) in
    let up = so_at IsAscending _ _ (node_in g.row.PREFIX_LEN c.args.with_leaves c.args.arena.now inner.prefix inner.kids) c.inner-inner.ensures.value inner.there _ refl c.header.ensures.is_inner_node.ascending in
    freed-child g.row.PREFIX_LEN c.args.with_leaves c.args.arena.now c.args.root s rest part c.edit_inner.new.self inner c.in-Some.child found up
    c.edit_inner.ensures.updates c.hang-left.new.arena c.hang-left.result
    (c.hang-left.ensures.freed _ _ rest (taken-out g.row.PREFIX_LEN c.args.with_leaves c.args.arena.now c.args.root s rest part c.edit_inner.new.self inner
    c.in-Some.child found up c.edit_inner.ensures.updates))

pub returns-else-count-eq1-clause-kept : goal.returns-else-count-eq1-clause-kept
returns-else-count-eq1-clause-kept g c = λ s rest part.
    let other : c.args.root.kind ≢ Leaf = λ e. let h = c.is.ensures.1 e in cc in
    let inner = part-inner g.row.PREFIX_LEN c.args.with_leaves c.args.arena.now c.args.root s rest part other in
    let found = rw c.in-Some.is at (so_at (λ xs. IsChildIn xs c.child_below.result) _ _ (node_in g.row.PREFIX_LEN c.args.with_leaves c.args.arena.now inner.prefix inner.kids) c.inner-inner.ensures.value inner.there _ refl c.child_below.ensures) in
    let up = so_at IsAscending _ _ (node_in g.row.PREFIX_LEN c.args.with_leaves c.args.arena.now inner.prefix inner.kids) c.inner-inner.ensures.value inner.there _ refl c.header.ensures.is_inner_node.ascending in
    kept-child g.row.PREFIX_LEN c.args.with_leaves c.args.arena.now c.args.root s rest part c.edit_inner.new.self inner c.in-Some.child found up
    c.edit_inner.ensures.updates c.hang-left.new.arena
    (c.hang-left.ensures.kept _ _ rest (taken-out g.row.PREFIX_LEN c.args.with_leaves c.args.arena.now c.args.root s rest part c.edit_inner.new.self inner
    c.in-Some.child found up c.edit_inner.ensures.updates))

pub returns-else-count-eq1-clause-room_of : goal.returns-else-count-eq1-clause-room_of
returns-else-count-eq1-clause-room_of g c = λ kind n room. c.hang-left.ensures.room_of kind n (c.edit_inner.ensures.room_of kind n room)

pub returns-else-count-eq1-clause-capacity : goal.returns-else-count-eq1-clause-capacity
returns-else-count-eq1-clause-capacity g c = c.hang-left.ensures.capacity ∙ c.edit_inner.ensures.capacity
