use Rattle.std.proofs.Common.{ℕ, refl, lit<}
use Rattle.art_nodes.specs.declared.kind.NodeType.TheVariants.{Leaf}
use Rattle.art_operations.proofs.delete.point.DeletePoint.apply.Given.{Over}
use Rattle.art_arena.proofs.Common.{links_at, leaves_before, leaves_after, leaf_at, LeafAt, steps_of, kept-around}
use Rattle.art_operations.proofs.Deleted.{part_place, still_listed, all_are, others_left, kept_beside, held_leaf, leaf_freed, leaf_gone, deleted}
use Rattle.art_operations.proofs.Results.{on-err}
use Rattle.art_operations.proofs.Shrinking.{shrinks_below}
use Rattle.art_operations.proofs.delete.point.DeletePoint.apply.Goals as goal

pub detach-requires : goal.detach-requires
detach-requires g c =
    let r = c.requires in
    (lit< tt, (r.0, r.1, r.2.nodes, part_place g.K.AsBytes.bytes r.0 c.args.self.leaf_node_ptr (steps_of c.args.self.path) _ c.to_opaque.ensures r.3))

pub returns-in_err-new_root-clause-shrinks : goal.returns-in_err-new_root-clause-shrinks
returns-in_err-new_root-clause-shrinks g c =
    on-err c.from_residual.result (λ s rest tree place.
    shrinks_below g.K.AsBytes.bytes s tree.nodes.under c.args.self.leaf_node_ptr place.key place.value place.ctx place.place.is place.place.around place.place.under
    (c.in_err-new_root.ensures.shrinks s rest tree.nodes (part_place g.K.AsBytes.bytes s c.args.self.leaf_node_ptr (steps_of c.args.self.path) _ c.to_opaque.ensures place)))

pub returns-clause-room : goal.returns-clause-room
returns-clause-room g c = λ n room. c.deallocate_node_ptr-deleted_leaf.ensures.room n (c.remove_self.ensures.room n (c.in_ok-new_root.ensures.room n room))

-- a leaf of the tree
abbrev leaf_of : (g : Over) → ℕ → g.row.K.Denot → g.row.V.Denot → LeafAt g.row.K.Denot g.row.V.Denot
leaf_of g slot key value = record { slot = slot; key = key; value = value }

pub remove_self-requires : goal.remove_self-requires
remove_self-requires g c =
    let r = c.requires in
    let at = r.3 in (
      lit< tt,
      (
        leaves_before at.ctx,
        leaf_of g c.args.self.leaf_node_ptr at.key at.value,
        leaves_after at.ctx,
        still_listed g.K.AsBytes.bytes g.row.PREFIX_LEN c.detach.new.arena r.1 at.ctx (leaf_at c.args.self.leaf_node_ptr at.key at.value) c.args.arena.now
            c.args.root r.0 r.2 at.place c.in_ok-new_root.ensures.links,
        refl,
      ),
    )

pub deallocate_node_ptr-deleted_leaf-requires : goal.deallocate_node_ptr-deleted_leaf-requires
deallocate_node_ptr-deleted_leaf-requires g c =
    let r = c.requires in
    let at = r.3 in
    let there = held_leaf g.K.AsBytes.bytes g.row.PREFIX_LEN c.detach.new.arena c.remove_self.new.arena r.1 at.ctx c.args.self.leaf_node_ptr at.key at.value c.remove_self.ensures.nodes c.in_ok-new_root.new_root
    (c.in_ok-new_root.ensures.ok r.0 r.1 r.2.nodes (part_place g.K.AsBytes.bytes r.0 c.args.self.leaf_node_ptr (steps_of c.args.self.path) _ c.to_opaque.ensures at)) in
    (lit< tt, rw there.is refl)

pub returns-clause-ok : goal.returns-clause-ok
returns-clause-ok g c = λ s rest tree at.
    let slot = c.args.self.leaf_node_ptr in
    let part = leaf_at slot at.key at.value in
    let left = c.in_ok-new_root.new_root in
    let apart = c.in_ok-new_root.ensures.ok s rest tree.nodes (part_place g.K.AsBytes.bytes s slot (steps_of c.args.self.path) _ c.to_opaque.ensures at) in
    let kept = c.in_ok-new_root.ensures.links in
    let listed = still_listed g.K.AsBytes.bytes g.row.PREFIX_LEN c.detach.new.arena rest at.ctx part c.args.arena.now c.args.root s tree at.place kept in
    let linked = c.remove_self.ensures.linked (leaves_before at.ctx) (leaf_of g slot at.key at.value) (leaves_after at.ctx) listed refl in
    let same = c.remove_self.ensures.nodes in
    let new = c.deallocate_node_ptr-deleted_leaf.new.self in
    let node = c.deallocate_node_ptr-deleted_leaf.result in
    let taken = c.deallocate_node_ptr-deleted_leaf.ensures.value in
    let gone = c.deallocate_node_ptr-deleted_leaf.ensures.updates in
    let freed = leaf_freed g.K.AsBytes.bytes g.row.PREFIX_LEN c.detach.new.arena c.remove_self.new.arena rest at.ctx slot at.key at.value same left apart new node taken gone in
    let lost = leaf_gone g.K.AsBytes.bytes g.row.PREFIX_LEN c.detach.new.arena c.remove_self.new.arena rest at.ctx slot at.key at.value same left apart new node taken gone in
    let others = others_left g.K.AsBytes.bytes g.row.PREFIX_LEN c.detach.new.arena rest at.ctx part c.args.arena.now c.args.root s tree at.place kept c.remove_self.new.arena new lost left apart linked freed in
    let all = all_are g.K.AsBytes.bytes g.row.PREFIX_LEN c.detach.new.arena rest at.ctx part c.args.arena.now c.args.root s tree at.place kept in
    let d = deleted g.K.AsBytes.bytes g.row.PREFIX_LEN c.detach.new.arena c.remove_self.new.arena rest at.ctx slot at.key at.value same left apart new node taken gone s all others in
    rw (c.set_next.ensures, c.set_previous.ensures) (record { front = d.front; back = d.back; was = d.was; left = d.left })

pub returns-clause-others : goal.returns-clause-others
returns-clause-others g c = λ s rest tree at.
    let slot = c.args.self.leaf_node_ptr in
    let part = leaf_at slot at.key at.value in
    let left = c.in_ok-new_root.new_root in
    let apart = c.in_ok-new_root.ensures.ok s rest tree.nodes (part_place g.K.AsBytes.bytes s slot (steps_of c.args.self.path) _ c.to_opaque.ensures at) in
    let kept = c.in_ok-new_root.ensures.links in
    let listed = still_listed g.K.AsBytes.bytes g.row.PREFIX_LEN c.detach.new.arena rest at.ctx part c.args.arena.now c.args.root s tree at.place kept in
    let same = c.remove_self.ensures.nodes in
    let new = c.deallocate_node_ptr-deleted_leaf.new.self in
    let node = c.deallocate_node_ptr-deleted_leaf.result in
    let taken = c.deallocate_node_ptr-deleted_leaf.ensures.value in
    let gone = c.deallocate_node_ptr-deleted_leaf.ensures.updates in
    let freed = leaf_freed g.K.AsBytes.bytes g.row.PREFIX_LEN c.detach.new.arena c.remove_self.new.arena rest at.ctx slot at.key at.value same left apart new node taken gone in
    let lost = leaf_gone g.K.AsBytes.bytes g.row.PREFIX_LEN c.detach.new.arena c.remove_self.new.arena rest at.ctx slot at.key at.value same left apart new node taken gone in
    kept_beside g.K.AsBytes.bytes g.row.PREFIX_LEN c.detach.new.arena rest at.ctx part c.args.arena.now c.args.root s tree at.place kept c.remove_self.new.arena new lost left apart freed
    (kept-around (links_at c.detach.new.arena) (links_at c.remove_self.new.arena) (leaves_before at.ctx) (leaf_of g slot at.key at.value) (leaves_after at.ctx) slot refl listed.linked c.remove_self.ensures.others)

pub returns-clause-leaf_room : goal.returns-clause-leaf_room
returns-clause-leaf_room g c = λ n room. c.deallocate_node_ptr-deleted_leaf.ensures.frees n (c.remove_self.ensures.room_of Leaf n (c.in_ok-new_root.ensures.leaf_room n room))
