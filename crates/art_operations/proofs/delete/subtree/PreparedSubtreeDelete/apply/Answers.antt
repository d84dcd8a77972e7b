use Rattle.std.proofs.Common.{◌-◌, ◌^◌, min, length, ap, ◌∙◌, subst, lit<}
use Rattle.art_nodes.specs.declared.kind.NodeType.TheVariants.{Leaf}
use Rattle.art_arena.proofs.Common.{links_at, path_to, leaves_before, leaves_after, leaves, pairs_of, key_of, kept-without_run}
use Rattle.art_operations.proofs.Terms.{HasLeavesBeside, HoldsBeside, nodes_counted}
use Rattle.art_operations.proofs.NodeCounts.{shape-nodes}
use Rattle.art_operations.proofs.LeafNames.{cut-names}
use Rattle.art_operations.proofs.Deleted.{beside_part, part_beside, still_listed, others_left, kept_beside}
use Rattle.art_operations.proofs.PartSizes.{many_nodes, few_nodes}
use Rattle.art_operations.proofs.delete.subtree.PreparedSubtreeDelete.apply.Goals as goal

pub detach_in_room-new_root-requires : goal.detach_in_room-new_root-requires
detach_in_room-new_root-requires g c =
    let r = c.requires.place in
    (lit< tt, ((r.1.0, r.1.1, r.1.2.nodes, r.1.3.at), c.requires.ready))

pub remove_segment-requires : goal.remove_segment-requires
remove_segment-requires g c =
    let r = c.requires.place in
    let is = r.1.3 in (
      lit< tt,
      (
        leaves_before is.at.ctx,
        leaves is.at.part,
        leaves_after is.at.ctx,
        still_listed g.K.AsBytes.bytes g.row.PREFIX_LEN c.detach_in_room-new_root.new.arena r.1.1 is.at.ctx is.at.part c.args.arena.now c.args.self.point.root
            r.1.0 r.1.2 is.at.place c.detach_in_room-new_root.ensures.links,
        is.first_is,
        is.last_is,
      ),
    )

pub free_tree-freed-requires : goal.free_tree-freed-requires
free_tree-freed-requires g c =
    let r = c.requires.place in
    let is = r.1.3 in
    let left = c.detach_in_room-new_root.result in
    let apart = c.detach_in_room-new_root.ensures.left r.1.0 r.1.1 r.1.2.nodes is.at in
    let beside = part_beside g.K.AsBytes.bytes g.row.PREFIX_LEN c.detach_in_room-new_root.new.arena r.1.1 is.at.ctx is.at.part c.remove_segment.new.arena c.remove_segment.ensures.nodes left apart in
    (lit< tt, (is.at.part, _, subst (λ n. HoldsBeside g.row.PREFIX_LEN c.remove_segment.new.arena n is.at.part (beside_part g.K.AsBytes.bytes g.row.PREFIX_LEN c.detach_in_room-new_root.new.arena r.1.1 is.at.ctx is.at.part left apart)) is.at.here beside))

pub returns-clause-cut : goal.returns-clause-cut
returns-clause-cut g c = λ front s rest tree is.
    let left = c.detach_in_room-new_root.result in
    let apart = c.detach_in_room-new_root.ensures.left s rest tree.nodes is.at in
    let kept = c.detach_in_room-new_root.ensures.links in
    let around = beside_part g.K.AsBytes.bytes g.row.PREFIX_LEN c.detach_in_room-new_root.new.arena rest is.at.ctx is.at.part left apart in
    let beside = subst (λ n. HoldsBeside g.row.PREFIX_LEN c.remove_segment.new.arena n is.at.part around) is.at.here
    (part_beside g.K.AsBytes.bytes g.row.PREFIX_LEN c.detach_in_room-new_root.new.arena rest is.at.ctx is.at.part c.remove_segment.new.arena c.remove_segment.ensures.nodes left apart) in
    let listed = still_listed g.K.AsBytes.bytes g.row.PREFIX_LEN c.detach_in_room-new_root.new.arena rest is.at.ctx is.at.part c.args.arena.now c.args.self.point.root s tree is.at.place kept in
    let linked = c.remove_segment.ensures.linked (leaves_before is.at.ctx) (leaves is.at.part) (leaves_after is.at.ctx) listed is.first_is is.last_is in
    let new = c.free_tree-freed.new.arena in
    let others = others_left g.K.AsBytes.bytes g.row.PREFIX_LEN c.detach_in_room-new_root.new.arena rest is.at.ctx is.at.part c.args.arena.now c.args.self.point.root s tree is.at.place kept c.remove_segment.new.arena new
    (c.free_tree-freed.ensures.kept is.at.part around beside) left apart linked (c.free_tree-freed.ensures.freed is.at.part around beside) in
    record {
      removed = c.free_tree-freed.ensures.leaves is.at.part around beside ∙ ap length is.block;
      freed =
          c.free_tree-freed.ensures.nodes is.at.part around beside
          ∙ ap (λ n. min n (2 ^ 64 - 1)) (shape-nodes g.K.AsBytes.bytes g.row.PREFIX_LEN (path_to is.at.ctx) is.at.part is.at.place.under)
          ∙ ap (λ ls. nodes_counted (key_of g.K.AsBytes.bytes) (pairs_of ls)) is.block;
      left = subst (λ ls. HasLeavesBeside g.K.AsBytes.bytes g.row.PREFIX_LEN new left ls rest) is.others others;
    }

pub returns-clause-others : goal.returns-clause-others
returns-clause-others g c = λ front s rest tree is.
    let left = c.detach_in_room-new_root.result in
    let apart = c.detach_in_room-new_root.ensures.left s rest tree.nodes is.at in
    let kept = c.detach_in_room-new_root.ensures.links in
    let around = beside_part g.K.AsBytes.bytes g.row.PREFIX_LEN c.detach_in_room-new_root.new.arena rest is.at.ctx is.at.part left apart in
    let beside = subst (λ n. HoldsBeside g.row.PREFIX_LEN c.remove_segment.new.arena n is.at.part around) is.at.here
    (part_beside g.K.AsBytes.bytes g.row.PREFIX_LEN c.detach_in_room-new_root.new.arena rest is.at.ctx is.at.part c.remove_segment.new.arena c.remove_segment.ensures.nodes left apart) in
    let listed = still_listed g.K.AsBytes.bytes g.row.PREFIX_LEN c.detach_in_room-new_root.new.arena rest is.at.ctx is.at.part c.args.arena.now c.args.self.point.root s tree is.at.place kept in
    kept_beside g.K.AsBytes.bytes g.row.PREFIX_LEN c.detach_in_room-new_root.new.arena rest is.at.ctx is.at.part c.args.arena.now c.args.self.point.root s tree is.at.place kept c.remove_segment.new.arena c.free_tree-freed.new.arena
    (c.free_tree-freed.ensures.kept is.at.part around beside) left apart (c.free_tree-freed.ensures.freed is.at.part around beside)
    (kept-without_run (links_at c.detach_in_room-new_root.new.arena) (links_at c.remove_segment.new.arena) (leaves_before is.at.ctx) (leaves is.at.part) (leaves_after is.at.ctx) _ _ listed.linked is.first_is is.last_is c.remove_segment.ensures.others)

pub returns-clause-all_freed : goal.returns-clause-all_freed
returns-clause-all_freed g c =
    let r = c.requires.place in
    let is = r.1.3 in
    let left = c.detach_in_room-new_root.result in
    let apart = c.detach_in_room-new_root.ensures.left r.1.0 r.1.1 r.1.2.nodes is.at in
    let around = beside_part g.K.AsBytes.bytes g.row.PREFIX_LEN c.detach_in_room-new_root.new.arena r.1.1 is.at.ctx is.at.part left apart in
    let beside = subst (λ n. HoldsBeside g.row.PREFIX_LEN c.remove_segment.new.arena n is.at.part around) is.at.here
    (part_beside g.K.AsBytes.bytes g.row.PREFIX_LEN c.detach_in_room-new_root.new.arena r.1.1 is.at.ctx is.at.part c.remove_segment.new.arena c.remove_segment.ensures.nodes left apart) in
    many_nodes g.K.AsBytes.bytes g.row.PREFIX_LEN (path_to is.at.ctx) is.at.part is.at.place.under _ _ (c.free_tree-freed.ensures.leaves is.at.part around beside) c.free_tree-freed.ensures.range (c.free_tree-freed.ensures.nodes is.at.part around beside)

pub returns-clause-few_freed : goal.returns-clause-few_freed
returns-clause-few_freed g c =
    let r = c.requires.place in
    let is = r.1.3 in
    let left = c.detach_in_room-new_root.result in
    let apart = c.detach_in_room-new_root.ensures.left r.1.0 r.1.1 r.1.2.nodes is.at in
    let around = beside_part g.K.AsBytes.bytes g.row.PREFIX_LEN c.detach_in_room-new_root.new.arena r.1.1 is.at.ctx is.at.part left apart in
    let beside = subst (λ n. HoldsBeside g.row.PREFIX_LEN c.remove_segment.new.arena n is.at.part around) is.at.here
    (part_beside g.K.AsBytes.bytes g.row.PREFIX_LEN c.detach_in_room-new_root.new.arena r.1.1 is.at.ctx is.at.part c.remove_segment.new.arena c.remove_segment.ensures.nodes left apart) in
    few_nodes g.K.AsBytes.bytes g.row.PREFIX_LEN (path_to is.at.ctx) is.at.part is.at.place.under _ _ (c.free_tree-freed.ensures.leaves is.at.part around beside) (c.free_tree-freed.ensures.nodes is.at.part around beside)

pub returns-clause-room : goal.returns-clause-room
returns-clause-room g c = λ n room. c.free_tree-freed.ensures.room n (c.remove_segment.ensures.room n (c.detach_in_room-new_root.ensures.room n room))

pub returns-clause-names : goal.returns-clause-names
returns-clause-names g c =
    let r = c.requires.place in
    let others = returns-clause-others g c r.0 r.1.0 r.1.1 r.1.2 r.1.3 in
    let cut = returns-clause-cut g c r.0 r.1.0 r.1.1 r.1.2 r.1.3 in
    cut-names g.K.AsBytes.bytes g.row.PREFIX_LEN c.args.arena.now c.free_tree-freed.new.arena c.args.self.point.root r.1.1 r.1.0 r.1.2 others r.0 _ cut

pub returns-clause-leaf_room : goal.returns-clause-leaf_room
returns-clause-leaf_room g c = λ n room. c.free_tree-freed.ensures.leaf_room n (c.remove_segment.ensures.room_of Leaf n (c.detach_in_room-new_root.ensures.leaf_room n room))
