use Rattle.std.proofs.Common.{◌+◌, refl, sym, ◌∙◌, subst, arith}
use Rattle.std.specs.Option.{IsSome}
use Rattle.art_nodes.specs.declared.kind.NodeType.TheVariants.{Leaf}
use Rattle.art_arena.proofs.Common.{HasRoom, leaf_name, links-update}
use Rattle.art_operations.proofs.Inserted.{put_keeps}
use Rattle.art_operations.proofs.Waiting.{node-inner}
use Rattle.art_operations.proofs.IntoExisting.{starts, inserted}
use Rattle.art_operations.proofs.NewNodes.{all_room, undone, undone_room}
use Rattle.art_operations.proofs.insert.into_existing.insert_into_existing.Goals as goal

pub reserve_child-requires : goal.reserve_child-requires
reserve_child-requires g c =
    let r = c.requires.tree in
    let st = starts _ _ r.0 c.args.point c.args.inner c.args.byte c.in_ok-leaf.leaf c.args.key c.args.value c.args.arena.now c.store_leaf.new.arena r.2 r.3 c.requires.kind c.in_ok-leaf.ensures.ok in
    (omega arith, (_, st.frame, st.outer, _, _, st.awaits, st.path, st.kind))

pub take_back-requires : goal.take_back-requires
take_back-requires g c = (omega arith, subst IsSome (sym (c.in-Err.ensures.err (leaf_name c.in_ok-leaf.leaf) ∙ c.in_ok-leaf.ensures.ok.updates.changed)) refl)

pub returns-in-Err-clause-err : goal.returns-in-Err-clause-err
returns-in-Err-clause-err g c = undone c.args.arena.now c.store_leaf.new.arena c.reserve_child.new.arena c.take_back.new.arena _ _ c.in_ok-leaf.ensures.ok c.in-Err.ensures.err c.take_back.ensures.updates

pub returns-in-Err-clause-handed_back : goal.returns-in-Err-clause-handed_back
returns-in-Err-clause-handed_back g c = c.take_back.ensures.pair _ (c.in-Err.ensures.err (leaf_name c.in_ok-leaf.leaf) ∙ c.in_ok-leaf.ensures.ok.updates.changed)

pub returns-in-Err-clause-succeeds : goal.returns-in-Err-clause-succeeds
returns-in-Err-clause-succeeds g c = λ room. c.in-Err.ensures.succeeds (c.in_ok-leaf.ensures.room 1 room)

pub returns-in-Err-clause-room : goal.returns-in-Err-clause-room
returns-in-Err-clause-room g c = λ n room. c.take_back.ensures.room n (c.in-Err.ensures.room n (c.in_ok-leaf.ensures.room (n + 1) (subst (HasRoom c.args.arena.now) (omega arith) room)))

pub insert_leaf-requires : goal.insert_leaf-requires
insert_leaf-requires g c =
    let r = c.requires.tree in
    let st = starts _ _ r.0 c.args.point c.args.inner c.args.byte c.in_ok-leaf.leaf c.args.key c.args.value c.args.arena.now c.store_leaf.new.arena r.2 r.3 c.requires.kind c.in_ok-leaf.ensures.ok in
    let made = c.in-Ok.ensures.ok _ st.frame st.outer _ _ st.awaits st.path st.kind in
    (omega arith, (_, record st.frame { name = c.in-Ok.place.node }, st.outer, _, _, made.0, made.1))

pub inner_node_ptr-requires : goal.inner_node_ptr-requires
inner_node_ptr-requires g c =
    let r = c.requires.tree in
    let st = starts _ _ r.0 c.args.point c.args.inner c.args.byte c.in_ok-leaf.leaf c.args.key c.args.value c.args.arena.now c.store_leaf.new.arena r.2 r.3 c.requires.kind c.in_ok-leaf.ensures.ok in
    let made = c.in-Ok.ensures.ok _ st.frame st.outer _ _ st.awaits st.path st.kind in
    node-inner _ _ _ _ _ _ _ _ _ _ made.0

pub returns-clause-ok : goal.returns-clause-ok
returns-clause-ok g c = λ s rest tree at.
    let st = starts _ _ s c.args.point c.args.inner c.args.byte c.in_ok-leaf.leaf c.args.key c.args.value c.args.arena.now c.store_leaf.new.arena tree at c.requires.kind c.in_ok-leaf.ensures.ok in
    let made = c.in-Ok.ensures.ok _ st.frame st.outer _ _ st.awaits st.path st.kind in
    inserted _ _ s c.args.point c.args.inner c.args.byte c.in_ok-leaf.leaf c.args.key c.args.value c.reserve_child.new.arena c.insert_leaf.new.arena c.in-Ok.place.root c.in-Ok.place.node (record st.frame { name = c.in-Ok.place.node }) st.outer
    c.inner_node_ptr.result made.0 made.1 st.path st.was c.inner_node_ptr.ensures (c.insert_leaf.ensures.put _ _ _ _ _ made.0 made.1)

pub returns-clause-room : goal.returns-clause-room
returns-clause-room g c = λ n room. all_room _ _ c.insert_leaf.ensures.room_of n (c.reserve_child.ensures.room n (c.in_ok-leaf.ensures.room (n + 1) (subst (HasRoom c.args.arena.now) (omega arith) room)))

pub returns-clause-leaf_room : goal.returns-clause-leaf_room
returns-clause-leaf_room g c = λ n room.
    let still = c.insert_leaf.ensures.room_of Leaf n (c.reserve_child.ensures.leaf_room n (c.in_ok-leaf.ensures.room_of.own n room)) in
    omega (arith, still)

pub returns-clause-others : goal.returns-clause-others
returns-clause-others g c = λ s rest tree at.
    let st = starts _ _ s c.args.point c.args.inner c.args.byte c.in_ok-leaf.leaf c.args.key c.args.value c.args.arena.now c.store_leaf.new.arena tree at c.requires.kind c.in_ok-leaf.ensures.ok in
    let made = c.in-Ok.ensures.ok _ st.frame st.outer _ _ st.awaits st.path st.kind in
    put_keeps g.K.AsBytes.bytes g.row.PREFIX_LEN c.args.arena.now c.reserve_child.new.arena c.insert_leaf.new.arena c.insert_leaf.new.arena c.args.point.root _ s _ c.in_ok-leaf.leaf c.args.key c.args.value _ _ _ tree (returns-clause-ok g c s rest tree at) st.was
    (λ n other. c.in-Ok.ensures.links n ∙ (links-update c.args.arena.now c.store_leaf.new.arena c.in_ok-leaf.leaf _ c.in_ok-leaf.ensures.ok.updates).others n other)
    (c.insert_leaf.ensures.others _ _ _ _ _ made.0) (λ n. refl)

pub returns-in-Err-clause-kept_room : goal.returns-in-Err-clause-kept_room
returns-in-Err-clause-kept_room g c =
    undone_room c.args.arena.now c.store_leaf.new.arena c.reserve_child.new.arena c.take_back.new.arena c.store_leaf.ensures.room_of c.in-Err.ensures.kept_room c.take_back.ensures.room_of c.take_back.ensures.frees c.take_back.ensures.room_for_it
