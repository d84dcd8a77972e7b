use Rattle.std.proofs.Common.{List, length, sym, ap, subst, arith}
use Rattle.art_nodes.specs.declared.kind.NodeType.TheVariants.{Leaf}
use Rattle.art_arena.proofs.Common.{HasRoom}
use Rattle.art_operations.proofs.Common.{StandsAhead, HasPairs, HoldsInOrder, ahead-of, in-order, inner-kept, inner-kept-of}
use Rattle.art_operations.proofs.LeafListsMoved.{start_of}
use Rattle.art_operations.proofs.Pushed.{same-leaves-names}
use Rattle.art_map.proofs.Terms.{with_pairs_put}
use Rattle.art_map.proofs.CutLeaves.{pairs-long}
use Rattle.art_map.proofs.LeafNames.{then-names}
use Rattle.art_map.proofs.Merged.{put-long}
use Rattle.art_map.proofs.RoomUsed.{still-room}
use Rattle.art_map.proofs.map.joins.merge_leaves.Goals as goal
use Rattle.art_map.proofs.map.joins.merge_leaves.Goals.{After-at_start-cursor}

pub keep_leaves-first-requires : goal.keep_leaves-first-requires
keep_leaves-first-requires g c = let r = c.requires.tree in (omega arith, (r.0, r.1))

-- the cursor stands before all pairs
ahead : (g : _) (c : After-at_start-cursor g) (had : List (g.row.K.Denot × g.row.V.Denot)) → HasPairs g.K.AsBytes.bytes g.row.PREFIX_LEN c.args.arena.now c.args.root had
    → StandsAhead c.keep_leaves-first.new.arena c.at_start-cursor.result g.K.AsBytes.bytes had c.args.pairs
ahead g c had has =
    let order = c.keep_leaves-first.ensures.order had has in
    subst (λ k. StandsAhead c.keep_leaves-first.new.arena k g.K.AsBytes.bytes had c.args.pairs) (sym c.at_start-cursor.ensures)
    (subst (λ ps. StandsAhead c.keep_leaves-first.new.arena (start_of c.keep_leaves-first.result) g.K.AsBytes.bytes ps c.args.pairs) order.2
    (ahead-of g.K.AsBytes.bytes c.keep_leaves-first.new.arena c.keep_leaves-first.result order.0 order.1 c.args.pairs))

pub put_along-requires : goal.put_along-requires
put_along-requires g c =
    let r = c.requires.tree in
    let d = (goal.at.put_along-requires g c).After-at_start-cursor in
    (omega arith, (omega arith, ((r.0, ahead g d r.0 r.1, r.2), (c.requires.ordered, c.keep_leaves-first.ensures.room Leaf _ c.requires.leaves))))

pub rebuild-requires : goal.rebuild-requires
rebuild-requires g c =
    let r = c.requires.tree in
    let d = (goal.at.rebuild-requires g c).After-at_start-cursor in
    let then = in-order g.K.AsBytes.bytes c.put_along.new.arena c.put_along.new.cursor (with_pairs_put g.K.AsBytes.bytes c.args.pairs r.0) (c.put_along.ensures.put r.0 (ahead g d r.0 r.1) r.2).0 in
    let long = pairs-long then.0 in
    let same = ap length then.2 in
    let few = put-long g.K.AsBytes.bytes c.args.pairs r.0 in
    let most = r.3 in
    let inner = inner-kept-of c.args.arena.now c.keep_leaves-first.new.arena c.args.room c.keep_leaves-first.ensures.room c.requires.inner in (
      omega arith,
      (
        (then.0, subst (λ f. HoldsInOrder g.K.AsBytes.bytes c.put_along.new.arena f then.0) (sym c.first.ensures) then.1, omega (arith, long, same, few, most)),
        inner-kept c.keep_leaves-first.new.arena c.put_along.new.arena c.args.room c.put_along.ensures.kept_room inner,
      ),
    )

pub returns-clause-tree : goal.returns-clause-tree
returns-clause-tree g c = λ had has keys.
    let d = (goal.at.returns-clause-tree g c).After-at_start-cursor in
    let put = c.put_along.ensures.put had (ahead g d had has) keys in
    let then = in-order g.K.AsBytes.bytes c.put_along.new.arena c.put_along.new.cursor (with_pairs_put g.K.AsBytes.bytes c.args.pairs had) put.0 in
    let order = subst (λ f. HoldsInOrder g.K.AsBytes.bytes c.put_along.new.arena f then.0) (sym c.first.ensures) then.1 in
    (subst (HasPairs g.K.AsBytes.bytes g.row.PREFIX_LEN c.rebuild.new.arena c.rebuild.result) then.2 (c.rebuild.ensures.tree then.0 order), put.1)

pub returns-clause-names : goal.returns-clause-names
returns-clause-names g c =
    then-names g.K.AsBytes.bytes c.rebuild.new.arena c.put_along.new.arena c.args.arena.now (same-leaves-names g.K.AsBytes.bytes c.put_along.new.arena c.rebuild.new.arena c.rebuild.ensures.leaves)
    (then-names g.K.AsBytes.bytes c.put_along.new.arena c.keep_leaves-first.new.arena c.args.arena.now c.put_along.ensures.names (same-leaves-names g.K.AsBytes.bytes c.args.arena.now c.keep_leaves-first.new.arena c.keep_leaves-first.ensures.leaves))

pub returns-clause-leaf_room : goal.returns-clause-leaf_room
returns-clause-leaf_room g c = λ had has keys n room.
    let d = (goal.at.returns-clause-leaf_room g c).After-at_start-cursor in
    c.rebuild.ensures.leaf_room n (c.put_along.ensures.leaf_room had (ahead g d had has) keys n (c.keep_leaves-first.ensures.room Leaf _ room))

pub returns-clause-room : goal.returns-clause-room
returns-clause-room g c = λ had has keys most n room.
    let bytes = g.K.AsBytes.bytes in
    let d = (goal.at.returns-clause-room g c).After-at_start-cursor in
    let all = with_pairs_put bytes c.args.pairs had in
    let put = c.put_along.ensures.put had (ahead g d had has) keys in
    let then = in-order bytes c.put_along.new.arena c.put_along.new.cursor all put.0 in
    let order = subst (λ f. HoldsInOrder bytes c.put_along.new.arena f then.0) (sym c.first.ensures) then.1 in
    let long = pairs-long then.0 in
    let same = ap length then.2 in
    let few = put-long bytes c.args.pairs had in
    c.rebuild.ensures.room then.0 order (omega (arith, long, same, few, most)) n
    (subst (HasRoom c.put_along.new.arena) (omega (arith, long, same))
    (still-room (length had) (length c.args.pairs) (length all) c.args.arena.now c.keep_leaves-first.new.arena c.put_along.new.arena few c.keep_leaves-first.ensures.room c.put_along.ensures.kept_room
    (c.put_along.ensures.leaf_room had (ahead g d had has) keys) n room))
