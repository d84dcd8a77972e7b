use Rattle.std.proofs.Common.{◌-◌, sym, subst, arith}
use Rattle.art_nodes.specs.declared.kind.NodeType.TheVariants.{Leaf}
use Rattle.art_arena.proofs.Common.{HasRoom, pairs_of}
use Rattle.art_operations.proofs.Common.{HasInnerRoom, HoldsInOrder, inner-kept, inner-kept-of}
use Rattle.art_operations.proofs.LeafListsPut.{kept-names}
use Rattle.art_map.proofs.CutLeaves.{all-before, joined, left-long, left-order, long-before, moved-long, moved-order, pairs-left-long}
use Rattle.art_map.proofs.LeafNames.{then-names}
use Rattle.art_map.proofs.Merged.{same-leaf-names-back}
use Rattle.art_map.proofs.RoomKept.{kinds-kept}
use Rattle.art_map.proofs.map.splits.cut_last.Goals as goal

pub after_leaves-cursor-requires : goal.after_leaves-cursor-requires
after_leaves-cursor-requires g c = let r = c.requires.tree in (omega arith, (r.0, r.1))

pub move_leaves-first-requires : goal.move_leaves-first-requires
move_leaves-first-requires g c =
    let r = c.requires.tree in
    let is = c.after_leaves-cursor.ensures.list r.0 r.1 in
    let stands = all-before g.K.AsBytes.bytes c.after_leaves-cursor.new.arena c.after_leaves-cursor.result r.0 is.0 is.1 in
    let long = long-before g.K.AsBytes.bytes c.after_leaves-cursor.new.arena c.after_leaves-cursor.result r.0 is.0 is.1 in
    let many = r.2 in
    (omega arith, ((is.0.front, stands, omega (arith, long, many)), (c.requires.none, c.requires.leaves)))

pub rebuild-left-requires : goal.rebuild-left-requires
rebuild-left-requires g c =
    let r = c.requires.tree in
    let is = c.after_leaves-cursor.ensures.list r.0 r.1 in
    let stands = all-before g.K.AsBytes.bytes c.after_leaves-cursor.new.arena c.after_leaves-cursor.result r.0 is.0 is.1 in
    let has = c.move_leaves-first.ensures.moved is.0.front stands in
    let order = left-order g.K.AsBytes.bytes c.after_leaves-cursor.new.arena c.after_leaves-cursor.result r.0 is.0 is.1 c.move_leaves-first.new.from c.move_leaves-first.new.cursor c.move_leaves-first.new.to c.move_leaves-first.result c.args.count has in
    let long = left-long g.K.AsBytes.bytes c.after_leaves-cursor.new.arena c.after_leaves-cursor.result r.0 is.0 is.1 c.move_leaves-first.new.from c.move_leaves-first.new.cursor c.move_leaves-first.new.to c.move_leaves-first.result c.args.count has in
    let many = r.2 in
    let inner = inner-kept-of c.args.arena.now c.after_leaves-cursor.new.arena c.args.room c.after_leaves-cursor.ensures.room_of c.requires.inner in (
      omega arith,
      (
        (has.left, subst (λ f. HoldsInOrder g.K.AsBytes.bytes c.move_leaves-first.new.from f has.left) (sym c.first.ensures) order, omega (arith, long, many)),
        inner-kept-of c.after_leaves-cursor.new.arena c.move_leaves-first.new.from c.args.room c.move_leaves-first.ensures.room_of inner,
      ),
    )

pub rebuild-moved-requires : goal.rebuild-moved-requires
rebuild-moved-requires g c =
    let r = c.requires.tree in
    let is = c.after_leaves-cursor.ensures.list r.0 r.1 in
    let stands = all-before g.K.AsBytes.bytes c.after_leaves-cursor.new.arena c.after_leaves-cursor.result r.0 is.0 is.1 in
    let has = c.move_leaves-first.ensures.moved is.0.front stands in
    let order = moved-order g.K.AsBytes.bytes c.after_leaves-cursor.new.arena c.after_leaves-cursor.result r.0 is.0 is.1 c.move_leaves-first.new.from c.move_leaves-first.new.cursor c.move_leaves-first.new.to c.move_leaves-first.result c.args.count has in
    let long = moved-long g.K.AsBytes.bytes c.after_leaves-cursor.new.arena c.after_leaves-cursor.result r.0 is.0 is.1 c.move_leaves-first.new.from c.move_leaves-first.new.cursor c.move_leaves-first.new.to c.move_leaves-first.result c.args.count has in
    let same = c.requires.to_long in (
      omega arith,
      (
        (has.moved, order, omega (arith, long, same)),
        subst (HasInnerRoom c.move_leaves-first.new.to) (sym same) (inner-kept c.args.to.now c.move_leaves-first.new.to c.args.count c.move_leaves-first.ensures.kept_room c.requires.to_inner),
      ),
    )

pub returns-clause-cut : goal.returns-clause-cut
returns-clause-cut g c = λ had has_pairs.
    let is = c.after_leaves-cursor.ensures.list had has_pairs in
    let stands = all-before g.K.AsBytes.bytes c.after_leaves-cursor.new.arena c.after_leaves-cursor.result had is.0 is.1 in
    let has = c.move_leaves-first.ensures.moved is.0.front stands in
    let order = left-order g.K.AsBytes.bytes c.after_leaves-cursor.new.arena c.after_leaves-cursor.result had is.0 is.1 c.move_leaves-first.new.from c.move_leaves-first.new.cursor c.move_leaves-first.new.to c.move_leaves-first.result c.args.count has in
    let other = moved-order g.K.AsBytes.bytes c.after_leaves-cursor.new.arena c.after_leaves-cursor.result had is.0 is.1 c.move_leaves-first.new.from c.move_leaves-first.new.cursor c.move_leaves-first.new.to c.move_leaves-first.result c.args.count has in
    record {
      left = pairs_of has.left;
      moved = pairs_of has.moved;
      has = c.rebuild-left.ensures.tree has.left (subst (λ f. HoldsInOrder g.K.AsBytes.bytes c.move_leaves-first.new.from f has.left) (sym c.first.ensures) order);
      to_has = c.rebuild-moved.ensures.tree has.moved other;
      joined = joined g.K.AsBytes.bytes c.after_leaves-cursor.new.arena c.after_leaves-cursor.result had is.0 is.1 c.move_leaves-first.new.from c.move_leaves-first.new.cursor c.move_leaves-first.new.to c.move_leaves-first.result c.args.count has;
      long = pairs-left-long g.K.AsBytes.bytes c.after_leaves-cursor.new.arena c.after_leaves-cursor.result had is.0 is.1 c.move_leaves-first.new.from c.move_leaves-first.new.cursor c.move_leaves-first.new.to c.move_leaves-first.result c.args.count has;
    }

pub returns-clause-names : goal.returns-clause-names
returns-clause-names g c =
    then-names g.K.AsBytes.bytes c.args.arena.now c.after_leaves-cursor.new.arena c.rebuild-left.new.arena (same-leaf-names-back g.K.AsBytes.bytes c.args.arena.now c.after_leaves-cursor.new.arena c.after_leaves-cursor.ensures.leaves)
    (then-names g.K.AsBytes.bytes c.after_leaves-cursor.new.arena c.move_leaves-first.new.from c.rebuild-left.new.arena (kept-names g.K.AsBytes.bytes c.move_leaves-first.new.from c.after_leaves-cursor.new.arena c.move_leaves-first.ensures.none_new)
    (same-leaf-names-back g.K.AsBytes.bytes c.move_leaves-first.new.from c.rebuild-left.new.arena c.rebuild-left.ensures.leaves))

pub returns-clause-leaf_room : goal.returns-clause-leaf_room
returns-clause-leaf_room g c = λ n room. c.rebuild-left.ensures.leaf_room _ (c.move_leaves-first.ensures.leaf_room n (c.after_leaves-cursor.ensures.room_of Leaf n room))

pub returns-clause-room : goal.returns-clause-room
returns-clause-room g c = λ n room.
    let r = c.requires.tree in
    let is = c.after_leaves-cursor.ensures.list r.0 r.1 in
    let stands = all-before g.K.AsBytes.bytes c.after_leaves-cursor.new.arena c.after_leaves-cursor.result r.0 is.0 is.1 in
    let has = c.move_leaves-first.ensures.moved is.0.front stands in
    let order = left-order g.K.AsBytes.bytes c.after_leaves-cursor.new.arena c.after_leaves-cursor.result r.0 is.0 is.1 c.move_leaves-first.new.from c.move_leaves-first.new.cursor c.move_leaves-first.new.to c.move_leaves-first.result c.args.count has in
    let long = left-long g.K.AsBytes.bytes c.after_leaves-cursor.new.arena c.after_leaves-cursor.result r.0 is.0 is.1 c.move_leaves-first.new.from c.move_leaves-first.new.cursor c.move_leaves-first.new.to c.move_leaves-first.result c.args.count has in
    let many = r.2 in
    c.rebuild-left.ensures.room has.left (subst (λ f. HoldsInOrder g.K.AsBytes.bytes c.move_leaves-first.new.from f has.left) (sym c.first.ensures) order) (omega (arith, long, many)) n
    (subst (HasRoom c.move_leaves-first.new.from) (omega (arith, long, many))
    (kinds-kept c.after_leaves-cursor.new.arena c.move_leaves-first.new.from c.move_leaves-first.ensures.room_of _ (kinds-kept c.args.arena.now c.after_leaves-cursor.new.arena c.after_leaves-cursor.ensures.room_of _ room)))
