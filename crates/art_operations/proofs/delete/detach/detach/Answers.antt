use Rattle.std.proofs.Common.{[], ◌∷◌, sym, ap, subst, ◌∙◌, lit<}
use Rattle.art_nodes.proofs.Common.{inner_name_of}
use Rattle.art_nodes.specs.declared.kind.NodeType.TheVariants.{Leaf}
use Rattle.art_arena.proofs.Common.{steps_of}
use Rattle.art_operations.proofs.Terms.{CanLoseChild}
use Rattle.art_operations.proofs.Detaching.{lone, child_part, loses_kind, apart_of_root, grand_node, grand_there, grand_child, grand_inner, apart_below, links_below}
use Rattle.art_operations.proofs.Results.{on-err}
use Rattle.art_operations.proofs.delete.detach.detach.Goals as goal

pub returns-in-Root-clause-ok : goal.returns-in-Root-clause-ok
returns-in-Root-clause-ok g c = λ s rest nodes place. lone g.K.AsBytes.bytes g.row.PREFIX_LEN c.args.arena.now c.args.root s c.args.part (steps_of c.args.path) (ap steps_of c.in-Root.is) nodes place

pub take_out-requires : goal.take_out-requires
take_out-requires g c =
    let r = c.requires in (
      lit< tt,
      (
        r.1,
        child_part g.K.AsBytes.bytes g.row.PREFIX_LEN c.args.arena.now c.args.root r.0 c.args.part (steps_of c.args.path)
            (record { node = inner_name_of c.in-ChildOfRoot.parent; byte = c.in-ChildOfRoot.child_key_byte }) [] (ap steps_of c.in-ChildOfRoot.is)
            c.to_opaque.result (sym c.to_opaque.ensures) r.2 r.3,
      ),
    )

pub returns-in_err-left-in-ChildOfRoot-clause-shrinks : goal.returns-in_err-left-in-ChildOfRoot-clause-shrinks
returns-in_err-left-in-ChildOfRoot-clause-shrinks g c =
    on-err c.from_residual.result (λ s rest nodes place.
    loses_kind g.K.AsBytes.bytes g.row.PREFIX_LEN c.args.arena.now c.args.root s c.args.part (steps_of c.args.path)
    (record { node = inner_name_of c.in-ChildOfRoot.parent; byte = c.in-ChildOfRoot.child_key_byte }) [] (ap steps_of c.in-ChildOfRoot.is)
    c.to_opaque.result (sym c.to_opaque.ensures) nodes place
    (c.in_err-left-in-ChildOfRoot.ensures.shrinks rest
    (child_part g.K.AsBytes.bytes g.row.PREFIX_LEN c.args.arena.now c.args.root s c.args.part (steps_of c.args.path)
    (record { node = inner_name_of c.in-ChildOfRoot.parent; byte = c.in-ChildOfRoot.child_key_byte }) [] (ap steps_of c.in-ChildOfRoot.is)
    c.to_opaque.result (sym c.to_opaque.ensures) nodes place)))

pub returns-in_ok-left-in-ChildOfRoot-clause-ok : goal.returns-in_ok-left-in-ChildOfRoot-clause-ok
returns-in_ok-left-in-ChildOfRoot-clause-ok g c = λ s rest nodes place.
    apart_of_root g.K.AsBytes.bytes g.row.PREFIX_LEN c.args.arena.now c.take_out.new.arena c.args.root s c.args.part (steps_of c.args.path)
    (record { node = inner_name_of c.in-ChildOfRoot.parent; byte = c.in-ChildOfRoot.child_key_byte }) (ap steps_of c.in-ChildOfRoot.is) c.to_opaque.result
    (sym c.to_opaque.ensures) nodes place
    c.in_ok-left-in-ChildOfRoot.left (c.in_ok-left-in-ChildOfRoot.ensures.ok rest)

pub take_out-requires-in-Normal : goal.take_out-requires-in-Normal
take_out-requires-in-Normal g c =
    let r = c.requires in (
      lit< tt,
      (
        r.1,
        child_part g.K.AsBytes.bytes g.row.PREFIX_LEN c.args.arena.now c.args.root r.0 c.args.part (steps_of c.args.path)
            (record { node = inner_name_of c.in-Normal.parent; byte = c.in-Normal.child_key_byte })
            ((record { node = inner_name_of c.in-Normal.grandparent; byte = c.in-Normal.parent_key_byte }) ∷ []) (ap steps_of c.in-Normal.is)
            c.to_opaque-parent.result (sym c.to_opaque-parent.ensures) r.2 r.3,
      ),
    )

pub returns-in_err-left-in-Normal-clause-shrinks : goal.returns-in_err-left-in-Normal-clause-shrinks
returns-in_err-left-in-Normal-clause-shrinks g c =
    on-err c.from_residual-in_err-left-in-Normal.result (λ s rest nodes place.
    loses_kind g.K.AsBytes.bytes g.row.PREFIX_LEN c.args.arena.now c.args.root s c.args.part (steps_of c.args.path)
    (record { node = inner_name_of c.in-Normal.parent; byte = c.in-Normal.child_key_byte })
    ((record { node = inner_name_of c.in-Normal.grandparent; byte = c.in-Normal.parent_key_byte }) ∷ []) (ap steps_of c.in-Normal.is)
    c.to_opaque-parent.result (sym c.to_opaque-parent.ensures) nodes place
    (c.in_err-left-in-Normal.ensures.shrinks rest (child_part g.K.AsBytes.bytes g.row.PREFIX_LEN c.args.arena.now c.args.root s c.args.part
    (steps_of c.args.path) (record { node = inner_name_of c.in-Normal.parent; byte = c.in-Normal.child_key_byte })
    ((record { node = inner_name_of c.in-Normal.grandparent; byte = c.in-Normal.parent_key_byte }) ∷ []) (ap steps_of c.in-Normal.is)
    c.to_opaque-parent.result (sym c.to_opaque-parent.ensures) nodes place)))

pub point_at-requires : goal.point_at-requires
point_at-requires g c =
    let r = c.requires in (
      lit< tt,
      (
        grand_inner g.K.AsBytes.bytes g.row.PREFIX_LEN c.args.arena.now c.take_out-in-Normal.new.arena c.args.root r.0 c.args.part (steps_of c.args.path)
            (record { node = inner_name_of c.in-Normal.parent; byte = c.in-Normal.child_key_byte })
            (record { node = inner_name_of c.in-Normal.grandparent; byte = c.in-Normal.parent_key_byte }) (ap steps_of c.in-Normal.is) c.to_opaque-parent.result
            (sym c.to_opaque-parent.ensures) r.2 r.3 c.in_ok-left-in-Normal.left (c.in_ok-left-in-Normal.ensures.ok r.1) c.to_opaque-in-Normal.result
            (sym c.to_opaque-in-Normal.ensures),
        (
          grand_node g.K.AsBytes.bytes g.row.PREFIX_LEN c.args.arena.now c.take_out-in-Normal.new.arena c.args.root r.0 c.args.part (steps_of c.args.path)
              (record { node = inner_name_of c.in-Normal.parent; byte = c.in-Normal.child_key_byte })
              (record { node = inner_name_of c.in-Normal.grandparent; byte = c.in-Normal.parent_key_byte }) (ap steps_of c.in-Normal.is) c.to_opaque-parent.result
              (sym c.to_opaque-parent.ensures) r.2 r.3 c.in_ok-left-in-Normal.left (c.in_ok-left-in-Normal.ensures.ok r.1) c.to_opaque-in-Normal.result
              (sym c.to_opaque-in-Normal.ensures),
          grand_there g.K.AsBytes.bytes g.row.PREFIX_LEN c.args.arena.now c.take_out-in-Normal.new.arena c.args.root r.0
              c.args.part (steps_of c.args.path) (record { node = inner_name_of c.in-Normal.parent; byte = c.in-Normal.child_key_byte })
              (record { node = inner_name_of c.in-Normal.grandparent; byte = c.in-Normal.parent_key_byte }) (ap steps_of c.in-Normal.is) c.to_opaque-parent.result
              (sym c.to_opaque-parent.ensures) r.2 r.3 c.in_ok-left-in-Normal.left (c.in_ok-left-in-Normal.ensures.ok r.1) c.to_opaque-in-Normal.result
              (sym c.to_opaque-in-Normal.ensures),
          grand_child g.K.AsBytes.bytes g.row.PREFIX_LEN c.args.arena.now c.take_out-in-Normal.new.arena c.args.root r.0
              c.args.part (steps_of c.args.path) (record { node = inner_name_of c.in-Normal.parent; byte = c.in-Normal.child_key_byte })
              (record { node = inner_name_of c.in-Normal.grandparent; byte = c.in-Normal.parent_key_byte }) (ap steps_of c.in-Normal.is) c.to_opaque-parent.result
              (sym c.to_opaque-parent.ensures) r.2 r.3 c.in_ok-left-in-Normal.left (c.in_ok-left-in-Normal.ensures.ok r.1) c.to_opaque-in-Normal.result
              (sym c.to_opaque-in-Normal.ensures),
        ),
      ),
    )

pub returns-in_ok-left-in-Normal-clause-ok : goal.returns-in_ok-left-in-Normal-clause-ok
returns-in_ok-left-in-Normal-clause-ok g c = λ s rest nodes place. apart_below g.K.AsBytes.bytes g.row.PREFIX_LEN c.args.arena.now
    c.take_out-in-Normal.new.arena c.args.root s c.args.part (steps_of c.args.path)
    (record { node = inner_name_of c.in-Normal.parent; byte = c.in-Normal.child_key_byte })
    (record { node = inner_name_of c.in-Normal.grandparent; byte = c.in-Normal.parent_key_byte }) (ap steps_of c.in-Normal.is) c.to_opaque-parent.result
    (sym c.to_opaque-parent.ensures) nodes place c.in_ok-left-in-Normal.left (c.in_ok-left-in-Normal.ensures.ok rest) c.to_opaque-in-Normal.result
    (sym c.to_opaque-in-Normal.ensures) c.point_at.new.arena c.point_at.ensures.same c.point_at.ensures.other

pub returns-in_ok-left-in-Normal-clause-links : goal.returns-in_ok-left-in-Normal-clause-links
returns-in_ok-left-in-Normal-clause-links g c = λ slot.
    let r = c.requires in
    links_below g.K.AsBytes.bytes g.row.PREFIX_LEN c.args.arena.now c.take_out-in-Normal.new.arena c.args.root r.0 c.args.part (steps_of c.args.path)
    (record { node = inner_name_of c.in-Normal.parent; byte = c.in-Normal.child_key_byte })
    (record { node = inner_name_of c.in-Normal.grandparent; byte = c.in-Normal.parent_key_byte }) (ap steps_of c.in-Normal.is) c.to_opaque-parent.result
    (sym c.to_opaque-parent.ensures) r.2 r.3 c.in_ok-left-in-Normal.left (c.in_ok-left-in-Normal.ensures.ok r.1) c.to_opaque-in-Normal.result
    (sym c.to_opaque-in-Normal.ensures) c.point_at.new.arena c.point_at.ensures.same c.point_at.ensures.other slot
    ∙ c.in_ok-left-in-Normal.ensures.links slot

pub returns-in_ok-left-in-Normal-clause-room : goal.returns-in_ok-left-in-Normal-clause-room
returns-in_ok-left-in-Normal-clause-room g c = λ n room. c.point_at.ensures.room n (c.in_ok-left-in-Normal.ensures.room n room)

pub returns-in_err-left-in-ChildOfRoot-clause-has_room : goal.returns-in_err-left-in-ChildOfRoot-clause-has_room
returns-in_err-left-in-ChildOfRoot-clause-has_room g c = λ room.
    let is_ok = c.in_err-left-in-ChildOfRoot.ensures.has_room (subst (CanLoseChild c.args.arena.now) (sym c.to_opaque.ensures) (rw c.in-ChildOfRoot.is at room)) in
    absurd (cc)

pub returns-in_err-left-in-Normal-clause-has_room : goal.returns-in_err-left-in-Normal-clause-has_room
returns-in_err-left-in-Normal-clause-has_room g c = λ room.
    let is_ok = c.in_err-left-in-Normal.ensures.has_room (subst (CanLoseChild c.args.arena.now) (sym c.to_opaque-parent.ensures) (rw c.in-Normal.is at room)) in
    absurd (cc)

pub returns-in_ok-left-in-Normal-clause-leaf_room : goal.returns-in_ok-left-in-Normal-clause-leaf_room
returns-in_ok-left-in-Normal-clause-leaf_room g c = λ n room. c.point_at.ensures.room_of Leaf n (c.in_ok-left-in-Normal.ensures.leaf_room n room)
