use Rattle.std.proofs.Common.{◌≡◌, ◌<◌, ◌⊎◌, ◌+◌, ◌∙◌, IsSome, length, sym, ap, subst, refl, arith}
use Rattle.art_nodes.proofs.Common.{child_at, row_of}
use Rattle.art_arena.proofs.Common.{width, Frame, steps_of}
use Rattle.art_operations.proofs.Terms.{AwaitsLeaf}
use Rattle.art_operations.proofs.PutBack.{same_inner}
use Rattle.art_operations.proofs.Waiting.{node-held, node-inner, as_many, has_few}
use Rattle.art_operations.proofs.Growth.{same-kind}
use Rattle.art_operations.proofs.Results.{map_ok}
use Rattle.art_operations.proofs.insert.into_existing.reserve_child.Goals as goal

pub inner-requires : goal.inner-requires
inner-requires g c =
    let r = c.requires in
    (omega arith, (omega arith, (rw (node-held _ _ _ _ _ _ _ _ _ _ r.5) refl, node-inner _ _ _ _ _ _ _ _ _ _ r.5)))

pub returns-then-may_write-clause-ok : goal.returns-then-may_write-clause-ok
returns-then-may_write-clause-ok g c = λ leaf f outer l rest awaits path kind. (
  subst (λ (h : Frame _ _). AwaitsLeaf g.K.AsBytes.bytes g.row.PREFIX_LEN c.args.arena.now rest c.args.point.root c.args.inner c.args.byte leaf h outer l) (ap (λ n. record f { name = n }) awaits.node_is) awaits,
  same-kind c.args.inner.kind (width f.before + width f.after) kind
      (has_few _ _ _ _ _ _ _ _ _ _ awaits (row_of c.args.inner.kind).most
      (subst (λ m. (length m.children < (row_of c.args.inner.kind).most) ⊎ IsSome (child_at m.children c.args.byte))
      (same_inner _ _ _ c.inner.ensures.value (node-held _ _ _ _ _ _ _ _ _ _ awaits))
      (rw c.inner.ensures.kind at (c.may_write.ensures.yes c.if-may_write.true)))),
)

pub grow_at-requires : goal.grow_at-requires
grow_at-requires g c =
    let r = c.requires in
    let full = subst (λ m. (length m.children ≡ (row_of c.args.inner.kind).most) × IsSome (row_of c.args.inner.kind).larger) (same_inner _ _ _ c.inner.ensures.value (node-held _ _ _ _ _ _ _ _ _ _ r.5)) (rw c.inner.ensures.kind at (c.may_write.ensures.no c.if-may_write.false)) in
    (omega arith, (c.args.byte, r.0, r.1, r.2, r.3, r.4, steps_of c.args.point.path, r.5, r.6, c.last_step.ensures, (sym (as_many _ _ _ _ _ _ _ _ _ _ r.5) ∙ full.0, full.1)))

pub returns-clause-ok : goal.returns-clause-ok
returns-clause-ok g c = map_ok c.grow_at.result _ _ c.grow_at.ensures.ok (λ place made. λ leaf f outer l rest awaits path kind.
    let full = subst (λ m. (length m.children ≡ (row_of c.args.inner.kind).most) × IsSome (row_of c.args.inner.kind).larger) (same_inner _ _ _ c.inner.ensures.value (node-held _ _ _ _ _ _ _ _ _ _ awaits)) (rw c.inner.ensures.kind at (c.may_write.ensures.no c.if-may_write.false)) in
    made c.args.byte leaf f outer l rest (steps_of c.args.point.path) awaits path c.last_step.ensures (sym (as_many _ _ _ _ _ _ _ _ _ _ awaits) ∙ full.0, full.1))
