use Rattle.std.proofs.Common.{inl, inr, arith, rules}
use Rattle.art_arena.proofs.shapes.FullNodes.{room_in_largest}
use Rattle.art_arena.proofs.inner_ref.has_room.Goals as goal

pub returns-else-not-is_full-clause-no : goal.returns-else-not-is_full-clause-no
returns-else-not-is_full-clause-no g c = λ no.
    let full = c.is_full.ensures.value.0 c.if-not-is_full.false in
    let room = rw c.iter-children.ensures.value at (room_in_largest c.args.byte c.iter-children.result c.iter-children.ensures.ascending (omega (arith, c.ranges.byte.fits))) in
    elim room [
      | inl few ↦ (full, omega (arith, full, few))
      | inr there ↦ absurd (search rules)
    ]
