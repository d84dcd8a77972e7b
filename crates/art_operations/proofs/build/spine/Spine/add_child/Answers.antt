use Rattle.std.proofs.Common.{◌≤◌, ◌+◌, suc, [], ◌∷◌, length, length-append, sym, ap, subst, ◌∙◌, arith}
use Rattle.std.specs.Prelude.{vec_capacity}
use Rattle.art_operations.proofs.build.spine.Spine.add_child.Goals as goal

pub returns-in-Ok-clause-places : goal.returns-in-Ok-clause-places
returns-in-Ok-clause-places c = λ more places.
    let old = subst (λ v. length v.items + suc more ≤ vec_capacity v) (sym c.open_at.ensures.children) places.children in
    let count = ap length c.in-Ok.ensures.items ∙ length-append c.open_at.new.self.children.items ((c.args.byte, c.args.child) ∷ []) in
    let grown = c.push.ensures.capacity in
    record { stack = c.in_ok-open_at.ensures.places more places; children = omega (arith, old, count, grown) }
