use Rattle.std.proofs.Common.{◌≡◌, ◌&&◌, length}
use Rattle.std.specs.Cmp.Lexicographic.{pointwise}
use Rattle.art_map.proofs.map.compared.same.Given as goal

abbrev pub invariant-loop-a : goal.invariant-loop-a
invariant-loop-a g l =
    let is_same = λ (p q : g.row.K.Denot × g.row.V.Denot). g.K.PartialEq.eq p.0 q.0 && g.V.PartialEq.eq p.1 q.1 in
    (length l.left ≡ length l.right) × (pointwise is_same l.left l.right ≡ pointwise is_same l.initial.left l.initial.right)

abbrev pub decreases-loop-a : goal.decreases-loop-a
decreases-loop-a g l = length l.left
