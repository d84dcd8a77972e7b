use Rattle.std.proofs.Common.{◌≡◌, ◌++◌, ◌∷◌, [], ℕ, List, ap, ◌∙◌, refl, append_assoc}
use Rattle.art_nodes.proofs.Terms.{InnerNode, IsAscendingFrom, Name}
use Rattle.art_nodes.proofs.ChildLemmas.{with_child-after}
use Rattle.art_nodes.proofs.conversions.converted.Goals as goal

pub loop-child-preserved : goal.loop-child-preserved
loop-child-preserved g c =
    let so_far = (g.B.InnerNodeInit.inner c.loop-child.new).children in
    let steps : c.loop-child.rest ≡ c.in-Some.child ∷ c.next.new.self = c.in-Some.ensures.steps in
    let all = rw steps at c.loop-child.invariant.split in
    let rises : IsAscendingFrom 0 (so_far ++ c.in-Some.child ∷ c.next.new.self) = rw (all, ← c.iter-rest.ensures.value) c.iter-rest.ensures.ascending in
    let following = with_child-after 0 so_far c.next.new.self c.in-Some.child.0 c.in-Some.child.1 rises in
    let children : (g.B.InnerNodeInit.inner c.write_child.new.self).children ≡ so_far ++ c.in-Some.child ∷ [] = ap (λ (n : InnerNode). n.children) c.write_child.ensures ∙ following in
    let written : (g.B.InnerNodeInit.inner c.write_child.new.self).children ++ c.next.new.self ≡ so_far ++ c.in-Some.child ∷ c.next.new.self = ap (λ (cs : List (ℕ × Name)). cs ++ c.next.new.self) children ∙ append_assoc so_far (c.in-Some.child ∷ []) c.next.new.self in
    record {
      split = written ∙ all;
      header = rw (c.write_child.ensures, c.loop-child.invariant.header) refl;
    }
