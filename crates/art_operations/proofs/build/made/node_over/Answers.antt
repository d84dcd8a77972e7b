use Rattle.std.proofs.Common.{◌≡◌, ◌+◌, ◌<◌, ◌∷◌, [], ◌++◌, ℕ, List, take, drop, length, get_or, suc, sym, ap, subst, ◌∙◌}
use Rattle.std.proofs.lemmas.List.{take-append-drop, take_more}
use Rattle.std.proofs.Math.Seq.{drop-cons}
use Rattle.art_nodes.proofs.Common.{InnerNode, IsAscending, node_with, with_child, Name, with_child-after}
use Rattle.art_operations.proofs.Terms.{inner_over}
use Rattle.art_operations.proofs.build.made.node_over.Goals as goal

-- a node of the children before a place, with the child there, has one child more
one-more : (P : ℕ) (prefix : List ℕ) (children : List (ℕ × Name)) (at : ℕ) (child : ℕ × Name) (node : InnerNode) → at < length children → child ≡ get_or children at child → IsAscending children
    → node ≡ record { header = record (inner_over P prefix (take at children)).header { num_children = length (with_child (take at children) child.0 child.1) }; children = with_child (take at children) child.0 child.1 }
    → node ≡ inner_over P prefix (take (at + 1) children)
one-more P prefix children at child node inside is rises written =
    let here : take (at + 1) children ≡ take at children ++ child ∷ [] = take_more children at child inside ∙ ap (λ c. take at children ++ c ∷ []) (sym is) in
    let split : children ≡ take at children ++ child ∷ drop (suc at) children =
    sym (take-append-drop at children) ∙ ap (λ cs. take at children ++ cs) (drop-cons children at child inside) ∙ ap (λ c. take at children ++ c ∷ drop (suc at) children) (sym is) in
    let following : with_child (take at children) child.0 child.1 ≡ take at children ++ child ∷ [] = with_child-after 0 (take at children) (drop (suc at) children) child.0 child.1 (subst IsAscending split rises) in
    written ∙ ap (inner_over P prefix) (following ∙ sym here)

pub loop-child-preserved : goal.loop-child-preserved
loop-child-preserved g c =
    one-more g.row.PREFIX_LEN c.args.prefix.now c.args.children.now c.loop-child.child-index c.child-item.result (g.N.InnerNodeInit.inner c.write_child.new.self) c.loop-child-test.true c.child-item.is c.requires.ascending
    (subst (λ (n : InnerNode). g.N.InnerNodeInit.inner c.write_child.new.self ≡ node_with n c.child-item.result.0 c.child-item.result.1) c.loop-child.invariant c.write_child.ensures)
