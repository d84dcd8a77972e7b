-- One node of an arena, and one from which a child was taken out and put back.
use Rattle.std.proofs.Common.{◌≡◌, ℕ, Option, Some, inl, inr, ap, sym, ◌∙◌}
use Rattle.art_nodes.proofs.Common.{InnerNode, with_child, without_child, with_children, Name}
use Rattle.art_arena.proofs.Common.{Arena, Held, inner_held, held_at, SameNodes, same_name_tells}
use Rattle.art_operations.proofs.Terms.{EditsNode, PutsBack}

module _ {K V : Type 0} where
  -- a child that was taken out and put back
  pub undone : (old without same new : Arena K V) (name : Name) (n : InnerNode) (byte : ℕ) (child : Name) → held_at old name ≡ Some (inner_held n) → PutsBack n byte child
      → EditsNode old without name (λ n. with_children n (without_child n.children byte)) → SameNodes without same → EditsNode same new name (λ n. with_children n (with_child n.children byte child))
      → SameNodes old new
  undone old without same new name n byte child there back removed kept written m =
      let out = removed n there in
      let in_again = written _ (kept name ∙ out.changed) in
      elim (same_name_tells m name) [
        | inl is ↦ ap (held_at new) is.1 ∙ in_again.changed ∙ ap (λ n. Some (inner_held n)) back ∙ sym there ∙ ap (held_at old) (sym is.1)
        | inr other ↦ in_again.others m other.1 ∙ kept m ∙ out.others m other.1
      ]

  -- one inner node stands under a name
  pub same_inner : (o : Option (Held K V)) (x y : InnerNode) → o ≡ Some (inner_held x) → o ≡ Some (inner_held y) → x ≡ y
  same_inner o x y there also =
      let e : ◌≡◌ {A = Option (Held K V)} (Some (inner_held x)) (Some (inner_held y)) = sym there ∙ also in
      cc
