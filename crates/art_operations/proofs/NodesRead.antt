-- What was read of a node under a name is so of the node that stands there.
use Rattle.std.proofs.Common.{◌≡◌, ℕ, List, Option, Some, sym, ap, subst, ◌∙◌}
use Rattle.art_nodes.proofs.Common.{InnerNode, Name}
use Rattle.art_nodes.specs.declared.leaf.LeafNode.{LeafNode}
use Rattle.art_arena.proofs.Common.{Held, inner_held, leaf_held, links_of, Links}
use Rattle.art_operations.proofs.PutBack.{same_inner}

module _ {K V : Type 0} where
  pub read_at : {A : Type 0} (f : InnerNode → A) (held : Option (Held K V)) (node seen : InnerNode) → held ≡ Some (inner_held node) → held ≡ Some (inner_held seen) → (r : A) → r ≡ f seen → r ≡ f node
  read_at f held node seen there read r e = e ∙ ap f (same_inner held seen node read there)

  pub so_at : (IsSo : List (ℕ × Name) → Type 0) (held : Option (Held K V)) (node seen : InnerNode) → held ≡ Some (inner_held node) → held ≡ Some (inner_held seen) → (children : List (ℕ × Name)) → children ≡ node.children → IsSo children → IsSo seen.children
  so_at IsSo held node seen read there children e so = subst IsSo (e ∙ ap (λ (m : InnerNode). m.children) (same_inner held node seen read there)) so

  -- the links of a leaf that is held
  pub links-are : (o : Option (Held K V)) (leaf : LeafNode K V) (links : Links) → o ≡ Some (leaf_held leaf) → links_of o ≡ Some links → ◌≡◌ {A = Links} links (record { previous = leaf.previous; next = leaf.next })
  links-are o leaf links is e =
      let f : ◌≡◌ {A = Option Links} (Some links) (Some (record { previous = leaf.previous; next = leaf.next })) = sym e ∙ ap links_of is in
      cc
