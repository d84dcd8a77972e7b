-- What a child whose prefix is lengthened leaves of the other nodes.
use Rattle.std.proofs.Common.{◌≡◌, ◌≢◌, ℕ, List, sym, ap, subst, ◌∙◌, arith}
use Rattle.art_nodes.proofs.Common.{InnerNode, Name}
use Rattle.art_nodes.specs.declared.kind.NodeType.TheVariants.{Leaf}
use Rattle.art_arena.proofs.Common.{Arena, held_at, node_at, IsKindOf, IsSubtree, Shape, leaf_at, inner_at, width, inner_of}
use Rattle.art_operations.proofs.Terms.{Lengthens}

-- an inner node's kind is no leaf's
pub kind_not_leaf : (n : Name) (children : ℕ) → IsKindOf n.kind children → n.kind ≢ Leaf
kind_not_leaf n children is e =
    let none : IsKindOf Leaf children = subst (λ kind. IsKindOf kind children) e is in
    absurd (omega (arith, none.two, none.most))

-- every other name has what it had
pub others_kept : {K V : Type 0} (bytes : K → List ℕ) (P : ℕ) (old new : Arena K V) (above : InnerNode) (byte : ℕ) (child : Name) (path : List ℕ) (s : Shape K V)
    → IsSubtree bytes P (node_at old) child path s → Lengthens P old new above byte child → (m : Name) → m ≢ child → held_at new m ≡ held_at old m
others_kept bytes P old new above byte child path (leaf_at slot k v) sub lengthens m apart = lengthens.0 (sym (ap (λ (n : Name). n.kind) sub.part.named)) m
others_kept bytes P old new above byte child path (inner_at n prefix kids) sub lengthens m apart =
    let other = λ (e : child.kind ≡ Leaf). kind_not_leaf n (width kids) sub.under.0 (ap (λ (n : Name). n.kind) sub.part.named ∙ e) in
    (lengthens.1 other _ (inner_of (held_at old child) _ (ap (node_at old) (sym sub.part.named) ∙ sub.part.held.0))).others m apart
