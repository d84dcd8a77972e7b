-- A part below a node, and what its loss makes of the node.
use Rattle.std.proofs.Common.{◌≡◌, ◌≢◌, ℕ, suc, ◌+◌, ◌-◌, ◌<◌, ◌≤◌, List, [], ◌∷◌, ◌++◌, length, Some, None, sym, ap, subst, ◌∙◌, arith, length-append}
use Rattle.art_nodes.proofs.Common.{Name, InnerNode, without_child, with_children, row_of, CanShrink}
use Rattle.art_nodes.specs.declared.kind.NodeType.{NodeType}
use Rattle.art_nodes.specs.declared.kind.NodeType.TheVariants.{Node4, Node16, Node32, Node48, Node256, Leaf}
use Rattle.art_arena.proofs.Common.{Arena, inner_held, held_at, links_at, Cell, UpdatesAt, path_to, IsKindOf, ChangesKind, name_of, width, links-kept}
use Rattle.art_operations.proofs.Terms.{IsChildPart, StandsFor, Moves, PutsBack, Lengthens, IsOther}
use Rattle.art_operations.proofs.Apart.{taken}
use Rattle.art_operations.proofs.Lengthened.{kind_not_leaf}
use Rattle.art_operations.proofs.PutBack.{same_inner}
use Rattle.art_operations.proofs.Merges.{OneLeft, one_left, other_path, other_subtree, merged}
use Rattle.art_operations.proofs.Parents.{above, above_there, others_length, all_length, puts_back, moves_links, lengthens_links}

-- where a node may shrink, the loss of a child changes its kind
pub changes_kind : (kind : NodeType) (n : ℕ) → IsKindOf kind (suc n) → CanShrink kind n → ChangesKind (suc n)
changes_kind Node4 n is can = absurd can
changes_kind Node16 n is can = (Node16, Node4, is, record { two = omega (arith, is.fewest); fewest = omega (arith, is.fewest); most = omega (arith, can) }, λ e. absurd (cc))
changes_kind Node32 n is can = (Node32, Node16, is, record { two = omega (arith, is.fewest); fewest = omega (arith, is.fewest); most = omega (arith, can) }, λ e. absurd (cc))
changes_kind Node48 n is can = (Node48, Node32, is, record { two = omega (arith, is.fewest); fewest = omega (arith, is.fewest); most = omega (arith, can) }, λ e. absurd (cc))
changes_kind Node256 n is can = (Node256, Node48, is, record { two = omega (arith, is.fewest); fewest = omega (arith, is.fewest); most = omega (arith, can) }, λ e. absurd (cc))
changes_kind Leaf n is can = absurd can

module _ {K V : Type 0} {bytes : K → List ℕ} {P : ℕ} {rest : List (Name × Cell K V)} {old : Arena K V} {parent : Name} {byte : ℕ} {child : Name} (there : IsChildPart bytes P old rest parent byte child) where
  -- the node above the part
  abbrev pub node : InnerNode
  node = above there.held

  -- how many other children there are
  abbrev pub others : ℕ
  others = width there.frame.before + width there.frame.after

  -- the arena has it under the name, which is that of an inner node of its kind
  pub node_there : held_at old parent ≡ Some (inner_held node)
  node_there = ap (held_at old) (sym there.named) ∙ above_there there.held

  pub node_kind : IsKindOf parent.kind (suc others)
  node_kind = subst (λ (n : Name). IsKindOf n.kind (suc others)) there.named there.held.around.0

  pub node_inner : parent.kind ≢ Leaf
  node_inner = kind_not_leaf parent (suc others) node_kind

  -- its header counts the part and the others
  pub node_count : node.header.num_children ≡ suc others
  node_count = all_length there.held

  rest_length : length (without_child node.children byte) ≡ others
  rest_length = ap (λ b. length (without_child node.children b)) (sym there.under) ∙ others_length there.held

  -- so many are left of whatever inner node stands there
  pub one_less : (n : InnerNode) → held_at old parent ≡ Some (inner_held n) → length (without_child n.children byte) ≡ length n.children - 1
  one_less n also =
      subst (λ m. length (without_child m.children byte) ≡ length m.children - 1) (same_inner (held_at old parent) node n node_there also) (omega (arith, rest_length, node_count))

  -- the part can be put back under the byte, and there is room for it
  pub puts_part_back : PutsBack node byte child
  puts_part_back =
      subst (λ b. PutsBack node b child) there.under
      (subst (PutsBack node there.frame.byte) there.child_is (puts_back there.held))

  pub has_room_for_part : length (without_child node.children byte) < (row_of parent.kind).most
  has_room_for_part = omega (arith, rest_length, node_kind.most)

  -- where the part was taken out of a node of three children or more
  module _ (new : Arena K V) (other : Name) (moves : Moves old new parent other (inner_held (with_children node (without_child node.children byte))))
      (kind : IsKindOf parent.kind (suc (length (without_child node.children byte))) → 2 ≤ length (without_child node.children byte) → IsKindOf other.kind (length (without_child node.children byte)))
      (more : suc others ≢ 2) where
    other_kind : IsKindOf other.kind others
    other_kind =
        let two = node_kind.two in
        subst (IsKindOf other.kind) rest_length (kind (subst (λ n. IsKindOf parent.kind (suc n)) (sym rest_length) node_kind) (omega (arith, rest_length, two, more)))

    -- what is left of it stands for it
    pub taken_out : StandsFor bytes P new rest there.frame there.outer there.part other
    taken_out =
        taken new there.held other
        (subst (λ b. Moves old new there.frame.name other (inner_held (with_children node (without_child node.children b)))) (sym there.under)
        (subst (λ n. Moves old new n other (inner_held (with_children node (without_child node.children byte)))) (sym there.named) moves))
        other_kind

    -- and no link has changed
    pub taken_links : (s : ℕ) → links_at new s ≡ links_at old s
    taken_links = moves_links old new parent other _ moves node_inner (kind_not_leaf other others other_kind)

  -- where what is left may shrink, it has the fewest children of its kind
  pub limit_kind : CanShrink parent.kind (length (without_child node.children byte)) → ChangesKind (suc others)
  limit_kind can = changes_kind parent.kind others node_kind (subst (CanShrink parent.kind) rest_length can)

  -- where it was one of two children
  module _ (two : suc others ≡ 2) where
    -- the other one
    pub one : OneLeft there.frame.before there.frame.byte (name_of there.part) there.frame.after
    one = one_left bytes (path_to there.outer ++ there.frame.prefix) there.frame.before there.frame.byte (name_of there.part) there.frame.after there.held.around.2 there.held.around.3 (omega (arith, two))

    -- it is the only other child
    pub one_other : IsOther node.children byte (one.edge, name_of one.here)
    one_other = subst (λ b. IsOther node.children b (one.edge, name_of one.here)) there.under one.other

    -- and stands after more bytes than the prefix of the node
    pub shorter : node.header.prefix_len < length (other_path there.held one)
    shorter = omega (arith, length-append (path_to there.outer ++ there.frame.prefix) (one.edge ∷ []), length-append (path_to there.outer) there.frame.prefix)

    module _ (mid new : Arena K V) (lengthens : Lengthens P old mid node one.edge (name_of one.here)) (gone : UpdatesAt (held_at mid) (held_at new) parent None) where
      -- after the longer prefix it stands for the node
      pub merged_out : StandsFor bytes P new rest there.frame there.outer there.part (name_of one.here)
      merged_out =
          merged there.held one mid new lengthens (subst (λ n. UpdatesAt (held_at mid) (held_at new) n None) (sym there.named) gone)

      -- and no link has changed
      pub merged_links : (s : ℕ) → links_at new s ≡ links_at old s
      merged_links s =
          links-kept mid new parent None gone node_inner s
          ∙ lengthens_links bytes P old mid node one.edge (name_of one.here) _ one.here (other_subtree there.held one) lengthens s
