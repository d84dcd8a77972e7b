-- The node above a part, and the part taken out of it.
use Rattle.std.proofs.Common.{◌≡◌, ◌≢◌, ℕ, suc, ◌+◌, List, ◌∷◌, length, Some, sym, ap, ◌∙◌, arith, length-append}
use Rattle.art_nodes.proofs.Common.{Name, InnerNode, with_child, without_child, with_children}
use Rattle.art_nodes.specs.declared.kind.NodeType.TheVariants.{Leaf}
use Rattle.art_arena.proofs.Common.{Arena, inner_held, held_at, links_of, links_at, node_at, Cell, leaf_name, Frame, IsSubtree, Shape, leaf_at, inner_at, name_of, children_at, join, width, children_at-join, length-children, with_child-opening, without_child-frame, frame_node, frame-there}
use Rattle.art_arena.proofs.Common.{unplugged, inner_of}
use Rattle.art_operations.proofs.Terms.{IsHeldAt, Moves, PutsBack, Lengthens}
use Rattle.art_operations.proofs.Lengthened.{kind_not_leaf, others_kept}

module _ {K V : Type 0} where
  -- a move of an inner node leaves all links
  pub moves_links : (old new : Arena K V) (place other : Name) (node : InnerNode) → Moves old new place other (inner_held node) → place.kind ≢ Leaf → other.kind ≢ Leaf → (slot : ℕ) → links_at new slot ≡ links_at old slot
  moves_links old new place other node moves inner also slot =
      ap links_of (moves.others (leaf_name slot) (λ e. inner (sym (ap (λ (n : Name). n.kind) e))) (λ e. also (sym (ap (λ (n : Name). n.kind) e))))

module _ {K V : Type 0} (bytes : K → List ℕ) (P : ℕ) where
  -- and so does a longer prefix
  pub lengthens_links : (old new : Arena K V) (above : InnerNode) (byte : ℕ) (child : Name) (path : List ℕ) (s : Shape K V)
      → IsSubtree bytes P (node_at old) child path s → Lengthens P old new above byte child → (slot : ℕ) → links_at new slot ≡ links_at old slot
  lengthens_links old new above byte child path (leaf_at at k v) sub lengthens slot = ap links_of (lengthens.0 (sym (ap (λ (n : Name). n.kind) sub.part.named)) (leaf_name slot))
  lengthens_links old new above byte child path (inner_at n prefix kids) sub lengthens slot =
      let other = λ (e : child.kind ≡ Leaf). kind_not_leaf n (width kids) sub.under.0 (ap (λ (n : Name). n.kind) sub.part.named ∙ e) in
      ap links_of (others_kept bytes P old new above byte child path (inner_at n prefix kids) sub lengthens (leaf_name slot) (λ e. other (sym (ap (λ (n : Name). n.kind) e))))

module _ {K V : Type 0} {bytes : K → List ℕ} {P : ℕ} {rest : List (Name × Cell K V)} {arena : Arena K V} {f : Frame K V} {outer : List (Frame K V)} {part : Shape K V} (at : IsHeldAt bytes P arena rest (f ∷ outer) part) where
  -- the node above the part
  abbrev pub above : InnerNode
  above = frame_node P f (name_of part)

  -- the arena has it there
  pub above_there : held_at arena f.name ≡ Some (inner_held above)
  above_there =
      inner_of (held_at arena f.name) above (frame-there P f outer (name_of part) _ at.around.2 (node_at arena) (unplugged P (node_at arena) rest (f ∷ outer) part at.holds))

  others_are : without_child above.children f.byte ≡ children_at (join f.before f.after)
  others_are = without_child-frame bytes f.byte (name_of part) f.before (children_at f.after) at.around.2 ∙ sym (children_at-join f.before f.after)

  -- how many others there are
  pub others_length : length (without_child above.children f.byte) ≡ width f.before + width f.after
  others_length =
      ap length (without_child-frame bytes f.byte (name_of part) f.before (children_at f.after) at.around.2)
      ∙ omega (arith, length-append (children_at f.before) (children_at f.after), length-children f.before, length-children f.after)

  -- and how many children in all
  pub all_length : above.header.num_children ≡ suc (width f.before + width f.after)
  all_length = omega (arith, length-append (children_at f.before) ((f.byte, name_of part) ∷ children_at f.after), length-children f.before, length-children f.after)

  -- the part can be put back
  pub puts_back : PutsBack above f.byte (name_of part)
  puts_back =
      let back : with_child (without_child above.children f.byte) f.byte (name_of part) ≡ above.children =
      ap (λ kids. with_child kids f.byte (name_of part)) others_are ∙ with_child-opening bytes f.byte (name_of part) f.before f.after _ at.around.2 at.around.3 in
      ap (with_children above) back
