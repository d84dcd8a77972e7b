-- How a part is taken out of the nodes above it.
use Rattle.std.specs.Prelude.{◌≡◌, ◌≢◌, ◌⊎◌, ℕ, suc, ◌+◌, List, [], ◌∷◌, ◌++◌, take, Some, None}
use Rattle.art_nodes.specs.declared.kind.NodeType.TheVariants.{Leaf}
use Rattle.art_nodes.specs.InnerNode.{InnerNode, with_child, without_child, with_children}
use Rattle.art_nodes.specs.Name.{Name}
use Rattle.art_arena.specs.arena.Arena.{Arena, Held, inner_held, held_at, SameNodes}
use Rattle.art_arena.specs.arena.Cells.{UpdatesAt}
use Rattle.art_arena.specs.arena.Context.{Frame}
use Rattle.art_arena.specs.arena.Shapes.{width}
use Rattle.art_arena.specs.tree.Kinds.{ChangesKind}
use Rattle.art_operations.specs.Held.{HasInner}

-- the inner node under this name is edited so, and nothing else changed
abbrev pub EditsNode : {K V : Type 0} → Arena K V → Arena K V → Name → (InnerNode → InnerNode) → Type 0
EditsNode old new name edit = (n : InnerNode) → HasInner old name n
    → UpdatesAt (held_at old) (held_at new) name (Some (inner_held (edit n)))

-- in place of what stood under the first name this node stands under the second, which was vacant if it is another;
-- nothing else changed
pub record Moves {K V : Type 0} (old new : Arena K V) (place other : Name) (node : Held K V) : Type 0 where
  pub vacant : (other ≡ place) ⊎ (held_at old other ≡ None)
  pub there : held_at new other ≡ Some node
  pub gone : other ≢ place → held_at new place ≡ None
  pub others : (n : Name) → n ≢ place → n ≢ other → held_at new n ≡ held_at old n

-- there are two children: one under the byte, and this one under another
pub record IsOther (children : List (ℕ × Name)) (byte : ℕ) (other : ℕ × Name) : Type 0 where
  pub child : Name
  pub apart : other.0 ≢ byte
  pub are : (children ≡ (byte, child) ∷ other ∷ []) ⊎ (children ≡ other ∷ (byte, child) ∷ [])

-- the node with the prefix of one above it and its byte there in front of its own prefix
abbrev pub lengthened : ℕ → InnerNode → ℕ → InnerNode → InnerNode
lengthened P above byte node =
    record node {
      header = record {
        num_children = node.header.num_children;
        prefix_len = above.header.prefix_len + 1 + node.header.prefix_len;
        stored = take P (above.header.stored ++ byte ∷ node.header.stored);
      };
    }

-- the child, put back under the byte after it was taken out, gives the node as it was
abbrev pub PutsBack : InnerNode → ℕ → Name → Type 0
PutsBack n byte child =
    with_children (with_children n (without_child n.children byte))
    (with_child (without_child n.children byte) byte child)
    ≡ n

-- what stands under the name is so lengthened, if it is an inner node; nothing else changed
abbrev pub Lengthens : {K V : Type 0} → ℕ → Arena K V → Arena K V → InnerNode → ℕ → Name → Type 0
Lengthens P old new above byte name =
    (name.kind ≡ Leaf → SameNodes old new)
    × (name.kind ≢ Leaf → EditsNode old new name (lengthened P above byte))

-- the node just above a place changes its kind when it loses the child there
abbrev pub LosesKind : {K V : Type 0} → List (Frame K V) → Type 0
LosesKind [] = ⊥
LosesKind (f ∷ outer) = ChangesKind (suc (width f.before + width f.after))
