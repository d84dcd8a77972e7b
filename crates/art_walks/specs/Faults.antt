-- The faults that may stand below a name, in any arena: names may be dead or looping, headers and links may be wrong.
use Rattle.std.specs.Prelude.{◌≡◌, ◌≢◌, ℕ, List, [], ◌∷◌, length, Option, Some, None}
use Rattle.art_nodes.specs.Name.{Name}
use Rattle.art_nodes.specs.InnerNode.{InnerNode, child_at}
use Rattle.art_bytes.specs.Keys.{bytes_cmp}
use Rattle.std.specs.declared.cmp.Ordering.TheVariants.{Less}
use Rattle.art_arena.specs.arena.Cells.{Cell, pair, branches}
use Rattle.art_arena.specs.tree.Trees.{Tree}
use Rattle.art_arena.specs.tree.Kinds.{IsKindOf}
use Rattle.art_arena.specs.arena.Shapes.{Shape, LeafAt, leaves}
use Rattle.art_arena.specs.arena.Linked.{Links, AreLinked}
use Rattle.art_arena.specs.tree.Changes.{IsIn}
use Rattle.art_arena.specs.arena.Meaning.{IsPart, IsSubtree, Means}
use Rattle.art_walks.specs.declared.malformed.MalformedTreeError.{MalformedTreeError}
use Rattle.art_walks.specs.declared.malformed.MalformedTreeError.TheVariants.{DeadName, LoopFound, WrongChildrenCount}
use Rattle.art_walks.specs.declared.malformed.MalformedTreeError.TheVariants.{PrefixMismatch, LeafSiblingWrongOrder}
use Rattle.art_walks.specs.declared.malformed.MalformedTreeError.TheVariants.{WrongSiblingLinks, EmptyTreeWithLen}
use Rattle.art_walks.specs.declared.malformed.MalformedTreeError.TheVariants.{Memory}

-- on from a name, if there is one
abbrev pub onward : (Name → Option Name) → Option Name → Option Name
onward next None = None
onward next (Some name) = next name

module _ {K V : Type 0} where
  -- the child under a byte of what stands there, if that is an inner node
  abbrev pub child_in : Option (Cell K V) → ℕ → Option Name
  child_in None byte = None
  child_in (Some (pair k v)) byte = None
  child_in (Some (branches node)) byte = child_at node.children byte

  -- the name to which these bytes lead down from a name, a byte to each child; it need not be held
  abbrev pub led_to : (Name → Option (Cell K V)) → Name → List ℕ → Option Name
  led_to at n [] = Some n
  led_to at n (byte ∷ way) = onward (λ child. led_to at child way) (child_in (at n) byte)

module _ {K V : Type 0} (bytes : K → List ℕ) (P : ℕ)
    (at : Name → Option (Cell K V)) (links_of : ℕ → Option Links) (root : Name) where
  -- a name below the root isn't held
  pub record HasDeadName : Type 0 where
    pub way : List ℕ
    pub name : Name
    pub leads : led_to at root way ≡ Some name
    pub dead : at name ≡ None

  -- a name is met twice
  pub record HasLoop : Type 0 where
    pub way : List ℕ
    pub other : List ℕ
    pub name : Name
    pub leads : led_to at root way ≡ Some name
    pub leads_too : led_to at root other ≡ Some name
    pub apart : way ≢ other

  -- an inner node has fewer or more children than one of its kind has
  pub record HasWrongCount : Type 0 where
    pub way : List ℕ
    pub name : Name
    pub node : InnerNode
    pub leads : led_to at root way ≡ Some name
    pub held : at name ≡ Some (branches node)
    pub wrong : IsKindOf name.kind (length node.children) → ⊥

  -- The nodes below the root are those of a shape, with as many children as their kinds have, but no whole prefixes, of
  -- which the headers store the fronts, make each leaf's key begin with the path to it.
  pub record HasOtherKeys : Type 0 where
    pub shape : Shape K V
    pub part : IsPart P at root shape
    pub counted : HasWrongCount → ⊥
    pub none : (s : Shape K V) → IsSubtree bytes P at root [] s → ⊥

  -- A canonical shape stands below the root, but its leaves aren't linked in order with open ends.
  pub record HasOtherLinks : Type 0 where
    pub shape : Shape K V
    pub subtree : IsSubtree bytes P at root [] shape
    pub none : (s : Shape K V) → IsSubtree bytes P at root [] s → AreLinked links_of None (leaves s) None → ⊥

  -- and one of them is linked to one without a greater key
  pub record HasOtherOrder : Type 0 where
    pub links : HasOtherLinks
    pub leaf : LeafAt K V
    pub next : LeafAt K V
    pub leaf_in : IsIn leaf (leaves links.shape)
    pub next_in : IsIn next (leaves links.shape)
    pub previous : Option ℕ
    pub linked : links_of leaf.slot ≡ Some (record { previous = previous; next = Some next.slot })
    pub greater : bytes_cmp (bytes leaf.key) (bytes next.key) ≢ Less

  -- the fault stands; want of memory may always be told, and an empty tree isn't below a name
  abbrev pub Stands : MalformedTreeError → Type 0
  Stands DeadName = HasDeadName
  Stands LoopFound = HasLoop
  Stands WrongChildrenCount = HasWrongCount
  Stands PrefixMismatch = HasOtherKeys
  Stands LeafSiblingWrongOrder = HasOtherOrder
  Stands WrongSiblingLinks = HasOtherLinks
  Stands EmptyTreeWithLen = ⊥
  Stands Memory = Unit {0}

-- a fault other than want of memory stands only where the root means no tree
abbrev pub FaultMeansNoTree : (K V : Type 0) → Type 0
FaultMeansNoTree K V =
    (bytes : K → List ℕ) (P : ℕ) (at : Name → Option (Cell K V)) (links : ℕ → Option Links) (root : Name)
    (t : Tree (K × V)) → Means bytes P at root links t
    → (fault : MalformedTreeError) → Stands bytes P at links root fault → fault ≡ Memory
