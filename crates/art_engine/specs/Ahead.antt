-- What is read ahead of a line.
use Rattle.std.specs.Prelude.{◌≡◌, ◌⊎◌, ℕ, suc, ◌+◌, ◌<◌, int_lt, if◌then◌else◌, List, [], ◌∷◌, ◌++◌, length, bytes_eq}
use Rattle.std.specs.Prelude.{Option, Some, None, IsSome, MatchOption, option_map, unwrap_or, Bool, true, false}
use Rattle.std.specs.Global.{Vec}
use Rattle.std.specs.List.{sum_by}
use Rattle.art_bytes.specs.Keys.{is_below}
use Rattle.art_bytes.specs.Laws.{pair_key}
use Rattle.art_nodes.specs.Name.{Name}
use Rattle.art_nodes.specs.InnerNode.{InnerNode}
use Rattle.art_arena.specs.arena.Arena.{Arena, held_at, inner_held, node_at}
use Rattle.art_arena.specs.arena.Cells.{AreHeld}
use Rattle.art_arena.specs.arena.Descents.{GoesNoFurther, GoesOn, MeetsStored}
use Rattle.art_arena.specs.arena.Shapes.{Shape, cells, erase, name_of}
use Rattle.art_arena.specs.tree.Paths.{path_of}
use Rattle.art_arena.specs.tree.Tenants.{begins_with}
use Rattle.art_arena.specs.tree.TreeOf.{tree_of}
use Rattle.art_arena.specs.tree.Trees.{Tree}
use Rattle.art_lines.specs.Commands.{Command, of_tenant, over, del, get, find, list, span, nget, ndel, nspan}
use Rattle.art_lines.specs.Keys.{full_key}
use Rattle.art_lines.specs.Lines.{whole_lines_of}
use Rattle.art_engine.specs.State.{State}

-- The full key along whose path nodes may be read ahead of a command: its own, or that of its prefix or lower bound. Of
-- other commands, and where bounds are out of order, there is none.
abbrev pub path_ahead : Option Command → Option (List ℕ)
path_ahead (Some (of_tenant tenant (get key))) = Some (full_key tenant key)
path_ahead (Some (of_tenant tenant (find key))) = Some (full_key tenant key)
path_ahead (Some (of_tenant tenant (list front))) = Some (full_key tenant front)
path_ahead (Some (of_tenant tenant (span low high))) = if is_below high low then None else Some (full_key tenant low)
path_ahead (Some (of_tenant tenant (over key value))) = Some (full_key tenant key)
path_ahead (Some (of_tenant tenant (del key))) = Some (full_key tenant key)
path_ahead (Some (of_tenant tenant (nget number))) = Some (pair_key (tenant, number))
path_ahead (Some (of_tenant tenant (ndel number))) = Some (pair_key (tenant, number))
path_ahead (Some (of_tenant tenant (nspan low high))) = if int_lt high low then None else Some (pair_key (tenant, low))
path_ahead other = None

-- at most as many nodes as the path of that key may have
abbrev pub most_ahead : Option Command → ℕ
most_ahead command = unwrap_or (option_map (λ full. suc (length full)) (path_ahead command)) 0

-- that path lies in the map of numbers, and else in that of keys
abbrev pub is_in_numbers : Option Command → Bool
is_in_numbers (Some (of_tenant tenant (nget number))) = true
is_in_numbers (Some (of_tenant tenant (ndel number))) = true
is_in_numbers (Some (of_tenant tenant (nspan low high))) = true
is_in_numbers other = false

-- whether its answer shows the value of a record that its path leads to
abbrev pub shows_value : Option Command → Bool
shows_value (Some (of_tenant tenant (get key))) = true
shows_value (Some (of_tenant tenant (find key))) = true
shows_value (Some (of_tenant tenant (list front))) = true
shows_value (Some (of_tenant tenant (span low high))) = true
shows_value (Some (of_tenant tenant (nget number))) = true
shows_value (Some (of_tenant tenant (nspan low high))) = true
shows_value other = false

-- Whether a look-up of a command with this full key finds the record with this one: it is the same, or for a `find` a
-- front of it.
abbrev pub finds_key : Option Command → List ℕ → List ℕ → Bool
finds_key (Some (of_tenant tenant (find key))) full stored = begins_with stored full
finds_key other full stored = bytes_eq stored full

-- the key goes no further from this node: it doesn't meet its prefix, as much as is stored, or has no child there
abbrev pub IsDeadEnd : List ℕ → ℕ → InnerNode → Type 0
IsDeadEnd key depth node = (MeetsStored key depth node → ⊥) ⊎ GoesNoFurther key depth node

module _ {K V : Type 0} (arena : Arena K V) (key : List ℕ) where
  -- From one place of a path, a node and how many bytes of the key lead there, to the next: the node is an inner one
  -- from which the key goes on by its next byte, and whose prefix, as much as is stored, the key meets.
  abbrev pub LeadsTo : Name × ℕ → Name × ℕ → Type 0
  LeadsTo from to = (node : InnerNode) × (byte : ℕ) × (held_at arena from.0 ≡ Some (inner_held node))
      × GoesOn key from.1 node byte to.0 to.1 × MeetsStored key from.1 node

  -- a step: it stays, or goes on
  abbrev pub IsStepAhead : Name × ℕ → Name × ℕ → Type 0
  IsStepAhead from to = (to ≡ from) ⊎ LeadsTo from to

  -- from one place these nodes lead to another, each of them to the one after it
  abbrev pub AllLeadTo : Name × ℕ → List Name → Name × ℕ → Type 0
  AllLeadTo from [] to = to ≡ from
  AllLeadTo from (n ∷ names) to = (n ≡ from.0) × (next : Name × ℕ) × LeadsTo from next × AllLeadTo next names to

  -- from a place on these are nodes of the path, each led to by the one before it
  abbrev pub IsWay : Name × ℕ → List Name → Type 0
  IsWay from [] = Unit {0}
  IsWay from (n ∷ []) = (n ≡ from.0) × IsSome (held_at arena n)
  IsWay from (n ∷ m ∷ names) = (n ≡ from.0) × (next : Name × ℕ) × LeadsTo from next × IsWay next (m ∷ names)

  -- A line visited these nodes, from the root on, if there is one. If it may visit `left` more, they lead to the place
  -- where it is.
  pub record IsWayAhead (root : Option Name) (names : List Name) (left : ℕ) (here : Name × ℕ) : Type 0 where
    pub way : MatchOption root (names ≡ []) (λ r. IsWay (r, 0) names)
    pub goes_on : 0 < left → (r : Name) × (root ≡ Some r) × AllLeadTo (r, 0) names here

  -- From the root on these nodes lead to this place, and the node there is the last of them.
  pub record IsWholeWay (root : Option Name) (names : List Name) (here : Name × ℕ) : Type 0 where
    pub from : Name
    pub root_is : root ≡ Some from
    pub above : List Name
    pub names_are : names ≡ above ++ here.0 ∷ []
    pub leads : AllLeadTo (from, 0) above here

module _ {K V : Type 0} (P : ℕ) (arena : Arena K V) where
  -- the node under this name and those below it are those of this tree
  abbrev pub IsNodeOf : Name → Tree (K × V) → Type 0
  IsNodeOf n t = (s : Shape K V) × (name_of s ≡ n) × AreHeld (node_at arena) (cells P s) × (erase s ≡ t)

  -- these names stand for the first of these nodes, in order
  abbrev pub AreNodesAlong : List Name → List (Tree (K × V)) → Type 0
  AreNodesAlong [] nodes = Unit {0}
  AreNodesAlong (n ∷ names) [] = ⊥
  AreNodesAlong (n ∷ names) (t ∷ nodes) = IsNodeOf n t × AreNodesAlong names nodes

-- the nodes of a key's path in a tree, if there is one
abbrev pub nodes_to : {X : Type 0} → List ℕ → Option (Tree X) → List (Tree X)
nodes_to key None = []
nodes_to key (Some t) = path_of t key

-- The names visited ahead of a command stand for the first nodes of the path of its full key in the tree of the pairs
-- of its map. Where it has no such key there are none.
module _ (P : ℕ) (keys : Arena (Vec ℕ) (Vec ℕ)) (ps : List (Vec ℕ × Vec ℕ)) (numbers : Arena (List ℕ) (Vec ℕ))
    (ns : List (List ℕ × Vec ℕ)) where
  abbrev pub AreOnPath : Bool → Option (List ℕ) → List Name → Type 0
  AreOnPath in_numbers None names = names ≡ []
  AreOnPath true (Some full) names = AreNodesAlong P numbers names (nodes_to full (tree_of (λ p. p.0) ns))
  AreOnPath false (Some full) names = AreNodesAlong P keys names (nodes_to full (tree_of (λ p. p.0.items) ps))

  abbrev pub AreOnOwnPath : Option Command → List Name → Type 0
  AreOnOwnPath command names = AreOnPath (is_in_numbers command) (path_ahead command) names

-- the sum of some numbers
abbrev pub total : List ℕ → ℕ
total ns = sum_by (λ n. n) ns

-- From one state to another, with so many nodes prefetched for lines to come: what is told more as read ahead is what
-- the readers counted more.
abbrev pub Tells : {P : ℕ} → State P → ℕ → State P → ℕ → Type 0
Tells old due new left = total new.ahead + left + total old.prefetched ≡ total old.ahead + due + total new.prefetched

-- all that the readers counted is told
abbrev pub IsAllTold : {P : ℕ} → State P → State P → Type 0
IsAllTold old new = Tells old 0 new 0

-- these lines are the first of a text's whole ones
abbrev pub AreNext : List (List ℕ) → List ℕ → Type 0
AreNext lines text = (others : List (List ℕ)) × (whole_lines_of text ≡ lines ++ others)

-- the first of these lines, if there is one, is this
abbrev pub IsNextLine : List ℕ → List (List ℕ) → Type 0
IsNextLine line [] = Unit {0}
IsNextLine line (next ∷ others) = next ≡ line
