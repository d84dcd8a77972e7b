-- The nodes that are read where the place of a key is looked for by all its bytes.
use Rattle.std.specs.Prelude.{ℕ, ◌+◌, ◌-◌, ◌==◌, nat_lt, Bool, false, if◌then◌else◌, List, [], ◌∷◌, length}
use Rattle.art_arena.specs.declared.ends.End.{End}
use Rattle.art_arena.specs.declared.ends.End.TheVariants.{First, Last}
use Rattle.art_arena.specs.tree.Trees.{Tree, Forest, leaf, inner, no_child, child}
use Rattle.art_arena.specs.tree.Landing.{ends, differs, passes, pass}
use Rattle.art_arena.specs.tree.Paths.{path_of}

module _ {X : Type 0} where
  -- the nodes from the root down to the first leaf, or to the last one
  abbrev mutual
    pub end_path : End → Tree X → List (Tree X)
    end_path end (leaf x) = leaf x ∷ []
    end_path end (inner prefix children) = inner prefix children ∷ end_path_in end children

    pub end_path_in : End → Forest X → List (Tree X)
    end_path_in end no_child = []
    end_path_in First (child byte tree others) = end_path First tree
    end_path_in Last (child byte tree others) = last_path_in (end_path Last tree) others

    pub last_path_in : List (Tree X) → Forest X → List (Tree X)
    last_path_in path no_child = path
    last_path_in path (child byte tree others) = last_path_in (end_path Last tree) others

  -- these nodes, and from the last of them on those down to its first leaf
  abbrev pub led_on : List (Tree X) → List (Tree X)
  led_on [] = []
  led_on (t ∷ []) = end_path First t
  led_on (t ∷ u ∷ nodes) = t ∷ led_on (u ∷ nodes)

  -- the nodes of a key's path, and from its end on those down to the first leaf: that leaf's key is the guide
  abbrev pub path_to_guide : Tree X → List ℕ → List (Tree X)
  path_to_guide t k = led_on (path_of t k)

  -- The nodes whose path is a front of a key, each with what is left of the key there: from the root down, as long as
  -- the key has the whole prefix and a child for its next byte.
  abbrev mutual
    pub way_of : Tree X → List ℕ → List (Tree X × List ℕ)
    way_of (leaf x) k = (leaf x, k) ∷ []
    way_of (inner prefix children) k =
        (inner prefix children, k)
        ∷ elim (pass prefix k) [ ends ↦ [] | differs ↦ [] | passes b rest ↦ way_in children b rest ]

    pub way_in : Forest X → ℕ → List ℕ → List (Tree X × List ℕ)
    way_in no_child b k = []
    way_in (child byte tree others) b k = if b == byte then way_of tree k else way_in others b k

  abbrev pub last_or : Tree X × List ℕ → List (Tree X × List ℕ) → Tree X × List ℕ
  last_or here [] = here
  last_or here (next ∷ way) = last_or next way

  -- the last of them
  abbrev pub way_end : Tree X → List ℕ → Tree X × List ℕ
  way_end t k = last_or (t, k) (way_of t k)

  -- a header that stores `P` bytes hasn't the node's whole prefix
  abbrev pub is_cut : ℕ → Tree X → Bool
  is_cut P (leaf x) = false
  is_cut P (inner prefix children) = nat_lt P (length prefix)

  -- what is read of a node for its whole prefix: the node, and where it isn't stored those down to its first leaf
  abbrev pub prefix_reads : ℕ → Tree X → ℕ
  prefix_reads P t = if is_cut P t then length (end_path First t) else 1

  -- how many nodes stand after the first of these whose prefix isn't wholly stored, on the path to the guide
  abbrev pub guide_reads : ℕ → List (Tree X × List ℕ) → ℕ
  guide_reads P [] = 0
  guide_reads P ((t, k) ∷ way) = if is_cut P t then length (path_to_guide t k) - 1 else guide_reads P way

  -- How many bytes of a key a look-up compares as it goes over these nodes to a leaf: each prefix and the byte after
  -- it, up to the first prefix that isn't wholly stored.
  abbrev pub compared_on : ℕ → List (Tree X) → ℕ
  compared_on P [] = 0
  compared_on P (leaf x ∷ nodes) = 0
  compared_on P (inner prefix children ∷ nodes) =
      if nat_lt P (length prefix) then 0 else length prefix + 1 + compared_on P nodes

  -- what a descent by all bytes reads: each node of the key's way, and once a guide, if a prefix isn't wholly stored
  abbrev pub descent_reads : ℕ → Tree X → List ℕ → ℕ
  descent_reads P t k = length (way_of t k) + guide_reads P (way_of t k)
