-- What a reader of a map answers, and how much it reads: told by the pairs of the map.
use Rattle.std.specs.Prelude.{◌≡◌, ℕ, ◌+◌, ◌-◌, ◌^◌, ◌≤◌, min, List, ◌++◌, length, Option, Some, None}
use Rattle.std.specs.List.{AllByRecursion}
use Rattle.art_nodes.specs.Name.{Name}
use Rattle.art_arena.specs.arena.Arena.{Arena}
use Rattle.art_arena.specs.arena.Cells.{Cell}
use Rattle.art_arena.specs.arena.Shapes.{key_of, pairs_of}
use Rattle.art_arena.specs.tree.Paths.{look_up_path}
use Rattle.art_arena.specs.tree.TreeOf.{tree_of}
use Rattle.art_arena.specs.tree.Trees.{Tree}
use Rattle.art_operations.specs.Pairs.{HasPairsBeside}
use Rattle.art_walks.specs.Runs.{Ends}
use Rattle.art_walks.specs.Walked.{IsCounted}

-- what is read, where its tree begins, and how many nodes were read so far
pub record ReadMap (K V : Type 0) : Type 0 where
  pub nodes : Arena K V
  pub root : Option Name
  pub count : ℕ

-- the same is read
abbrev pub IsSameMap : {K V : Type 0} → ReadMap K V → ReadMap K V → Type 0
IsSameMap old new = (new.nodes ≡ old.nodes) × (new.root ≡ old.root)

module _ {K V : Type 0} (bytes : K → List ℕ) (P : ℕ) (arena : Arena K V) (root : Option Name) where
  -- the root is that of the tree of these pairs, or there is none, and no pair; other nodes may stand beside it
  abbrev pub ReadsPairs : List (K × V) → Type 0
  ReadsPairs pairs = (rest : List (Name × Cell K V)) × HasPairsBeside bytes P arena root pairs rest

  -- of some pairs
  abbrev pub ReadsMap : Type 0
  ReadsMap = (pairs : List (K × V)) × ReadsPairs pairs

  -- this is so of the pairs
  abbrev pub OfPairs : (List (K × V) → Type 0) → Type 0
  OfPairs IsSo = (pairs : List (K × V)) → ReadsPairs pairs → IsSo pairs

-- how many nodes a look-up of a key reads in a tree where a node stores `P` bytes of its prefix
abbrev pub look_up_reads : {X : Type 0} → ℕ → List ℕ → Tree X → ℕ
look_up_reads P key t = length (look_up_path P t key)

-- so much of a tree, if there is one
abbrev pub of_tree : {X : Type 0} → (Tree X → ℕ) → Option (Tree X) → ℕ
of_tree reads None = 0
of_tree reads (Some t) = reads t

module _ {K V : Type 0} (bytes : K → List ℕ) where
  -- as many nodes were read as this says of the tree of the pairs; the greatest count stays
  abbrev pub ReadsTree : (Tree (K × V) → ℕ) → List (K × V) → ℕ → ℕ → Type 0
  ReadsTree reads pairs old new = new ≡ min (old + of_tree reads (tree_of (key_of bytes) pairs)) (2 ^ 64 - 1)

  -- no key of these pairs has more bytes than this
  abbrev pub PairsWithin : ℕ → List (K × V) → Type 0
  PairsWithin longest pairs = AllByRecursion (λ p. length (bytes p.0) ≤ longest) pairs

-- A span has these pairs still to give: they stand together among the pairs of the map, and the span names the first
-- and the last of their leaves, which are linked neighbours; or there is none, and it names none.
pub record IsSpanOf {K V : Type 0} (arena : Arena K V) (pairs : List (K × V)) (ends : Ends) (left : List (K × V))
    : Type 0 where
  pub front : List (K × V)
  pub back : List (K × V)
  pub parts : pairs ≡ front ++ (left ++ back)
  pub run : IsCounted arena ends (length left)
  pub pairs_are : pairs_of run.leaves ≡ left

-- a span of a map: it has nothing more to give, or names the first and the last leaf of a run of neighbours
abbrev pub IsSpan : {K V : Type 0} → Arena K V → Ends → Type 0
IsSpan {K} {V} arena ends = (pairs : List (K × V)) × (left : List (K × V)) × IsSpanOf arena pairs ends left
