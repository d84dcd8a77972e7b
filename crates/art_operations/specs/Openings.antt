-- How many nodes are read where a key's place is found, or an end of a range.
pub use Rattle.art_arena.specs.arena.Reads.{DescentReads, KeysWithin, ReadsAtLeast, ReadsExactly}
use Rattle.std.specs.Prelude.{ℕ, suc, ◌+◌, ◌*◌, ◌≤◌, nat_lt, bytes_eq, Bool, true, false, if◌then◌else◌, List}
use Rattle.std.specs.Prelude.{[], ◌∷◌, length, filter, Option, None, Some}
use Rattle.std.specs.BTreeMap.Range.{is_from_start, is_past_end}
use Rattle.std.specs.declared.ops.Bound.{Bound}
use Rattle.std.specs.declared.ops.Bound.TheVariants.{Included, Excluded, Unbounded}
use Rattle.art_bytes.specs.Keys.{bytes_cmp}
use Rattle.art_arena.specs.arena.Shapes.{Shape, leaves}
use Rattle.art_arena.specs.declared.ends.End.TheVariants.{First, Last}
use Rattle.art_arena.specs.tree.Changes.{is_before}
use Rattle.art_arena.specs.tree.Landing.{ends, differs, passes, pass}
use Rattle.art_arena.specs.tree.Tenants.{begins_with}
use Rattle.art_arena.specs.tree.Trees.{Tree, Forest, leaf, inner, no_child, child, items}
use Rattle.art_arena.specs.tree.Ways.{descent_reads, end_path, prefix_reads, way_end}

module _ {X : Type 0} where
  -- a key's place: the descent by all its bytes, and once more the node at which that ends, with its whole prefix
  abbrev pub place_reads : ℕ → Tree X → List ℕ → ℕ
  place_reads P t k = descent_reads P t k + prefix_reads P (way_end t k).0

  -- the first child above this byte
  abbrev pub first_above : ℕ → Forest X → Option (Tree X)
  first_above b no_child = None
  first_above b (child byte tree others) = if nat_lt b byte then Some tree else first_above b others

  -- a node, and from its first child above a byte down to the first leaf there, or from itself down to its last one
  abbrev pub beside_reads : Tree X → Option (Tree X) → ℕ
  beside_reads t None = suc (length (end_path Last t))
  beside_reads t (Some above) = suc (length (end_path First above))

  -- From a node, at which so much is left of a key, to a leaf beside the key's place: down to the node's first leaf or
  -- its last one, or to one beside the byte for which it has no child.
  abbrev pub near_reads : Tree X × List ℕ → ℕ
  near_reads (leaf x, k) = 1
  near_reads (inner prefix children, k) =
      elim (pass prefix k) [
        | ends ↦ length (end_path First (inner prefix children))
        | differs ↦ length (end_path (if is_before k prefix then First else Last) (inner prefix children))
        | passes b rest ↦ beside_reads (inner prefix children) (first_above b children)
      ]

  -- an end of a range: the place of the bound's key, a leaf beside it, and that leaf's links; or an end of all leaves
  abbrev pub bound_reads : ℕ → Bool → Tree X → Bound (List ℕ) → ℕ
  bound_reads P is_start t (Included k) = suc (place_reads P t k + near_reads (way_end t k))
  bound_reads P is_start t (Excluded k) = suc (place_reads P t k + near_reads (way_end t k))
  bound_reads P is_start t Unbounded = length (end_path (if is_start then First else Last) t)

  module _ (key : X → List ℕ) where
    -- the first of the items from the start on is compared with the end, which is looked for if that is not before it
    abbrev pub end_reads : ℕ → Tree X → Bound (List ℕ) → List X → ℕ
    end_reads P t end [] = 0
    end_reads P t end (x ∷ xs) = suc (if is_past_end bytes_cmp end (key x) then 0 else bound_reads P false t end)

    -- both ends of a range
    abbrev pub range_reads : ℕ → Tree X → Bound (List ℕ) → Bound (List ℕ) → ℕ
    range_reads P t start end =
        bound_reads P true t start
        + end_reads P t end (filter (λ x. is_from_start bytes_cmp start (key x)) (items t))

    -- both ends of a part, if its first key begins with the front; the first alone, if that key is a front of it
    abbrev pub ends_reads : List ℕ → Tree X → List X → ℕ
    ends_reads front t [] = 0
    ends_reads front t (x ∷ xs) =
        if bytes_eq front (key x) then 0
        else if begins_with front (key x) then length (end_path First t) + length (end_path Last t)
        else if begins_with (key x) front then length (end_path First t)
        else 0

    -- the part of the keys that begin with a front: the place of the front, and the ends of the part there
    abbrev pub part_reads : ℕ → Tree X → List ℕ → ℕ
    part_reads P t front =
        place_reads P t front + ends_reads front (way_end t front).0 (items (way_end t front).0)

-- a key's place: two ways down at most, of which each has at most one node more than the longest key has bytes
abbrev pub PlaceReads : ℕ → ℕ → ℕ → Type 0
PlaceReads longest old new = new ≤ old + 2 * (longest + 1)

-- an end of a range: fewer nodes than three times the bytes of the longest key and two
abbrev pub EndReads : ℕ → ℕ → ℕ → Type 0
EndReads longest old new = new + 1 ≤ old + 3 * (longest + 2)

-- both ends of a range, or of the part with a prefix: six times as many at most
abbrev pub SpanReads : ℕ → ℕ → ℕ → Type 0
SpanReads longest old new = new ≤ old + 6 * (longest + 2)

-- what the counts of the program are told by: as many again for each byte that the bound has
abbrev pub OpeningReads : ℕ → ℕ → ℕ → ℕ → Type 0
OpeningReads longest len old new = new ≤ old + (len + 6) * (longest + 2)

-- how many bytes a bound has
abbrev pub bound_len : Bound (List ℕ) → ℕ
bound_len (Included key) = length key
bound_len (Excluded key) = length key
bound_len Unbounded = 0

-- this is so of whatever number of bytes the keys of a tree's leaves have at most
abbrev pub ForLongest : {K V : Type 0} → (K → List ℕ) → Shape K V → (ℕ → Type 0) → Type 0
ForLongest bytes s IsSo = (longest : ℕ) → KeysWithin bytes longest (leaves s) → IsSo longest
