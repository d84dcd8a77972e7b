-- Runs of leaves whose ends are told by a hint.
use Rattle.std.specs.Prelude.{ℕ, Bool, true, false, not, List, Option}
use Rattle.std.specs.BTreeMap.Range.{is_from_start, is_past_end}
use Rattle.std.specs.declared.ops.Bound.{Bound}
use Rattle.art_bytes.specs.Keys.{bytes_cmp}
use Rattle.art_nodes.specs.declared.leaf.LeafNode.{LeafNode}

-- the test that a key is inside a bound, as a start or as an end
abbrev pub is_inside : Bool → Bound (List ℕ) → List ℕ → Bool
is_inside true bound key = is_from_start bytes_cmp bound key
is_inside false bound key = not (is_past_end bytes_cmp bound key)

-- the slab key of the leaf beside a leaf, where a run that begins or ends with it has none
abbrev pub beside : {K V : Type 0} → Bool → LeafNode K V → Option ℕ
beside true leaf = leaf.previous
beside false leaf = leaf.next
