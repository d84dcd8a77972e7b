-- What a contract says of a set: its keys, which ascend by their bytes, and the nodes that hold them.
use Rattle.std.specs.Prelude.{ℕ, Bool, List, [], ◌∷◌, filter, Option, Some, None}
use Rattle.std.specs.List.{list_any}
use Rattle.std.specs.Map.{keys_of}
use Rattle.std.specs.BTreeMap.Range.{range_contains}
use Rattle.std.specs.declared.ops.Bound.{Bound}
use Rattle.art_nodes.specs.Name.{Name}
use Rattle.art_arena.specs.arena.Arena.{Arena}
use Rattle.art_arena.specs.declared.ends.End.{End}
use Rattle.art_arena.specs.tree.Changes.{put_in_order}
use Rattle.art_arena.specs.tree.Shrinks.{Shrinks}
use Rattle.art_bytes.specs.Keys.{bytes_cmp}
use Rattle.art_map.specs.Contents.{Contents, has_bytes}
use Rattle.art_operations.specs.KeyedLists.{without_key}
use Rattle.art_operations.specs.Pairs.{IsAtEnd}

-- the keys, ascending by their bytes; the nodes that hold them, and the name of the root
pub record Members (K : Type 0) : Type 0 where
  pub keys : List K
  pub nodes : Arena K (Unit {0})
  pub root : Option Name

-- those of the set that a map to the unit is
abbrev pub members : {K : Type 0} → Contents K (Unit {0}) → Members K
members m = record { keys = keys_of m.pairs; nodes = m.nodes; root = m.root }

-- the key of a pair, if there is one
abbrev pub key_if_some : {K V : Type 0} → Option (K × V) → Option K
key_if_some None = None
key_if_some (Some p) = Some p.0

module _ {K : Type 0} (bytes : K → List ℕ) where
  -- whether a key of the list has these bytes
  abbrev pub is_member : List ℕ → List K → Bool
  is_member query keys = list_any (has_bytes bytes query) keys

  -- the keys with this one at the place of its bytes, where no other stands then
  abbrev pub with_key_put : K → List K → List K
  with_key_put k keys = put_in_order bytes k (without_key bytes (bytes k) keys)

  -- the keys with these put in at the places of their bytes, one after another
  abbrev pub with_keys_put : List K → List K → List K
  with_keys_put [] keys = keys
  with_keys_put (k ∷ ks) keys = with_keys_put ks (with_key_put k keys)

  -- those whose bytes are inside the start bound and inside the end bound
  abbrev pub keys_between : Bound (List ℕ) → Bound (List ℕ) → List K → List K
  keys_between start end keys = filter (λ k. range_contains bytes_cmp start end (bytes k)) keys

  -- the loss of the key at this end makes a node smaller
  abbrev pub KeyShrinksAtEnd : End → List K → Type 0
  KeyShrinksAtEnd end keys = (k : K) × (rest : List K) × IsAtEnd end k rest keys × Shrinks bytes keys (bytes k)
