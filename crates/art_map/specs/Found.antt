-- The leaf that a look-up finds in a map.
use Rattle.std.specs.Prelude.{◌≡◌, ℕ, Bool, true, Option, Some, None, IsSome, is_some, refl}
use Rattle.std.specs.Map.{lookup_entry, set_value}
use Rattle.art_arena.specs.arena.Arena.{Held, cell_of, held_at, node_at}
use Rattle.art_arena.specs.arena.Cells.{Cell, leaf_name, pair, branches}
use Rattle.art_arena.proofs.shapes.LeafValues.{leaf-there}
use Rattle.art_map.specs.Contents.{Contents, HasLeafAt}
use Rattle.art_map.specs.Lends.{with_value_at}
use Rattle.art_map.specs.declared.map.prefix_entry.Spot.{Spot}
use Rattle.art_map.specs.declared.map.prefix_entry.Spot.TheVariants.{Stored, New}

-- the leaf of a key, where it is stored
abbrev pub stored_slot : {K : Type 0} → Spot K → Option ℕ
stored_slot (Stored slot) = Some slot
stored_slot (New k) = None

module _ {K V : Type 0} where
  -- the leaf under this slab key has this pair
  abbrev pub HasPairAt : Contents K V → ℕ → K × V → Type 0
  HasPairAt m slot p = node_at m.nodes (leaf_name slot) ≡ Some (pair p.0 p.1)

  -- the leaf has this pair, or there is none
  abbrev pub IsAt : Option (K × V) → Contents K V → Option ℕ → Type 0
  IsAt wanted m None = wanted ≡ None
  IsAt wanted m (Some slot) = (p : K × V) × HasPairAt m slot p × (wanted ≡ Some p)

  -- the leaf has the first pair whose key passes the test, which has another value where the leaf has; or no key passes
  abbrev pub IsFound : (K → Bool) → Contents K V → Option ℕ → Type 0
  IsFound test m None = lookup_entry test m.pairs ≡ None
  IsFound test m (Some slot) =
      (p : K × V) × HasPairAt m slot p × (lookup_entry test m.pairs ≡ Some p)
      × ((w : V) → (with_value_at m slot w).pairs ≡ set_value test m.pairs w)

  -- the pair of a leaf
  abbrev pub leaf_pair : Option (Cell K V) → Option (K × V)
  leaf_pair None = None
  leaf_pair (Some (pair k v)) = Some (k, v)
  leaf_pair (Some (branches node)) = None

  -- the pair of the leaf under this slab key, if there is one
  abbrev pub pair_under : Contents K V → ℕ → Option (K × V)
  pair_under m slot = leaf_pair (node_at m.nodes (leaf_name slot))

  abbrev pub HasPairUnder : Contents K V → ℕ → Type 0
  HasPairUnder m slot = IsSome (pair_under m slot)

  -- where a key is stored, its leaf has a pair
  abbrev pub is_held : Contents K V → Spot K → Bool
  is_held m (Stored slot) = is_some (pair_under m slot)
  is_held m (New k) = true

  -- where a leaf has a pair, it is there
  pub has_leaf : (m : Contents K V) (slot : ℕ) → HasPairUnder m slot → HasLeafAt m slot
  has_leaf m slot has = go (held_at m.nodes (leaf_name slot)) has
    where
      go : (o : Option (Held K V)) → IsSome (leaf_pair (cell_of o)) → IsSome o
      go None h = absurd (cc)
      go (Some held) h = refl

  -- and where it is written, it still has one
  pub still_held : (m : Contents K V) (slot : ℕ) (w : V) → HasPairUnder m slot
      → HasPairUnder (with_value_at m slot w) slot
  still_held m slot w has = rw ((leaf-there m.nodes slot (has_leaf m slot has)).written w).changed refl
