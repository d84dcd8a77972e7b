-- What a map ends as, where a `&mut` to one of its values is returned.
use Rattle.std.specs.Prelude.{◌≡◌, ℕ, Bool, Option}
use Rattle.std.specs.Borrow.{Fml, RattleType, MutBor, Lends, LendsSo}
use Rattle.std.specs.Map.{set_value}
use Rattle.art_bytes.specs.declared.as_bytes.AsBytes as as_bytes
use Rattle.art_arena.specs.arena.Arena.{KeepsRoomOf}
use Rattle.art_arena.specs.arena.Lends.{with_leaf_value}
use Rattle.art_map.specs.Contents.{Contents, contents}
use Rattle.art_map.specs.LeafNames.{KeepsAllLeaves}
use Rattle.art_map.specs.contracts.map.TreeMap.{the_row}

-- the map with another value in a leaf
abbrev pub with_value_at : {K V : Type 0} → Contents K V → ℕ → V → Contents K V
with_value_at m slot w = contents (with_leaf_value m.nodes slot w) m.root

module _ (K V P : RattleType) (key : as_bytes.Ghosts K.Denot) (m : MutBor (Contents K.Denot V.Denot)) where
  -- once the borrow r ends, the leaf has the last value written through r
  abbrev pub lends_value_at : ℕ → MutBor V.Denot → Fml
  lends_value_at slot r = Lends (the_row K V P key) V m r (with_value_at m.now slot)

  -- once the borrow r ends, the key that passes the test has the last value written through r, each leaf has the key
  -- that it had, and room stays; at `None` the map is as it was
  abbrev pub lends_get : (K.Denot → Bool) → Option (MutBor V.Denot) → Fml
  lends_get test r =
      LendsSo (the_row K V P key) V m r
      (λ n w. (n.pairs ≡ set_value test m.now.pairs w) × KeepsAllLeaves key.bytes m.now n
      × KeepsRoomOf m.now.nodes n.nodes) (λ n. n ≡ m.now)
