-- What a contract says of the removal of all keys with a prefix.
use Rattle.std.specs.Prelude.{◌≡◌, ℕ, List, Result}
use Rattle.std.specs.Borrow.{Fml, RattleType, MutBor, RestsIfErr}
use denote.Param.{number}
use Rattle.art_bytes.specs.declared.as_bytes.AsBytes as as_bytes
use Rattle.art_arena.specs.arena.Arena.{KeepsRoomOf}
use Rattle.art_map.specs.Contents.{Contents, HasSameNodes}
use Rattle.art_map.specs.declared.map.prefix_removal.PrefixRemoval.{PrefixRemoval}
use Rattle.art_map.specs.contracts.map.TreeMap as map

module _ {K V : Type 0} {P : ℕ} {M : Type 0} {g : as_bytes.Ghosts K} where
  -- the reference to the map
  abbrev pub removal_map : PrefixRemoval K V P M g → MutBor (Contents K V)
  removal_map r = r.map

  -- the prefix
  abbrev pub removal_prefix : PrefixRemoval K V P M g → List ℕ
  removal_prefix r = r.front.items

  -- how many nodes were read to find the keys with it
  abbrev pub removal_reads : PrefixRemoval K V P M g → ℕ
  removal_reads r = r.block.reads

module _ (K V : RattleType) (P : ℕ) (key : as_bytes.Ghosts K.Denot) where
  -- the map's type, as the logic holds it
  abbrev map_row : RattleType
  map_row = map.the_row K V (number P) key

  -- where no removal is made ready, the map has the pairs that it had, every node of it is what it was, and what room
  -- there was of each kind stays
  abbrev pub rests_if_unprepared : {E : Type 0} → MutBor (Contents K.Denot V.Denot)
      → Result (PrefixRemoval K.Denot V.Denot P map_row.Denot key) E → Fml
  rests_if_unprepared m r =
      RestsIfErr map_row m (λ e. (removal_map e).ghost_name) r
      (λ n. (n.pairs ≡ m.now.pairs) × HasSameNodes m.now n × KeepsRoomOf m.now.nodes n.nodes)
