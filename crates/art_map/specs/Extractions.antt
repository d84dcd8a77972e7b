-- What a contract says of an extraction.
use Rattle.std.specs.Prelude.{◌≡◌, ℕ, List, [], Option, Some, None, OnSome}
use Rattle.std.specs.Borrow.{Fml, RattleType, MutBor, LendsSo}
use denote.Param.{number}
use mir.Syntax.{named}
use Rattle.art_arena.specs.arena.Arena.{KeepsRoomOf}
use Rattle.art_arena.specs.declared.ends.End.{End}
use Rattle.art_bytes.specs.declared.as_bytes.AsBytes as as_bytes
use Rattle.art_operations.specs.Pairs.{IsAtEnd, with_pair_put}
use Rattle.art_map.specs.Contents.{Contents}
use Rattle.art_map.specs.LeafNames.{KeepsAllLeaves}
use Rattle.art_walks.specs.Walked.{pairs_left}
use Rattle.art_map.specs.declared.map.extraction.Extraction.{Extraction}
use Rattle.art_map.specs.contracts.map.extraction.Extraction as extraction

module _ {K V : Type 0} {P : ℕ} {g : as_bytes.Ghosts K} where
  -- the reference to the map
  abbrev pub map_of : Extraction K V P g → MutBor (Contents K V)
  map_of e = e.map

  -- the pairs that are still to be asked
  abbrev pub left_of : Extraction K V P g → List (K × V)
  left_of e = pairs_left e.map.now.nodes e.leaves

  -- d is e, once w is the value of the pair at this end of those; each leaf has the key that it had, and room stays
  pub record IsWrittenAt (end : End) (e d : Extraction K V P g) (w : V) : Type 0 where
    pub same_map : (map_of d).ghost_name ≡ (map_of e).ghost_name
    pub left : (k : K) (v : V) (rest : List (K × V)) → IsAtEnd end (k, v) rest (left_of e)
        → IsAtEnd end (k, w) rest (left_of d) × ((map_of d).now.pairs ≡ with_pair_put g.bytes k w (map_of e).now.pairs)
    pub names : KeepsAllLeaves g.bytes (map_of e).now (map_of d).now
    pub room : KeepsRoomOf (map_of e).now.nodes (map_of d).now.nodes

-- the value of the pair at this end is lent, or there is no pair
abbrev pub IsLentAt : {K V : Type 0} → End → List (K × V) → Option (MutBor V) → Type 0
IsLentAt end left None = left ≡ []
IsLentAt {K} {V} end left (Some value) = (k : K) × (rest : List (K × V)) × IsAtEnd end (k, value.now) rest left

module _ (K V : RattleType) (P : ℕ) (key : as_bytes.Ghosts K.Denot) where
  -- once the borrow r ends, the pair at this end has the last value written through r; where there is none, all is as
  -- it was. The lifetime of the extraction is the second of the signature
  abbrev pub lends_end : End → MutBor (Extraction K.Denot V.Denot P key) → Option (MutBor V.Denot) → Fml
  lends_end end e r =
      LendsSo (extraction.the_row (record { mir = named 1; lft = [] }) K V (number P) key) V e r
      (λ d w. OnSome r (IsWrittenAt end e.now d w)) (λ d. (map_of d ≡ map_of e.now) × (left_of d ≡ left_of e.now))
