-- A closure that is asked of a map's pairs, one after another, whether they leave the map.
use Rattle.std.specs.Prelude.{◌≡◌, ◌⊎◌, ⊤, ℕ, Bool, false, cond, List, [], ◌∷◌, ◌++◌, reverse, Option, Some, None}
use Rattle.std.specs.Prelude.{Result, Ok, Err}
use Rattle.std.specs.List.{FoldsTo}
use Rattle.std.specs.List.Retain.{ExtractsNext}
use Rattle.std.specs.Borrow.{Bor, MutBor}
use Rattle.std.specs.Map.Calls.{CalledAtPair, SomeCallAtPair, TakesPair}
use denote.Param.Members.{Mut}
use Rattle.art_arena.specs.arena.Arena.{UsesRoom}
use Rattle.art_arena.specs.arena.Shapes.{key_of}
use Rattle.art_arena.specs.declared.ends.End.{End}
use Rattle.art_arena.specs.declared.ends.End.TheVariants.{First, Last}
use Rattle.art_arena.specs.tree.Shrinks.{Shrinks}
use Rattle.art_bytes.specs.declared.as_bytes.AsBytes as as_bytes
use Rattle.art_operations.specs.Frees.{FreesLeaves}
use Rattle.art_operations.specs.KeyedLists.{without_key}
use Rattle.art_operations.specs.Pairs.{IsAtEnd, with_pair_put}
use Rattle.art_map.specs.Contents.{Contents}
use Rattle.art_map.specs.Extractions.{left_of, map_of}
use Rattle.art_map.specs.LeafNames.{AddsNoLeaf}
use Rattle.art_map.specs.declared.map.extract_if.ExtractIf.{ExtractIf}

-- a list as it is met from this end
abbrev pub from_end : {X : Type 0} → End → List X → List X
from_end First xs = xs
from_end Last xs = reverse xs

-- these items are met in turn, each at one end or the other of what is then left of the list
abbrev pub AreMet : {X : Type 0} → List X → List X → Type 0
AreMet xs [] = ⊤
AreMet {X} xs (y ∷ ys) = (end : End) × (rest : List X) × IsAtEnd end y rest xs × AreMet rest ys

-- the pairs with these put in at the places of their keys, one after another
abbrev pub with_pairs_put : {K V : Type 0} → (K → List ℕ) → List (K × V) → List (K × V) → List (K × V)
with_pairs_put bytes [] pairs = pairs
with_pairs_put bytes (p ∷ ps) pairs = with_pairs_put bytes ps (with_pair_put bytes p.0 p.1 pairs)

-- how many were taken out by a call that may be refused: one or none
abbrev pub taken_by : {A E : Type 0} → Option (Result A E) → ℕ
taken_by None = 0
taken_by (Some (Ok x)) = 1
taken_by (Some (Err e)) = 0

-- No leaf is new. Where a pair was taken out, room for one node of each kind may be used up, and there is room for one
-- leaf more; else all room stays.
abbrev pub TakesOut : {K V A E : Type 0} → (K → List ℕ) → Option (Result A E) → Contents K V → Contents K V → Type 0
TakesOut bytes r old new =
    AddsNoLeaf bytes old new × UsesRoom (taken_by r) old.nodes new.nodes × FreesLeaves (taken_by r) old.nodes new.nodes

-- the pairs of a map, those that were not asked yet, and the closure
pub record Asking (K V F : Type 0) : Type 0 where
  pub pairs : List (K × V)
  pub left : List (K × V)
  pub asks : F

module _ {K V F : Type 0} (T : F → K → V → Bool → V → F → Type 0) where
  -- a call of f at the pair p answered b, and left f' and the pair q
  abbrev pub AnswersAt : F → K × V → Bool → F → K × V → Type 0
  AnswersAt f p b f' q = (q.0 ≡ p.0) × T f p.0 p.1 b q.1 f'

  -- Q holds at each pair that may be met next, of f as the calls at those met before have left it
  pub record CallableFromEnds (Q : F → K → V → Type 0) (f : F) (left : List (K × V)) : Type 0 where
    pub at : (met : List (K × V)) (p : K × V) (f' : F) → AreMet left (met ++ p ∷ [])
        → FoldsTo (SomeCallAtPair T) f met f' → Q f' p.0 p.1

  -- f was called at each pair in turn, as where pairs are retained, up to that with the key k. Of that one it said
  -- false, and yet it stays with the value that f left there, and so do those after it
  abbrev pub StopsAt : F → List (K × V) → K → List (K × V) → Type 0
  StopsAt f [] k new = ⊥
  StopsAt f (p ∷ ps) k new =
      (b : Bool) × (w : V) × (f' : F) × T f p.0 p.1 b w f'
      × (((b ≡ false) × (k ≡ p.0) × (new ≡ (p.0, w) ∷ ps))
      ⊎ ((rest : List (K × V)) × StopsAt f' ps k rest × (new ≡ cond b ((p.0, w) ∷ rest) rest)))

  module _ (bytes : K → List ℕ) {E : Type 0} where
    -- what a call answers of the pair that was picked, if one was, and leaves, the pairs being these and those that
    -- were not asked these others. The pair leaves the map; or it stays, since its removal is refused, and then none
    -- is asked any more
    abbrev pub ComesOf : Option (K × V) → End → List (K × V) → List (K × V) → Option (Result (K × V) E) → Asking K V F
        → Type 0
    ComesOf None end pairs others None t = (t.pairs ≡ pairs) × (t.left ≡ [])
    ComesOf (Some p) end pairs others (Some (Ok q)) t =
        (q ≡ p) × (t.pairs ≡ without_key (key_of bytes) (bytes p.0) pairs) × (from_end end t.left ≡ others)
    ComesOf (Some p) end pairs others (Some (Err e)) t =
        (t.pairs ≡ with_pair_put bytes p.0 p.1 pairs) × (t.left ≡ []) × Shrinks (key_of bytes) t.pairs (bytes p.0)
    ComesOf None end pairs others (Some r) t = ⊥
    ComesOf (Some p) end pairs others None t = ⊥

    -- One call of an extraction asks the pairs that were not asked yet in turn from this end, until the closure says
    -- true. Those that were passed over have the values that it left them.
    pub record Extracts (end : End) (s : Asking K V F) (r : Option (Result (K × V) E)) (t : Asking K V F) : Type 0 where
      pub picked : Option (K × V)
      pub passed : List (K × V)
      pub others : List (K × V)
      pub asked : ExtractsNext AnswersAt s.asks (from_end end s.left) picked t.asks passed others
      pub comes : ComesOf picked end (with_pairs_put bytes passed s.pairs) others r t

module _ {K V F : Type 0} {P : ℕ} {g : as_bytes.Ghosts K} where
  -- the reference to the map
  abbrev pub extract_map : ExtractIf K V F P g → MutBor (Contents K V)
  extract_map e = map_of e.extraction

  -- the pairs of the map, those that were not asked yet, and the closure
  abbrev pub asking : ExtractIf K V F P g → Asking K V F
  asking e = record { pairs = (extract_map e).now.pairs; left = left_of e.extraction; asks = e.pred }

  module _ (f : Mut F (Bor K × (MutBor V × Unit {0})) (Bool × (MutBor V × Unit {0}))) where
    -- the closure may be asked of each pair that was not asked yet, in whatever state its earlier calls leave it
    abbrev pub CanExtractIf : ExtractIf K V F P g → Type 0
    CanExtractIf e = CallableFromEnds (CalledAtPair f) (TakesPair f) (asking e).asks (asking e).left

    -- one call of an extraction from this end
    abbrev pub ExtractsIf : {E : Type 0} → End → ExtractIf K V F P g → Option (Result (K × V) E) → ExtractIf K V F P g
        → Type 0
    ExtractsIf end s r t =
        ((extract_map t).ghost_name ≡ (extract_map s).ghost_name)
        × Extracts (CalledAtPair f) g.bytes end (asking s) r (asking t)
        × TakesOut g.bytes r (extract_map s).now (extract_map t).now
