-- A closure that is asked of a set's keys, one after another, whether they leave the set.
use Rattle.std.specs.Prelude.{◌≡◌, ◌⊎◌, ℕ, Bool, false, cond, List, [], ◌∷◌, ◌++◌, Option, Some, None, Result, Ok, Err}
use Rattle.std.specs.Borrow.{Bor, MutBor}
use Rattle.std.specs.Fn.{CalledAt, Mut, TakesAt}
use Rattle.std.specs.List.{FoldsTo}
use Rattle.std.specs.List.Retain.{ExtractsNext}
use Rattle.std.specs.Map.{keys_of}
use Rattle.art_arena.specs.tree.Shrinks.{Shrinks}
use Rattle.art_bytes.specs.declared.as_bytes.AsBytes as as_bytes
use Rattle.art_map.specs.Asked.{TakesOut}
use Rattle.art_map.specs.Contents.{Contents}
use Rattle.art_map.specs.Extractions.{left_of, map_of}
use Rattle.art_operations.specs.KeyedLists.{without_key}
use Rattle.art_set.specs.declared.iterators.extract_if.ExtractIf.{ExtractIf}

-- the keys of a set, those that were not asked yet, and the closure
pub record AskingKeys (K F : Type 0) : Type 0 where
  pub keys : List K
  pub left : List K
  pub asks : F

module _ {K F : Type 0} (T : F → K → Bool → F → Type 0) where
  -- a call of f at the key k may leave f'
  abbrev pub SomeCallAt : F → K → F → Type 0
  SomeCallAt f k f' = (b : Bool) × T f k b f'

  -- Q holds at each key, of f as the calls at those before have left it
  pub record CallableOnEachKey (Q : F → K → Type 0) (f : F) (keys : List K) : Type 0 where
    pub at : (before after : List K) (f' : F) (k : K) → keys ≡ before ++ k ∷ after → FoldsTo SomeCallAt f before f'
        → Q f' k

  -- f was called at each key in turn, as where keys are retained, up to k. Of that one it said false, and yet it stays,
  -- and so do those after it
  abbrev pub StopsAtKey : F → List K → K → List K → Type 0
  StopsAtKey f [] k new = ⊥
  StopsAtKey f (x ∷ xs) k new =
      (b : Bool) × (f' : F) × T f x b f'
      × (((b ≡ false) × (k ≡ x) × (new ≡ x ∷ xs))
      ⊎ ((rest : List K) × StopsAtKey f' xs k rest × (new ≡ cond b (x ∷ rest) rest)))

  -- a call of f at the key k answered b, and left f' and the key
  abbrev pub AnswersForKey : F → K → Bool → F → K → Type 0
  AnswersForKey f k b f' l = (l ≡ k) × T f k b f'

  module _ (bytes : K → List ℕ) {E : Type 0} where
    -- what a call answers of the key that was picked, if one was, and leaves, the keys being these and those that were
    -- not asked these others. The key leaves the set; or it stays, since its removal is refused, and then none is asked
    -- any more
    abbrev pub KeysComeOf : Option K → List K → List K → Option (Result K E) → AskingKeys K F → Type 0
    KeysComeOf None ks rest None t = (t.keys ≡ ks) × (t.left ≡ [])
    KeysComeOf (Some k) ks rest (Some (Ok l)) t = (l ≡ k) × (t.keys ≡ without_key bytes (bytes k) ks) × (t.left ≡ rest)
    KeysComeOf (Some k) ks rest (Some (Err e)) t = (t.keys ≡ ks) × (t.left ≡ []) × Shrinks bytes ks (bytes k)
    KeysComeOf None ks rest (Some r) t = ⊥
    KeysComeOf (Some k) ks rest None t = ⊥

    -- one call of an extraction asks the keys that were not asked yet in turn, until the closure says true
    pub record ExtractsKey (s : AskingKeys K F) (r : Option (Result K E)) (t : AskingKeys K F) : Type 0 where
      pub picked : Option K
      pub passed : List K
      pub others : List K
      pub asked : ExtractsNext AnswersForKey s.asks s.left picked t.asks passed others
      pub comes : KeysComeOf picked s.keys others r t

module _ {K F : Type 0} {P : ℕ} {g : as_bytes.Ghosts K} where
  -- the reference to the map of the set
  abbrev pub extract_set : ExtractIf K F P g → MutBor (Contents K (Unit {0}))
  extract_set e = map_of e.extraction

  -- the keys of the set, those that were not asked yet, and the closure
  abbrev pub asking_keys : ExtractIf K F P g → AskingKeys K F
  asking_keys e = record {
    keys = keys_of (extract_set e).now.pairs;
    left = keys_of (left_of e.extraction);
    asks = e.pred;
  }

  module _ (f : Mut F (Bor K × Unit {0}) Bool) where
    -- the closure may be asked of each key that was not asked yet, in whatever state its earlier calls leave it
    abbrev pub CanExtractKeys : ExtractIf K F P g → Type 0
    CanExtractKeys e = CallableOnEachKey (CalledAt f) (TakesAt f) (asking_keys e).asks (asking_keys e).left

    -- one call of an extraction
    abbrev pub ExtractsKeyIf : {E : Type 0} → ExtractIf K F P g → Option (Result K E) → ExtractIf K F P g → Type 0
    ExtractsKeyIf s r t =
        ((extract_set t).ghost_name ≡ (extract_set s).ghost_name)
        × ExtractsKey (CalledAt f) g.bytes (asking_keys s) r (asking_keys t)
        × TakesOut g.bytes r (extract_set s).now (extract_set t).now
