-- Why a pair is not put in.
use Rattle.std.specs.Prelude.{◌≡◌, ℕ, List}
use Rattle.art_arena.specs.arena.Shapes.{key_of}
use Rattle.art_operations.specs.KeyedLists.{IsBlocked}
use Rattle.art_map.specs.declared.map.refused.TryInsertError.{TryInsertError}
use Rattle.art_map.specs.declared.map.refused.TryInsertError.TheVariants.{Prefix, Memory}
use Rattle.art_map.specs.declared.map.refused.TryKeyError.{TryKeyError}
use Rattle.art_map.specs.declared.map.refused.TryKeyError.TheVariants as key

-- the pair is handed back: a stored key blocks its key, whose bytes are told; or no memory was found
abbrev pub IsTryRefused : {K V : Type 0} → (K → List ℕ) → List (K × V) → K → V → TryInsertError K V → Type 0
IsTryRefused bytes pairs key value (Prefix k v error) =
    (k ≡ key) × (v ≡ value) × (error.byte_repr ≡ bytes key) × IsBlocked (key_of bytes) (bytes key) pairs
IsTryRefused bytes pairs key value (Memory k v) = (k ≡ key) × (v ≡ value)

-- the key is handed back, and a stored key blocks it: its bytes are told; or no memory for them was found
abbrev pub IsKeyRefused : {K V : Type 0} → (K → List ℕ) → List (K × V) → K → TryKeyError K → Type 0
IsKeyRefused bytes pairs wanted (key.Prefix k error) =
    (k ≡ wanted) × (error.byte_repr ≡ bytes wanted) × IsBlocked (key_of bytes) (bytes wanted) pairs
IsKeyRefused bytes pairs wanted (key.Memory k) = (k ≡ wanted) × IsBlocked (key_of bytes) (bytes wanted) pairs
