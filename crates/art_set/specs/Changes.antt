-- Why a key is not put in.
use Rattle.std.specs.Prelude.{◌≡◌, ℕ, List}
use Rattle.art_operations.specs.KeyedLists.{IsBlocked}
use Rattle.art_map.specs.declared.map.refused.TryKeyError.{TryKeyError}
use Rattle.art_map.specs.declared.map.refused.TryKeyError.TheVariants.{Prefix, Memory}

-- the key is handed back: a key of the set blocks it, and its bytes are told; or no memory was found
abbrev pub IsKeyTurnedAway : {K : Type 0} → (K → List ℕ) → List K → K → TryKeyError K → Type 0
IsKeyTurnedAway bytes keys key (Prefix k error) =
    (k ≡ key) × (error.byte_repr ≡ bytes key) × IsBlocked bytes (bytes key) keys
IsKeyTurnedAway bytes keys key (Memory k) = k ≡ key
