-- The full key that a tenant's key has among all.
use Rattle.std.specs.Prelude.{ℕ, List, ◌++◌}
use Rattle.std.specs.Int.{to_be_bytes, w32}

-- the full key of a tenant's key: four bytes of the tenant, the highest first, then the key
abbrev pub full_key : ℕ → List ℕ → List ℕ
full_key tenant key = to_be_bytes w32 tenant ++ key
