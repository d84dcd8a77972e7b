-- Which lines may find no memory.
use Rattle.std.specs.Prelude.{◌≢◌, ◌⊎◌, ℕ, List, [], IsSome, bytes_eq}
use Rattle.std.specs.Ordering.{int_eq}
use Rattle.art_arena.specs.tree.Shrinks.{Shrinks}
use Rattle.art_bytes.specs.Laws.{pair_key}
use Rattle.art_operations.specs.Subtrees.{ShrinksWithout}
use Rattle.art_lines.specs.Commands.{put, over, del, nput, ndel, drop, Command, of_tenant, audit, Spells}
use Rattle.art_lines.specs.Keys.{full_key}
use Rattle.art_engine.specs.Keys.{full_key_of, number_key_of}
use Rattle.art_engine.specs.Records.{Records, own}
use Rattle.art_engine.specs.Replies.{value_at}

-- A command may find no memory at these records: a put and an audit may, and the deletion of a key or a number that is
-- there where the longest front that its full key shares with another one is followed by as many different bytes as a
-- node's kind has least. So may a drop where the tenant has keys, or numbers, and that is so of the longest front that
-- their full keys share with those of other tenants.
abbrev pub MayRefuse : Records → Command → Type 0
MayRefuse records (of_tenant tenant (put key value)) = Unit {0}
MayRefuse records (of_tenant tenant (over key value)) = Unit {0}
MayRefuse records (of_tenant tenant (del key)) =
    IsSome (value_at bytes_eq key (own tenant records).keys) × Shrinks full_key_of records.keys (full_key tenant key)
MayRefuse records (of_tenant tenant (nput number value)) = Unit {0}
MayRefuse records (of_tenant tenant (ndel number)) =
    IsSome (value_at int_eq number (own tenant records).numbers)
    × Shrinks number_key_of records.numbers (pair_key (tenant, number))
MayRefuse records (of_tenant tenant drop) =
    (((own tenant records).keys ≢ []) × ShrinksWithout full_key_of records.keys (full_key tenant []))
    ⊎ (((own tenant records).numbers ≢ []) × ShrinksWithout number_key_of records.numbers (full_key tenant []))
MayRefuse records audit = Unit {0}
MayRefuse records other = ⊥

-- A line may, where it spells such a command.
abbrev pub LineMayRefuse : Records → List ℕ → Type 0
LineMayRefuse records line = (command : Command) × Spells line command × MayRefuse records command
