-- What a look-up answers.
pub use Rattle.art_arena.specs.arena.Descents.{leaf_where, ReadsLookUp, ReadsPath}
use Rattle.std.specs.Prelude.{◌≡◌, ℕ, ◌<◌, ◌≤◌, nat_le, List, [], ◌∷◌, length, drop, Ok, Err, if◌then◌else◌}
use Rattle.std.specs.Prelude.{Bool, Option, Some, None}
use Rattle.std.specs.Str.{bytes_eq}
use Rattle.std.specs.declared.result.Result.{Result}
use Rattle.art_arena.specs.arena.Shapes.{LeafAt}
use Rattle.art_arena.specs.declared.descent.Landed.{Landed}
use Rattle.art_arena.specs.tree.Tenants.{begins_with}
use Rattle.art_nodes.specs.Header.{Header}
use Rattle.art_nodes.specs.PrefixMatch.{agreeing}
use Rattle.art_nodes.specs.declared.prefix_match.PrefixMatch.{PrefixMatch}
use Rattle.art_nodes.specs.declared.prefix_match.PessimisticMismatch.{PessimisticMismatch}
use Rattle.art_operations.specs.declared.lookup.PrefixMatchBehavior.{PrefixMatchBehavior}
use Rattle.art_operations.specs.declared.lookup.PrefixMatchBehavior.TheVariants.{Pessimistic, Optimistic}

-- which keys a look-up takes for a query: those that are a prefix of it, or else the one that equals it
abbrev pub takes_key : Bool → List ℕ → List ℕ → Bool
takes_key of_prefixes query key = if of_prefixes then begins_with key query else bytes_eq key query

-- the leaf that was landed at, or none
abbrev pub landed_leaf : {K V : Type 0} → Option (Landed K V) → List (LeafAt K V)
landed_leaf None = []
landed_leaf (Some landed) =
    record { slot = landed.name; key = landed.leaf.now.key; value = landed.leaf.now.value } ∷ []

-- how prefixes are matched after one of so many bytes, of which a header stores `P`
abbrev pub behavior_after : ℕ → PrefixMatchBehavior → ℕ → PrefixMatchBehavior
behavior_after P Optimistic len = Optimistic
behavior_after P Pessimistic len = if nat_le len P then Pessimistic else Optimistic

-- A prefix is compared with the rest of a key byte by byte. All its bytes agree, or so many do, fewer than it has.
abbrev pub IsMatchedByBytes : Header → List ℕ → Result PrefixMatch PessimisticMismatch → Type 0
IsMatchedByBytes header rest (Ok matched) =
    (matched.matched_bytes ≡ header.prefix_len) × (agreeing header.stored rest ≡ header.prefix_len)
IsMatchedByBytes header rest (Err mismatch) =
    (mismatch.matched_bytes ≡ agreeing header.stored rest) × (mismatch.matched_bytes < header.prefix_len)

-- It is compared by its length alone. The rest has as many bytes, or it has fewer, which all count.
abbrev pub IsMatchedByLength : Header → List ℕ → Result PrefixMatch PessimisticMismatch → Type 0
IsMatchedByLength header rest (Ok matched) =
    (matched.matched_bytes ≡ header.prefix_len) × (header.prefix_len ≤ length rest)
IsMatchedByLength header rest (Err mismatch) =
    (mismatch.matched_bytes ≡ length rest) × (length rest < header.prefix_len)

-- the bytes of a key that are looked at where a leaf stands at this depth
abbrev pub seen_by : PrefixMatchBehavior → ℕ → List ℕ → List ℕ
seen_by Optimistic depth key = key
seen_by Pessimistic depth key = drop depth key
