-- The whole prefix of a node, and how a key meets it.
use Rattle.std.specs.Prelude.{◌≡◌, ◌≢◌, ℕ, ◌+◌, ◌<◌, ◌≤◌, nat_le, List, [], length, drop, Option, None, if◌then◌else◌}
use Rattle.std.specs.Prelude.{Result, IfOk, IfErr}
use Rattle.std.specs.List.{AllByRecursion}
use Rattle.std.specs.declared.cmp.Ordering.{Ordering}
use Rattle.std.specs.declared.cmp.Ordering.TheVariants.{Equal}
use Rattle.art_bytes.specs.Keys.{BeginsWith, bytes_cmp}
use Rattle.art_nodes.specs.PrefixMatch.{agreeing}
use Rattle.art_nodes.specs.declared.prefix_match.ExplicitMismatch.{ExplicitMismatch}
use Rattle.art_nodes.specs.declared.prefix_match.PrefixMatch.{PrefixMatch}
use Rattle.art_arena.specs.arena.Arena.{Arena}
use Rattle.art_arena.specs.arena.Reads.{KeysWithin, ReadsToFirst}
use Rattle.art_arena.specs.arena.Shapes.{Shape, leaf_at, inner_at, leaves}
use Rattle.art_arena.specs.arena.Linked.{first_slot}
use Rattle.art_arena.specs.arena.Visited.{arena_of, count_of}
use Rattle.art_arena.specs.declared.reader.Reader.{Reader}

module _ {K V : Type 0} where
  -- the bytes that a node puts between the path to it and the bytes of its children
  abbrev pub prefix_of : Shape K V → List ℕ
  prefix_of (leaf_at slot k v) = []
  prefix_of (inner_at n prefix kids) = prefix

  -- the leaf whose key lends the prefix, where the header, which stores `P` bytes, hasn't all of it: the first below
  abbrev pub lender : ℕ → Shape K V → Option ℕ
  lender P s = if nat_le (length (prefix_of s)) P then None else first_slot (leaves s) None

module _ {K V : Type 0} (bytes : K → List ℕ) where
  -- a key that leaves the prefix of this node after the path, or ends inside it: so many bytes agree, and the prefix
  -- compares so with the rest of the key, as each leaf's key below does with a key that begins with the path
  pub record Mismatches (key path : List ℕ) (s : Shape K V) (matched : ℕ) (order : Ordering) : Type 0 where
    pub agrees : matched ≡ agreeing (prefix_of s) (drop (length path) key)
    pub inside : matched < length (prefix_of s)
    pub compares : order ≡ bytes_cmp (prefix_of s) (drop (length path) key)
    pub apart : order ≢ Equal
    pub leaves_beside : BeginsWith path key → AllByRecursion (λ l. bytes_cmp (bytes l.key) key ≡ order) (leaves s)

  -- how a key, so many bytes of which lead to this part, meets its whole prefix, and what is read for that; `old` and
  -- `new` are the reader before and after it
  pub record MatchesPrefix (P : ℕ) (key : List ℕ) (depth : ℕ) (path : List ℕ) (s : Shape K V)
      (result : Result PrefixMatch ExplicitMismatch) (old new : Reader (Arena K V)) : Type 0 where
    -- if it goes on with the prefix, the match has the prefix's length
    pub ok : IfOk result (λ m. (m.matched_bytes ≡ length (prefix_of s)) × BeginsWith (prefix_of s) (drop depth key))
    -- if it doesn't, the mismatch tells where they part, and on which side
    pub err : IfErr result (λ e. Mismatches key path s e.matched_bytes e.node_prefix_comparison_to_search_key_segment)
    -- nothing is read for a prefix that is wholly stored
    pub stored : length (prefix_of s) ≤ P → count_of new ≡ count_of old
    -- for one that isn't, the nodes down to the first leaf are read
    pub lent : P < length (prefix_of s) → ReadsToFirst bytes (arena_of old) path s (count_of old) (count_of new)
    -- with the bytes up to here, these are no more than the longest key below has
    pub few : (longest : ℕ) → KeysWithin bytes longest (leaves s) → count_of new + depth ≤ count_of old + longest
