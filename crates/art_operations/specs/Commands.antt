-- What a list of commands makes of an ascending list of pairs, and what it answers.
use Rattle.std.specs.Prelude.{◌≡◌, ℕ, zero, suc, List, [], ◌∷◌, length}
use Rattle.art_arena.specs.arena.Shapes.{key_of}
use Rattle.art_arena.specs.tree.Shrinks.{Shrinks}
use Rattle.art_operations.specs.KeyedLists.{HasKey, IsBlocked, with_key, without_key, overlapping}
use Rattle.art_operations.specs.Pairs.{with_pair_put, with_pair_over}
use Rattle.art_operations.specs.declared.running.Command.{Command}
use Rattle.art_operations.specs.declared.running.Command.TheVariants.{Insert, PrefixInsert, Delete, Clone}
use Rattle.art_operations.specs.declared.running.Answer.{Answer}
use Rattle.art_operations.specs.declared.running.Answer.TheVariants.{Done, Prefix, Memory}

module _ {K V : Type 0} where
  -- one more, if the command clones the tree
  abbrev pub with_clone : Command K V → ℕ → ℕ
  with_clone Clone n = suc n
  with_clone command n = n

  -- how many of the commands clone the tree
  abbrev pub clones_in : List (Command K V) → ℕ
  clones_in [] = zero
  clones_in (command ∷ commands) = with_clone command (clones_in commands)

module _ {K V : Type 0} (bytes : K → List ℕ) where
  -- the pairs after a command that was done: a pair is put in at the place of its key, where no other stands then; or
  -- in the place of all whose keys overlap its key; the pairs with a key are taken out; a clone takes the tree's place
  abbrev pub done : Command K V → List (K × V) → List (K × V)
  done (Insert k v) pairs = with_pair_put bytes k v pairs
  done (PrefixInsert k v) pairs = with_pair_over bytes k v pairs
  done (Delete k) pairs = without_key (key_of bytes) (bytes k) pairs
  done Clone pairs = pairs

  -- the pairs after a command with this answer: it counts if it was done
  abbrev pub after : Command K V → Answer → List (K × V) → List (K × V)
  after command (Done n) pairs = done command pairs
  after command refused pairs = pairs

  -- the pairs after commands with these answers
  abbrev pub pairs_after : List (Command K V) → List Answer → List (K × V) → List (K × V)
  pairs_after [] answers pairs = pairs
  pairs_after (command ∷ commands) [] pairs = pairs
  pairs_after (command ∷ commands) (answer ∷ answers) pairs = pairs_after commands answers (after command answer pairs)

  -- What a command answers on these pairs: how many had its key, and were replaced or removed; of a prefix insertion
  -- how many had keys that overlap its key. An insertion is answered `Prefix` exactly where a pair blocks its key: for
  -- want of memory it is refused only where none does. A deletion is refused so only where it makes a node smaller. A
  -- clone replaces no pair.
  abbrev pub IsAnswered : List (K × V) → Command K V → Answer → Type 0
  IsAnswered pairs (Insert k v) (Done n) =
      (n ≡ length (with_key (key_of bytes) (bytes k) pairs)) × (IsBlocked (key_of bytes) (bytes k) pairs → ⊥)
  IsAnswered pairs (Insert k v) Prefix = IsBlocked (key_of bytes) (bytes k) pairs
  IsAnswered pairs (Insert k v) Memory = IsBlocked (key_of bytes) (bytes k) pairs → ⊥
  IsAnswered pairs (PrefixInsert k v) (Done n) = n ≡ length (overlapping (key_of bytes) (bytes k) pairs)
  IsAnswered pairs (Delete k) (Done n) = n ≡ length (with_key (key_of bytes) (bytes k) pairs)
  IsAnswered pairs (Delete k) Memory = HasKey (key_of bytes) (bytes k) pairs × Shrinks (key_of bytes) pairs (bytes k)
  IsAnswered pairs Clone (Done n) = n ≡ 0
  IsAnswered pairs command Prefix = ⊥
  IsAnswered pairs command Memory = Unit {0}

  -- an answer for each command in turn, each on the pairs that the ones before it left
  abbrev pub AreAnswered : List (K × V) → List (Command K V) → List Answer → Type 0
  AreAnswered pairs [] [] = Unit {0}
  AreAnswered pairs (command ∷ commands) (answer ∷ answers) =
      IsAnswered pairs command answer × AreAnswered (after command answer pairs) commands answers
  AreAnswered pairs commands answers = ⊥
