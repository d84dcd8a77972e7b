-- What the numbers beside each word are, once those of one were put in: by the map's laws.
use Rattle.std.proofs.Common.{◌≡◌, ℕ, Bool, true, false, cond, List, [], Option, Some, None, bytes_eq, refl, sym, ap, ◌∙◌}
use Rattle.std.specs.Map.{lookup}
use Rattle.std.specs.Option.{unwrap_or}
use Rattle.art_arena.proofs.Common.{bytes_from_same}
use Rattle.art_operations.proofs.Common.{with_pair_put}
use Rattle.art_map.proofs.Common.{has_bytes, ended, ended-found, ended-same}
use Rattle.art_map.proofs.FoundAfter.{found-inserted}
use Rattle.art_set.specs.Members.{Members}
use Rattle.use_inverted_index.specs.Notes.{numbers_in, numbers_of}

module _ (word key : List ℕ) (old new : List (List ℕ × Members (List ℕ))) (w : Members (List ℕ)) (same : ended key ≡ ended word) (put : new ≡ with_pair_put ended key w old) where
  pub put-noted : (other : List ℕ) → numbers_of other new ≡ cond (bytes_eq word other) w.keys (numbers_of other old)
  put-noted other =
      ap numbers_in (ap (lookup (λ k. bytes_eq k other)) put ∙ sym (ended-found other (with_pair_put ended key w old)) ∙ found-inserted ended (ended other) key w old)
      ∙ ap (λ k. numbers_in (cond (bytes_eq k (ended other)) (Some w) (lookup (has_bytes ended (ended other)) old))) same
      ∙ ap (λ b. numbers_in (cond b (Some w) (lookup (has_bytes ended (ended other)) old))) (ended-same word other)
      ∙ ap (λ r. numbers_in (cond (bytes_eq word other) (Some w) r)) (ended-found other old)
      ∙ shown (bytes_eq word other)
    where
      shown : (b : Bool) → numbers_in (cond b (Some w) (lookup (λ k. bytes_eq k other) old)) ≡ cond b w.keys (numbers_of other old)
      shown true = refl
      shown false = refl

  -- where they are what they were, so are all
  pub still-noted : w.keys ≡ numbers_of word old → (other : List ℕ) → numbers_of other new ≡ numbers_of other old
  still-noted is other = put-noted other ∙ by_test (bytes_eq word other) refl
    where
      by_test : (b : Bool) → bytes_eq word other ≡ b → cond b w.keys (numbers_of other old) ≡ numbers_of other old
      by_test true at = is ∙ ap (λ k. numbers_of k old) (bytes_from_same word other at)
      by_test false at = refl

-- the numbers of the set that an entry lends, or of the empty one that is put in
pub lent-numbers : (word : List ℕ) (old : List (List ℕ × Members (List ℕ))) (found : Option (Members (List ℕ))) (new : Members (List ℕ)) → found ≡ lookup (has_bytes ended (ended word)) old → new.keys ≡ [] → (unwrap_or found new).keys ≡ numbers_of word old
lent-numbers word old found new is none = shown found ∙ ap numbers_in (is ∙ ended-found word old)
  where
    shown : (o : Option (Members (List ℕ))) → (unwrap_or o new).keys ≡ numbers_in o
    shown None = none
    shown (Some s) = refl

-- what a look-up told of a word
pub told-numbers : (word : List ℕ) (old : List (List ℕ × Members (List ℕ))) (found : Option (Members (List ℕ))) → found ≡ lookup (has_bytes ended (ended word)) old → numbers_in found ≡ numbers_of word old
told-numbers word old found told = ap numbers_in (told ∙ ended-found word old)
