-- How many pairs there are after a change, and which; which are first and last, and which a search finds. Callers cite
-- these lemmas where a proof of theirs needs a law.
use Rattle.std.proofs.Common.{◌≡◌, ◌⊎◌, inl, inr, ℕ, suc, ◌+◌, Bool, true, false, cond, not, ◌||◌, List, [], ◌∷◌, length, Some, is_some, bytes_eq}
use Rattle.std.proofs.Common.{refl, sym, ap, ap₂, subst, ◌∙◌, arith}
use Rattle.std.specs.Map.{lookup, lookup_entry, set_value}
use Rattle.std.specs.Prelude.{◌↔◌, filter, find}
use Rattle.std.proofs.lemmas.List.Filters.{length-filter_both}
use Rattle.art_bytes.proofs.Common.{IsBefore, before_not_self}
use Rattle.art_arena.proofs.Common.{AscendsByKey, IsIn, all_at, begins_with, bytes_from_same, key_of, other_key, with_front, without_front}
use Rattle.art_map.proofs.ItemChanges.{first-least, found-by-front, found-by-key, in-all-put, in-kept, in-left, in-put-over, last-greatest, with_items}
use Rattle.art_map.proofs.ItemCounts.{ascending-apart, long-all-put, long-put, long-with, long-without}
use Rattle.art_map.proofs.Terms.{first_item, has_bytes, last_item, with_pairs_put}
use Rattle.art_map.specs.Contents.{is_front}
use Rattle.art_map.specs.PairLaws.{IsWrittenPair, StandsLast, has_key, keys_added}
use Rattle.art_operations.proofs.Common.{HasKey, overlapping, overlaps, with_pair_over, with_pair_put, without_key}

module _ {K V : Type 0} where
  pub long-retained : (test : K × V → Bool) (ps : List (K × V)) → length (filter test ps) + length (filter (λ p. not (test p)) ps) ≡ length ps
  long-retained test ps = length-filter_both test (λ p. not (test p)) (λ p. refl) ps

  pub long-written : (test : K → Bool) (w : V) (ps : List (K × V)) → length (set_value test ps w) ≡ length ps
  long-written test w [] = refl
  long-written test w (p ∷ ps) = by_test (test p.0) (long-written test w ps)
    where
      by_test : (b : Bool) → length (set_value test ps w) ≡ length ps → length (cond b ((p.0, w) ∷ ps) (p ∷ set_value test ps w)) ≡ suc (length ps)
      by_test true later = refl
      by_test false later = ap suc later

  pub in-retained : (test : K × V → Bool) (q : K × V) (ps : List (K × V)) → IsIn q (filter test ps) ↔ (IsIn q ps × (test q ≡ true))
  in-retained = in-kept

  -- a search among pairs is one among items
  entry-find : (test : K → Bool) (ps : List (K × V)) → lookup_entry test ps ≡ find (λ p. test p.0) ps
  entry-find test [] = refl
  entry-find test (p ∷ ps) = ap (λ r. cond (test p.0) (Some p) r) (entry-find test ps)

module _ {K V : Type 0} (bytes : K → List ℕ) where
  -- whether a look-up finds a value
  found-there : (query : List ℕ) (ps : List (K × V)) → is_some (lookup (has_bytes bytes query) ps) ≡ has_key (key_of bytes) query ps
  found-there query [] = refl
  found-there query (p ∷ ps) = by_test (bytes_eq (bytes p.0) query) (found-there query ps)
    where
      by_test : (b : Bool) → is_some (lookup (has_bytes bytes query) ps) ≡ has_key (key_of bytes) query ps → is_some (cond b (Some p.1) (lookup (has_bytes bytes query) ps)) ≡ (b || has_key (key_of bytes) query ps)
      by_test true later = refl
      by_test false later = later

  -- pairs that are put in are items that are
  pub all-put : (new ps : List (K × V)) → with_pairs_put bytes new ps ≡ with_items (key_of bytes) new ps
  all-put [] ps = refl
  all-put (p ∷ new) ps = all-put new (with_pair_put bytes p.0 p.1 ps)

  -- how many there are without a key, with a pair more, and with many
  pub long-removed : (key : List ℕ) (ps : List (K × V)) → AscendsByKey (key_of bytes) ps → length (without_key (key_of bytes) key ps) + cond (is_some (lookup (has_bytes bytes key) ps)) 1 0 ≡ length ps
  long-removed key ps up = ap (λ b. length (without_key (key_of bytes) key ps) + cond b 1 0) (found-there key ps) ∙ long-without (key_of bytes) key ps (ascending-apart (key_of bytes) ps up)

  pub long-inserted : (k : K) (v : V) (ps : List (K × V)) → AscendsByKey (key_of bytes) ps → length (with_pair_put bytes k v ps) ≡ cond (is_some (lookup (has_bytes bytes (bytes k)) ps)) (length ps) (suc (length ps))
  long-inserted k v ps up = long-with (key_of bytes) (k, v) ps (ascending-apart (key_of bytes) ps up) ∙ ap (λ b. cond b (length ps) (suc (length ps))) (sym (found-there (bytes k) ps))

  pub long-inserted-all : (new ps : List (K × V)) → AscendsByKey (key_of bytes) ps → length (with_pairs_put bytes new ps) ≡ length ps + keys_added (key_of bytes) new ps
  long-inserted-all new ps up = ap length (all-put new ps) ∙ long-all-put (key_of bytes) new ps (ascending-apart (key_of bytes) ps up)

  pub long-over : (k : K) (v : V) (ps : List (K × V)) → length (with_pair_over bytes k v ps) + length (overlapping (key_of bytes) (bytes k) ps) ≡ suc (length ps)
  long-over k v ps =
      let put = long-put (key_of bytes) (k, v) (filter (λ p. not (overlaps (bytes k) (bytes p.0))) ps) in
      let parts = long-retained (λ p. overlaps (bytes k) (bytes p.0)) ps in
      omega (arith, put, parts)

  pub long-cut : (front : List ℕ) (ps : List (K × V)) → length (with_front (key_of bytes) front ps) + length (without_front (key_of bytes) front ps) ≡ length ps
  long-cut front ps = long-retained (λ p. begins_with front (bytes p.0)) ps

  -- which there are with a pair more, with one in place of all that it overlaps, and with many
  pub in-inserted : (q : K × V) (k : K) (v : V) (ps : List (K × V)) → IsIn q (with_pair_put bytes k v ps) ↔ ((q ≡ (k, v)) ⊎ (IsIn q ps × (bytes_eq (bytes q.0) (bytes k) ≡ false)))
  in-inserted q k v ps = in-put-over (key_of bytes) (λ p. bytes_eq (bytes p.0) (bytes k)) (k, v) q ps

  pub in-over : (q : K × V) (k : K) (v : V) (ps : List (K × V)) → IsIn q (with_pair_over bytes k v ps) ↔ ((q ≡ (k, v)) ⊎ (IsIn q ps × (overlaps (bytes k) (bytes q.0) ≡ false)))
  in-over q k v ps = in-put-over (key_of bytes) (λ p. overlaps (bytes k) (bytes p.0)) (k, v) q ps

  pub in-inserted-all : (q : K × V) (new ps : List (K × V)) → IsIn q (with_pairs_put bytes new ps) ↔ (StandsLast (key_of bytes) q new ⊎ (IsIn q ps × (HasKey (key_of bytes) (bytes q.0) new → ⊥)))
  in-inserted-all q new ps = subst (λ l. IsIn q l ↔ (StandsLast (key_of bytes) q new ⊎ (IsIn q ps × (HasKey (key_of bytes) (bytes q.0) new → ⊥)))) (sym (all-put new ps)) (in-all-put (key_of bytes) q new ps)

  -- which are left without a key, and without those that begin with a prefix
  pub in-removed : (q : K × V) (key : List ℕ) (ps : List (K × V)) → IsIn q (without_key (key_of bytes) key ps) ↔ (IsIn q ps × (bytes_eq (bytes q.0) key ≡ false))
  in-removed q key = in-left (λ p. bytes_eq (bytes p.0) key) q

  pub in-cut : (q : K × V) (front : List ℕ) (ps : List (K × V)) → IsIn q (without_front (key_of bytes) front ps) ↔ (IsIn q ps × (begins_with front (bytes q.0) ≡ false))
  in-cut q front = in-left (λ p. begins_with front (bytes p.0)) q

  pub first-pair-least : (p q : K × V) (ps : List (K × V)) → AscendsByKey (key_of bytes) ps → first_item ps ≡ Some p → IsIn q ps → (q ≡ p) ⊎ IsBefore (bytes p.0) (bytes q.0)
  first-pair-least = first-least (key_of bytes)

  pub last-pair-greatest : (p q : K × V) (ps : List (K × V)) → AscendsByKey (key_of bytes) ps → last_item ps ≡ Some p → IsIn q ps → (q ≡ p) ⊎ IsBefore (bytes q.0) (bytes p.0)
  last-pair-greatest = last-greatest (key_of bytes)

  -- which pair a search for a key finds, and which one for the key that begins the query
  pub pair-by-key : (query : List ℕ) (p : K × V) (ps : List (K × V)) → AscendsByKey (key_of bytes) ps → (lookup_entry (has_bytes bytes query) ps ≡ Some p) ↔ (IsIn p ps × (bytes_eq (bytes p.0) query ≡ true))
  pair-by-key query p ps up = subst (λ o. (o ≡ Some p) ↔ (IsIn p ps × (bytes_eq (bytes p.0) query ≡ true))) (sym (entry-find (has_bytes bytes query) ps)) (found-by-key (key_of bytes) query p ps up)

  pub pair-by-front : (query : List ℕ) (p : K × V) (ps : List (K × V)) → AscendsByKey (key_of bytes) ps → (lookup_entry (is_front bytes query) ps ≡ Some p) ↔ (IsIn p ps × (begins_with (bytes p.0) query ≡ true))
  pair-by-front query p ps up = subst (λ o. (o ≡ Some p) ↔ (IsIn p ps × (begins_with (bytes p.0) query ≡ true))) (sym (entry-find (is_front bytes query) ps)) (found-by-front (key_of bytes) query p ps up)

  module _ (key : List ℕ) (w : V) (q : K × V) where
    -- no key after the first has its bytes
    others-after : (p : K × V) (ps : List (K × V)) (k : K) (v : V) → AscendsByKey (key_of bytes) (p ∷ ps) → bytes_eq (bytes p.0) key ≡ true → IsIn (k, v) ps → bytes_eq (bytes k) key ≡ false
    others-after p ps k v up at i =
        other_key (bytes k) key
        (λ e. before_not_self key (subst (IsBefore key) e (subst (λ l. IsBefore l (bytes k)) (bytes_from_same (bytes p.0) key at) (all_at (λ (y : K × V). IsBefore (bytes p.0) (bytes y.0)) (k, v) ps up.0 i))))

    written-in : (ps : List (K × V)) → AscendsByKey (key_of bytes) ps → IsIn q (set_value (has_bytes bytes key) ps w) → IsWrittenPair bytes key w q ps
    written-in [] up i = absurd i
    written-in (p ∷ ps) up i = by_key (bytes_eq (bytes p.0) key) refl i (written-in ps up.1)
      where
        lift : IsWrittenPair bytes key w q ps → IsWrittenPair bytes key w q (p ∷ ps)
        lift (inl h) = inl (h.0, inr h.1)
        lift (inr (same, is, v, j)) = inr (same, is, v, inr j)

        by_key : (c : Bool) → bytes_eq (bytes p.0) key ≡ c → IsIn q (cond c ((p.0, w) ∷ ps) (p ∷ set_value (has_bytes bytes key) ps w)) → (IsIn q (set_value (has_bytes bytes key) ps w) → IsWrittenPair bytes key w q ps) → IsWrittenPair bytes key w q (p ∷ ps)
        by_key true at (inl e) later = inr (ap (λ (x : K × V). bytes_eq (bytes x.0) key) (sym e) ∙ at, ap (λ (x : K × V). x.1) (sym e), p.1, inl (ap (λ (x : K × V). (x.0, p.1)) e))
        by_key true at (inr j) later = inl (others-after p ps q.0 q.1 up at j, inr j)
        by_key false at (inl e) later = inl (ap (λ (x : K × V). bytes_eq (bytes x.0) key) (sym e) ∙ at, inl e)
        by_key false at (inr j) later = lift (later j)

    in-written-list : (ps : List (K × V)) → AscendsByKey (key_of bytes) ps → IsWrittenPair bytes key w q ps → IsIn q (set_value (has_bytes bytes key) ps w)
    in-written-list [] up (inl h) = absurd h.1
    in-written-list [] up (inr (same, is, v, j)) = absurd j
    in-written-list (p ∷ ps) up h = by_key (bytes_eq (bytes p.0) key) refl h (in-written-list ps up.1)
      where
        by_key : (c : Bool) → bytes_eq (bytes p.0) key ≡ c → IsWrittenPair bytes key w q (p ∷ ps) → (IsWrittenPair bytes key w q ps → IsIn q (set_value (has_bytes bytes key) ps w)) → IsIn q (cond c ((p.0, w) ∷ ps) (p ∷ set_value (has_bytes bytes key) ps w))
        by_key true at (inl (other, inl e)) later = let no : true ≡ false = sym at ∙ ap (λ (x : K × V). bytes_eq (bytes x.0) key) e ∙ other in absurd (cc)
        by_key true at (inl (other, inr j)) later = inr j
        by_key true at (inr (same, is, v, inl e)) later = inl (ap₂ (λ k x. (k, x)) (ap (λ (x : K × V). x.0) e) (sym is))
        by_key true at (inr (same, is, v, inr j)) later = let no : true ≡ false = sym same ∙ others-after p ps q.0 v up at j in absurd (cc)
        by_key false at (inl (other, inl e)) later = inl e
        by_key false at (inl (other, inr j)) later = inr (later (inl (other, j)))
        by_key false at (inr (same, is, v, inl e)) later = let no : true ≡ false = sym same ∙ ap (λ (x : K × V). bytes_eq (bytes x.0) key) (sym e) ∙ at in absurd (cc)
        by_key false at (inr (same, is, v, inr j)) later = inr (later (inr (same, is, v, j)))

  -- which there are where a value was written
  pub in-written : (q : K × V) (key : List ℕ) (w : V) (ps : List (K × V)) → AscendsByKey (key_of bytes) ps → IsIn q (set_value (has_bytes bytes key) ps w) ↔ IsWrittenPair bytes key w q ps
  in-written q key w ps up = (written-in key w q ps up, in-written-list key w q ps up)

-- what the laws of how many, and of which, say
pub ruleset pair_laws = (long-retained, long-written, long-removed, long-inserted, long-inserted-all, long-over, long-cut, first-pair-least, last-pair-greatest, in-written)
