-- What a look-up finds after a change. Callers cite these lemmas where a proof of theirs needs one of the laws.
use Rattle.std.proofs.Common.{◌≡◌, ℕ, Bool, true, false, cond, not, List, [], ◌∷◌, Option, Some, None, bytes_eq}
use Rattle.std.proofs.Common.{refl, sym, ap, ◌∙◌}
use Rattle.std.specs.BTreeMap.Range.{range_contains}
use Rattle.std.specs.Map.{lookup}
use Rattle.std.specs.Prelude.{filter}
use Rattle.std.specs.declared.ops.Bound.{Bound}
use Rattle.std.proofs.lemmas.Bool.{cond-true, cond-false}
use Rattle.std.proofs.lemmas.Map.Entries.{lookup-filter-keys}
use Rattle.art_bytes.proofs.Common.{bytes_cmp}
use Rattle.art_arena.proofs.Common.{key_of, put_in_order, is_before, begins_with, with_front, without_front, other_key, same_key, bytes_from_same}
use Rattle.art_map.proofs.Terms.{has_bytes, pairs_between}
use Rattle.art_operations.proofs.Common.{overlaps, without_key, with_pair_over, with_pair_put, overlaps_same}

not-not : (b : Bool) {X : Type 0} (x y : X) → cond (not b) x y ≡ cond b y x
not-not true x y = refl
not-not false x y = refl

-- whether two keys are the same, seen from either
pub turned : (k l : List ℕ) → bytes_eq k l ≡ bytes_eq l k
turned k l = by_test (bytes_eq k l) refl
  where
    by_test : (b : Bool) → bytes_eq k l ≡ b → b ≡ bytes_eq l k
    by_test true at = sym (same_key l k (sym (bytes_from_same k l at)))
    by_test false at = sym (other_key l k (λ same. let e : true ≡ false = sym (same_key k l (sym same)) ∙ at in absurd (cc)))

module _ {K V : Type 0} (bytes : K → List ℕ) (query : List ℕ) where
  -- what the query finds
  abbrev seen : List (K × V) → Option V
  seen ps = lookup (has_bytes bytes query) ps

  -- among the pairs whose keys' bytes pass a test the bytes that pass find what they found, and others nothing
  pub found-kept : (keep : List ℕ → Bool) (ps : List (K × V)) → seen (filter (λ p. keep (bytes p.0)) ps) ≡ cond (keep query) (seen ps) None
  found-kept keep ps = lookup-filter-keys (has_bytes bytes query) (λ k. keep (bytes k)) (keep query) (λ k same. ap keep (bytes_from_same (bytes k) query same)) ps

  -- a pair is put in where no key has its bytes
  module _ (p : K × V) where
    put-here : has_bytes bytes query p.0 ≡ true → (ps : List (K × V)) → seen ps ≡ None → seen (put_in_order (key_of bytes) p ps) ≡ Some p.1
    put-here e [] none = cond-true _ _ _ e
    put-here e (x ∷ xs) none = by_test (has_bytes bytes query x.0) refl (is_before (bytes p.0) (bytes x.0)) (put-here e xs)
      where
        by_test : (b : Bool) → has_bytes bytes query x.0 ≡ b → (before : Bool) → (seen xs ≡ None → seen (put_in_order (key_of bytes) p xs) ≡ Some p.1) → seen (cond before (p ∷ x ∷ xs) (x ∷ put_in_order (key_of bytes) p xs)) ≡ Some p.1
        by_test true at before later = let no : Some x.1 ≡ None = sym (cond-true _ _ _ at) ∙ none in absurd (cc)
        by_test false at true later = cond-true _ _ _ e
        by_test false at false later = cond-false _ _ _ at ∙ later (sym (cond-false _ _ _ at) ∙ none)

    put-there : has_bytes bytes query p.0 ≡ false → (ps : List (K × V)) → seen (put_in_order (key_of bytes) p ps) ≡ seen ps
    put-there f [] = cond-false _ _ _ f
    put-there f (x ∷ xs) = by_place (is_before (bytes p.0) (bytes x.0)) (put-there f xs)
      where
        by_place : (b : Bool) → seen (put_in_order (key_of bytes) p xs) ≡ seen xs → seen (cond b (p ∷ x ∷ xs) (x ∷ put_in_order (key_of bytes) p xs)) ≡ seen (x ∷ xs)
        by_place true later = cond-false _ _ _ f
        by_place false later = ap (λ r. cond (has_bytes bytes query x.0) (Some x.1) r) later

    -- it is found by its bytes, and of the others those that pass
    found-put : (keep : List ℕ → Bool) → keep (bytes p.0) ≡ false → (ps : List (K × V)) → seen (put_in_order (key_of bytes) p (filter (λ q. keep (bytes q.0)) ps))
        ≡ cond (bytes_eq (bytes p.0) query) (Some p.1) (cond (keep query) (seen ps) None)
    found-put keep gone ps = by_test (bytes_eq (bytes p.0) query) refl
      where
        by_test : (b : Bool) → bytes_eq (bytes p.0) query ≡ b → seen (put_in_order (key_of bytes) p (filter (λ q. keep (bytes q.0)) ps)) ≡ cond b (Some p.1) (cond (keep query) (seen ps) None)
        by_test true at =
            let fails : keep query ≡ false = ap keep (sym (bytes_from_same (bytes p.0) query at)) ∙ gone in
            put-here at _ (found-kept keep ps ∙ cond-false _ _ _ fails)
        by_test false at = put-there at _ ∙ found-kept keep ps

  pub found-inserted : (k : K) (v : V) (ps : List (K × V)) → seen (with_pair_put bytes k v ps) ≡ cond (bytes_eq (bytes k) query) (Some v) (seen ps)
  found-inserted k v ps = found-put (k, v) (λ l. not (bytes_eq l (bytes k))) (ap not (same_key (bytes k) (bytes k) refl)) ps ∙ by_test (bytes_eq (bytes k) query) refl
    where
      by_test : (b : Bool) → bytes_eq (bytes k) query ≡ b → cond b (Some v) (cond (not (bytes_eq query (bytes k))) (seen ps) None) ≡ cond b (Some v) (seen ps)
      by_test true at = refl
      by_test false at = cond-true _ _ _ (ap not (turned query (bytes k) ∙ at))

  pub found-removed : (key : List ℕ) (ps : List (K × V)) → seen (without_key (key_of bytes) key ps) ≡ cond (bytes_eq key query) None (seen ps)
  found-removed key ps = found-kept (λ l. not (bytes_eq l key)) ps ∙ not-not (bytes_eq query key) (seen ps) None ∙ ap (λ b. cond b None (seen ps)) (turned query key)

  pub found-over : (k : K) (v : V) (ps : List (K × V)) → seen (with_pair_over bytes k v ps) ≡ cond (bytes_eq (bytes k) query) (Some v) (cond (overlaps (bytes k) query) None (seen ps))
  found-over k v ps =
      found-put (k, v) (λ l. not (overlaps (bytes k) l)) (ap not (overlaps_same (bytes k) (bytes k) refl)) ps
      ∙ ap (cond (bytes_eq (bytes k) query) (Some v)) (not-not (overlaps (bytes k) query) (seen ps) None)

  pub found-cut : (front : List ℕ) (ps : List (K × V)) → seen (without_front (key_of bytes) front ps) ≡ cond (begins_with front query) None (seen ps)
  found-cut front ps = found-kept (λ l. not (begins_with front l)) ps ∙ not-not (begins_with front query) (seen ps) None

  pub found-after : (front : List ℕ) (ps : List (K × V)) → seen (with_front (key_of bytes) front ps) ≡ cond (begins_with front query) (seen ps) None
  found-after front ps = found-kept (begins_with front) ps

  pub found-between : (start end : Bound (List ℕ)) (ps : List (K × V)) → seen (pairs_between bytes start end ps) ≡ cond (range_contains bytes_cmp start end query) (seen ps) None
  found-between start end ps = found-kept (range_contains bytes_cmp start end) ps

-- what the laws of a map say
pub ruleset laws = (found-inserted, found-removed, found-over, found-cut, found-after, found-between)
