-- A set's keys, from the pairs of the map that holds them.
use Rattle.std.proofs.Common.{◌≡◌, ◌⊎◌, ℕ, ◌-◌, Bool, true, false, not, cond, List, [], ◌∷◌, length, Option, Some, None, refl, sym, ap, ap₂, ◌∙◌, subst, inl, inr}
use Rattle.std.specs.Prelude.{IfNone, OnSome, filter, find, is_some}
use Rattle.std.specs.Bool.{OnFalse, OnTrue}
use Rattle.std.specs.List.{AllZip, list_any}
use Rattle.std.specs.Map.{keys_of, lookup, lookup_entry}
use Rattle.std.specs.declared.ops.Bound.{Bound}
use Rattle.std.proofs.lemmas.List.{length-map, map-append}
use Rattle.std.proofs.lemmas.Map.Made.{is_some-lookup}
use Rattle.art_arena.proofs.Common.{Arena, key_of, is_before, put_in_order, AscendsByKey, Shrinks, in_map, in_unmap}
use Rattle.art_arena.proofs.tree.Paths.{all_map}
use Rattle.art_arena.specs.declared.ends.End.{End}
use Rattle.art_arena.specs.declared.ends.End.TheVariants.{First, Last}
use Rattle.art_bytes.proofs.Common.{Conflict, IsBefore}
use Rattle.art_map.proofs.Common.{with_pairs_put, has_bytes, last_item, pairs_between}
use Rattle.art_map.specs.Room.{UsesLeafRoom}
use Rattle.art_operations.proofs.Common.{HasKey, HasKeyAt, IsBlocked, KeepsLeavesOf, without_key, IsAtEnd, ShrinksAtEnd, with_pair_put}
use Rattle.art_operations.proofs.LeafPairs.{shrinks-map}
use Rattle.art_set.proofs.Terms.{keys_between, key_if_some, with_key_put, with_keys_put, KeyShrinksAtEnd}

-- where no key was there, there was no pair
pub none-key : {K V : Type 0} (A : Type 0) (o : Option (K × V)) (r : Option K) → r ≡ key_if_some o → IfNone o A → IfNone r A
none-key A None r e kept = subst (λ x. IfNone x A) (sym e) kept
none-key A (Some p) r e kept = subst (λ x. IfNone x A) (sym e) tt

pub none-found : {V : Type 0} (A : Type 0) (o : Option V) (b : Bool) → b ≡ is_some o → IfNone o A → OnFalse b A
none-found A None b e kept = subst (λ x. OnFalse x A) (sym e) kept
none-found A (Some v) b e kept = subst (λ x. OnFalse x A) (sym e) tt

-- and where one was, there was one
pub some-key : {K V : Type 0} (A : Type 0) (o : Option (K × V)) (r : Option K) → r ≡ key_if_some o → OnSome o A → OnSome r A
some-key A None r e frees = subst (λ x. OnSome x A) (sym e) tt
some-key A (Some p) r e frees = subst (λ x. OnSome x A) (sym e) frees

pub some-found : {V : Type 0} (A : Type 0) (o : Option V) (b : Bool) → b ≡ is_some o → OnSome o A → OnTrue b A
some-found A None b e frees = subst (λ x. OnTrue x A) (sym e) tt
some-found A (Some v) b e frees = subst (λ x. OnTrue x A) (sym e) frees

module _ {K V : Type 0} where
  -- look-ups
  pub found : (test : K → Bool) (ps : List (K × V)) → key_if_some (lookup_entry test ps) ≡ find test (keys_of ps)
  found test [] = refl
  found test (p ∷ ps) = elim (test p.0) as (λ b. key_if_some (cond b (Some p) (lookup_entry test ps)) ≡ cond b (Some p.0) (find test (keys_of ps))) [ true ↦ refl | false ↦ found test ps ]

  -- a key was added where none had its bytes
  pub was-added : (test : K → Bool) (ps : List (K × V)) (old : Option V) (b : Bool) → is_some old ≡ not b → old ≡ lookup test ps → b ≡ not (list_any test (keys_of ps))
  was-added test ps old true e f = ap not (sym e ∙ ap is_some f ∙ is_some-lookup test ps)
  was-added test ps old false e f = ap not (sym e ∙ ap is_some f ∙ is_some-lookup test ps)

  pub last-key : (ps : List (K × V)) → key_if_some (last_item ps) ≡ last_item (keys_of ps)
  last-key [] = refl
  last-key (p ∷ []) = refl
  last-key (p ∷ q ∷ ps) = last-key (q ∷ ps)

  -- where there is no key, there is no pair
  pub no-pair : (ps : List (K × V)) → keys_of ps ≡ [] → ps ≡ []
  no-pair [] e = refl
  no-pair (p ∷ ps) e = absurd (cc)

  pub no-pair-or : {P : Type 0} (ps : List (K × V)) → (keys_of ps ≡ []) ⊎ P → (ps ≡ []) ⊎ P
  no-pair-or ps (inl e) = inl (no-pair ps e)
  no-pair-or ps (inr p) = inr p

  pub no-pair-either : (ps qs : List (K × V)) → (keys_of ps ≡ []) ⊎ (keys_of qs ≡ []) → (ps ≡ []) ⊎ (qs ≡ [])
  no-pair-either ps qs (inl e) = inl (no-pair ps e)
  no-pair-either ps qs (inr e) = inr (no-pair qs e)

  pub keys-filter : (test : K → Bool) (ps : List (K × V)) → keys_of (filter (λ p. test p.0) ps) ≡ filter test (keys_of ps)
  keys-filter test [] = refl
  keys-filter test (p ∷ ps) = elim (test p.0) as (λ b. keys_of (cond b (p ∷ filter (λ q. test q.0) ps) (filter (λ q. test q.0) ps)) ≡ cond b (p.0 ∷ filter test (keys_of ps)) (filter test (keys_of ps))) [
    | true ↦ ap (λ ks. p.0 ∷ ks) (keys-filter test ps)
    | false ↦ keys-filter test ps
  ]

  pub at-end : (end : End) (p : K × V) (rest ps : List (K × V)) → IsAtEnd end p rest ps → IsAtEnd end p.0 (keys_of rest) (keys_of ps)
  at-end First p rest ps e = ap keys_of e
  at-end Last p rest ps e = ap keys_of e ∙ map-append (λ q. q.0) rest (p ∷ [])

module _ {K V : Type 0} (bytes : K → List ℕ) where
  pub keys-without : (query : List ℕ) (ps : List (K × V)) → keys_of (without_key (key_of bytes) query ps) ≡ without_key bytes query (keys_of ps)
  keys-without query ps = keys-filter (λ k. not (has_bytes bytes query k)) ps

  keys-in-order : (p : K × V) (ps : List (K × V)) → keys_of (put_in_order (key_of bytes) p ps) ≡ put_in_order bytes p.0 (keys_of ps)
  keys-in-order p [] = refl
  keys-in-order p (q ∷ ps) = elim (is_before (bytes p.0) (bytes q.0)) as (λ b. keys_of (cond b (p ∷ q ∷ ps) (q ∷ put_in_order (key_of bytes) p ps)) ≡ cond b (p.0 ∷ q.0 ∷ keys_of ps) (q.0 ∷ put_in_order bytes p.0 (keys_of ps))) [
    | true ↦ refl
    | false ↦ ap (λ ks. q.0 ∷ ks) (keys-in-order p ps)
  ]

  pub keys-put : (k : K) (v : V) (ps : List (K × V)) → keys_of (with_pair_put bytes k v ps) ≡ with_key_put bytes k (keys_of ps)
  keys-put k v ps = keys-in-order (k, v) (without_key (key_of bytes) (bytes k) ps) ∙ ap (put_in_order bytes k) (keys-without (bytes k) ps)

  pub keys-put-all : (ps qs : List (K × V)) → keys_of (with_pairs_put bytes ps qs) ≡ with_keys_put bytes (keys_of ps) (keys_of qs)
  keys-put-all [] qs = refl
  keys-put-all (p ∷ ps) qs = keys-put-all ps (with_pair_put bytes p.0 p.1 qs) ∙ ap (with_keys_put bytes (keys_of ps)) (keys-put p.0 p.1 qs)

  pub between : (start end : Bound (List ℕ)) (ps : List (K × V)) → keys_of (pairs_between bytes start end ps) ≡ keys_between bytes start end (keys_of ps)
  between start end ps = keys-filter _ ps

  pub has-key : (query : List ℕ) (ps : List (K × V)) → HasKey (key_of bytes) query ps → HasKey bytes query (keys_of ps)
  has-key query ps (p, i, e) = (p.0, in_map (λ q. q.0) p ps i, e)

  pub has-pair : (query : List ℕ) (ps : List (K × V)) → HasKey bytes query (keys_of ps) → HasKey (key_of bytes) query ps
  has-pair query ps (k, i, e) = let (p, j, same) = in_unmap (λ q. q.0) k ps i in (p, j, ap bytes same ∙ e)

  pub blocks : (query : List ℕ) (ps : List (K × V)) → IsBlocked (key_of bytes) query ps → IsBlocked bytes query (keys_of ps)
  blocks query ps (p, i, c) = (p.0, in_map (λ q. q.0) p ps i, c)

  pub blocking : (query : List ℕ) (ps : List (K × V)) → IsBlocked bytes query (keys_of ps) → IsBlocked (key_of bytes) query ps
  blocking query ps (k, i, c) = let (p, j, same) = in_unmap (λ q. q.0) k ps i in (p, j, subst (λ l. Conflict query (bytes l)) (sym same) c)

  pub ascending : (ps : List (K × V)) → AscendsByKey (key_of bytes) ps → AscendsByKey bytes (keys_of ps)
  ascending [] h = tt
  ascending (p ∷ ps) h = (all_map (λ q. q.0) (λ k. IsBefore (bytes p.0) (bytes k)) ps h.0, ascending ps h.1)

  pub shrinking : (query : List ℕ) (ps : List (K × V)) → Shrinks (key_of bytes) ps query → Shrinks bytes (keys_of ps) query
  shrinking query ps = shrinks-map (λ p. p.0) bytes ps query

  pub shrinks-at-end : (end : End) (ps : List (K × V)) → ShrinksAtEnd bytes end ps → KeyShrinksAtEnd bytes end (keys_of ps)
  shrinks-at-end end ps (p, rest, at, shrinks) = (p.0, keys_of rest, at-end end p rest ps at, shrinking (bytes p.0) ps shrinks)

-- the keys of clones of pairs are clones of their keys
pub clone-keys : {K V : Type 0} (C : K → K → Type 0) (D : V → V → Type 0) (ps qs : List (K × V))
    → AllZip (λ p q. C p.0 q.0 × D p.1 q.1) ps qs → AllZip C (keys_of ps) (keys_of qs)
clone-keys C D [] [] h = h
clone-keys C D [] (q ∷ qs) h = h
clone-keys C D (p ∷ ps) [] h = h
clone-keys C D (p ∷ ps) (q ∷ qs) h = (h.0.0, clone-keys C D ps qs h.1)

-- a set has as many keys as its map has pairs
pub leaf-room : {K V : Type 0} (ps qs : List (K × V)) (old new : Arena K V) → UsesLeafRoom (length qs - length ps) old new → UsesLeafRoom (length (keys_of qs) - length (keys_of ps)) old new
leaf-room ps qs old new = subst (λ n. UsesLeafRoom n old new) (ap₂ (λ a b. a - b) (sym (length-map qs (λ p. p.0))) (sym (length-map ps (λ p. p.0))))

-- each key that stays keeps its leaf
pub kept-names : {K V : Type 0} (bytes : K → List ℕ) (ps : List (K × V)) (old new : Arena K V) → KeepsLeavesOf bytes ps old new → (slot : ℕ) (key : List ℕ) → HasKeyAt bytes old slot key → HasKey bytes key (keys_of ps) → HasKeyAt bytes new slot key
kept-names bytes ps old new kept slot key at has = kept slot key at (has-pair bytes key ps has)
