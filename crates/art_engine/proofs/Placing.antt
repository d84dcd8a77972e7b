-- How a put is answered, and what it leaves, from what the map says of its pairs.
use Rattle.std.proofs.Common.{◌≡◌, ℕ, ◌<◌, ◌^◌, List, [], ◌∷◌, map, refl, ap, sym, ◌∙◌, subst, Bool, true, false, Option, Some, None, bytes_eq, inl, inr}
use Rattle.std.specs.Prelude.{if◌then◌else◌, not, option_map}
use Rattle.std.specs.Global.{Vec}
use Rattle.std.specs.List.{AllByRecursion}
use Rattle.std.specs.Map.{lookup}
use Rattle.art_bytes.proofs.Common.{is_below}
use Rattle.art_arena.proofs.Common.{IsIn, all_weaker, other_key, put_in_order}
use Rattle.art_operations.proofs.Common.{IsBlocked, stored-free, without_key}
use Rattle.art_engine.specs.declared.change.Changed.TheVariants as changed
use Rattle.art_lines.proofs.Common.{full_key, put_reply}
use Rattle.art_engine.proofs.Conflicts.{blocked_told, free_told}
use Rattle.art_engine.proofs.Filters.{All-put, map-alike}
use Rattle.art_engine.proofs.KeyKinds.{are_full, bytes_of, keys_ascend, keys_stand, under_keys}
use Rattle.art_engine.proofs.OwnLaws.{made, records_from_lists}
use Rattle.art_engine.proofs.TenantKeys.{found, put_ascends, put_records, put_stands, record_made}
use Rattle.art_engine.proofs.Terms.{full_pair, Own, Records, own, with_own, with_part, KeyFits, value_at, has_conflict, with_pair, puts, with_changed, Pair, record_of, records_of, IsFull, AreFull, ArePairs, IsPutDone, changed_words}

-- pairs are their records, each value under its full key
pub pairs_are : (ps : List Pair) → AllByRecursion IsFull ps → map (λ p. (p.0.items, p.1.items)) ps ≡ map full_pair (map record_of ps)
pairs_are ps full = sym (map-alike full_pair record_of (λ p. (p.0.items, p.1.items)) ps (all_weaker IsFull (λ p. full_pair (record_of p) ≡ (p.0.items, p.1.items)) (λ p e. ap (λ k. (k, p.1.items)) (sym e)) ps full))

-- the test that a key is the full one
abbrev pub is_full_key : ℕ → List ℕ → Vec ℕ → Bool
is_full_key t k j = bytes_eq j.items (full_key t k)

-- what a tenant holds with a value put at a key
abbrev with_mine : List ℕ → List ℕ → Own → Own
with_mine k v mine = record { keys = with_pair is_below k v mine.keys; numbers = mine.numbers }

-- how it is answered
conflict_done : (t : ℕ) (mine : Own) (r : Records) (o : Option (List ℕ)) (c : Bool) → o ≡ None → c ≡ true
    → (changed_words changed.Conflict ∷ [] ≡ put_reply o c ∷ []) × (r ≡ with_changed t (if puts o c then Some mine else None) r)
conflict_done t mine r o c e f = rw (e, f) (refl, refl)

pub new_done : (t : ℕ) (mine : Own) (r new : Records) (o : Option (List ℕ)) (c : Bool) → o ≡ None → c ≡ false → new ≡ with_own t mine r
    → (changed_words changed.New ∷ [] ≡ put_reply o c ∷ []) × (new ≡ with_changed t (if puts o c then Some mine else None) r)
new_done t mine r new o c e f is = rw (e, f) (refl, is)

old_done : (t : ℕ) (mine : Own) (r new : Records) (v : Vec ℕ) (o : Option (List ℕ)) (c : Bool) → o ≡ Some v.items → new ≡ with_own t mine r
    → (changed_words (changed.Old v) ∷ [] ≡ put_reply o c ∷ []) × (new ≡ with_changed t (if puts o c then Some mine else None) r)
old_done t mine r new v o c e is = rw e (refl, is)

module _ (ps : List Pair) (t : ℕ) (k v : List ℕ) (are : AreFull ps) (fits : t < 2 ^ 32) where
  -- the tenant's value at the key, and whether the key conflicts with one of the tenant's
  abbrev at_key : Option (List ℕ)
  at_key = value_at bytes_eq k (own t (records_of ps)).keys

  abbrev in_conflict : Bool
  in_conflict = has_conflict k (own t (records_of ps)).keys

  pub key_found : option_map (λ w. w.items) (lookup (is_full_key t k) ps) ≡ at_key
  key_found = found under_keys t k fits tt ps (keys_stand ps are.full are.tenants)

  -- a key that is there is in conflict with none
  blocked_absent : IsBlocked bytes_of (full_key t k) ps → at_key ≡ None
  blocked_absent blocked = sym key_found ∙ ap (option_map (λ (w : Vec ℕ). w.items)) (absent ps (λ p i same. stored-free bytes_of ps (keys_ascend ps are) (full_key t k) (p, i, same) blocked))
    where
      absent : (qs : List Pair) → ((p : Pair) → IsIn p qs → bytes_of p ≡ full_key t k → ⊥) → lookup (is_full_key t k) qs ≡ None
      absent [] other = refl
      absent (q ∷ qs) other = rw (other_key (bytes_of q) (full_key t k) (other q (inl refl))) (absent qs (λ p i. other p (inr i)))

  pub conflict_placed : IsBlocked bytes_of (full_key t k) ps → IsPutDone changed.Conflict (records_of ps) t k v (records_of ps)
  conflict_placed blocked =
      let output = blocked_told t k fits ps are blocked in
      let there = blocked_absent blocked in
      conflict_done t (with_mine k v (own t (records_of ps))) (records_of ps) at_key in_conflict there output

  module _ (e : Pair) (new : List Pair) (full : bytes_of e ≡ full_key t k) (value : e.1.items ≡ v) (free : IsBlocked bytes_of (full_key t k) ps → ⊥)
      (is : new ≡ put_in_order bytes_of e (without_key bytes_of (bytes_of e) ps)) where
    pub pair_made : record_of e ≡ made t (k, v)
    pair_made = record_made under_keys t k e fits tt full ∙ ap (λ w. made t (k, w)) value

    -- the new ones are as an index holds them, and their records those with the tenant's key put
    pub put_keeps : AreFull new
    put_keeps =
        let stand = keys_stand ps are.full are.tenants in let up = keys_ascend ps are in
        are_full new (put_stands under_keys t k fits tt ps stand up e full free new is) (put_ascends under_keys t k fits tt ps stand up e full free new is)

    pub records_put : records_of new ≡ with_own t (with_mine k v (own t (records_of ps))) (records_of ps)
    records_put = records_from_lists _ _ _ _
        (put_records under_keys t k fits tt ps (keys_stand ps are.full are.tenants) (keys_ascend ps are) e full free new is
        ∙ ap (λ w. with_part t (with_pair is_below k w (own t (records_of ps)).keys) (map record_of ps)) value) refl

    pub put_keeps_pairs : AllByRecursion KeyFits (map record_of ps) → KeyFits (made t (k, v)) → ArePairs new
    put_keeps_pairs fit record_fits = record {
      stand = put_keeps;
      fit = subst (λ l. AllByRecursion KeyFits (map record_of l)) (sym is)
          (All-put KeyFits record_of bytes_of (λ p. not (bytes_eq (bytes_of p) (bytes_of e))) e ps fit (subst KeyFits (sym pair_made) record_fits));
    }

    pub new_placed : None ≡ lookup (is_full_key t k) ps → IsPutDone changed.New (records_of ps) t k v (records_of new)
    new_placed none =
        let there : at_key ≡ None = sym (ap (option_map (λ (w : Vec ℕ). w.items)) none ∙ key_found) in
        let output = free_told t k fits ps are free in
        new_done t (with_mine k v (own t (records_of ps))) (records_of ps) (records_of new) at_key in_conflict there output records_put

    pub old_placed : (old : Vec ℕ) → Some old ≡ lookup (is_full_key t k) ps → IsPutDone (changed.Old old) (records_of ps) t k v (records_of new)
    old_placed old some =
        let there : at_key ≡ Some old.items = sym (ap (option_map (λ (w : Vec ℕ). w.items)) some ∙ key_found) in
        old_done t (with_mine k v (own t (records_of ps))) (records_of ps) (records_of new) old at_key in_conflict there records_put
