-- Many keys that are put in, one after another.
use Rattle.std.proofs.Common.{◌≡◌, ℕ, suc, ◌+◌, ◌*◌, length, List, [], ◌∷◌, ◌++◌, map, Option, Some, Ok, Err, Result, IfErr, IfOk, MatchResult, refl, sym, ap, subst, ◌∙◌, map-id}
use Rattle.std.specs.Iterator.{Drains, Yields, YieldsThen}
use Rattle.std.specs.Map.{keys_of}
use Rattle.std.specs.Result.{IsErrAnd}
use Rattle.std.specs.Vec.Iter.{into_iter_items, into_iter_steps}
use Rattle.std.specs.declared.vec.IntoIter.{IntoIter}
use Rattle.std.proofs.IntoIterSteps.{All-taken}
use Rattle.std.proofs.lemmas.List.{append-nil}
use Rattle.art_arena.proofs.Common.{AscendsByKey, HasRoom}
use Rattle.art_arena.specs.arena.Shapes.{key_of as pair_key}
use Rattle.art_operations.proofs.Common.{HasKey, put_new, with_key}
use Rattle.art_map.proofs.Common.{HasGathered, Contents, with_pairs_put}
use Rattle.art_map.proofs.SortedItems.{same-first, same-made}
use Rattle.art_map.proofs.VecPairs.{taken-front}
use Rattle.art_map.specs.declared.map.builder.TreeMapBuilder.{TreeMapBuilder}
use Rattle.art_set.specs.Bulk.{ExtendsWithKeys, GathersKeysWith, HandsNextKeyBack, IsFirstOfKeys, IsMadeOfKeys}
use Rattle.art_map.specs.Builders.{HasRoomLeft}
use Rattle.art_set.specs.Members.{Members, members}
use Rattle.art_set.proofs.Terms.{with_key_put, with_keys_put}
use Rattle.art_set.specs.declared.set.refused.RefusedKey.{RefusedKey}
use Rattle.art_set.proofs.MembersAfter.{all-put, put-has}
use Rattle.art_set.proofs.KeyViews.{has-pair, keys-put-all}

keys-shown : {K A : Type 0} (key_of : A → K) (xs : List A) → keys_of (map (λ x. (key_of x, tt {0})) xs) ≡ map key_of xs
keys-shown key_of [] = refl
keys-shown key_of (x ∷ xs) = ap (λ ks. key_of x ∷ ks) (keys-shown key_of xs)

module _ {K : Type 0} (bytes : K → List ℕ) where
  -- a key after all others is put in there
  pub put-last : (front : List K) (k : K) → AscendsByKey bytes (front ++ k ∷ []) → with_key_put bytes k front ≡ front ++ k ∷ []
  put-last front k up = ap (λ ks. with_key_put bytes k ks) (sym (append-nil front)) ∙ sym (put_new bytes k front [] up).new_is

  module _ {U S A : Type 0} (key_of : A → K) (becomes : U → S → Type 0) (steps : S → Option A → S → Type 0) where
    -- the item that came after these is handed back
    pub next-back : (it t u : S) (given : List A) (item : A) (e : RefusedKey K) (k : K) → Yields steps it given t → steps t (Some item) u → key_of item ≡ k → e.key ≡ k
        → HandsNextKeyBack bytes key_of becomes steps it given e
    next-back it t u given item e k yielded step is back = (item, u, (t, yielded, step), is ∙ sym back)

    pub made-refused : (iter : U) (it : S) (given : List A) (e : RefusedKey K) (r : Result (Members K) (RefusedKey K)) → becomes iter it → HandsNextKeyBack bytes key_of becomes steps it given e
        → (HasKey bytes (bytes e.key) (with_keys_put bytes (map key_of given) []) → ⊥) → IsErrAnd r (λ x. x ≡ e) → IsMadeOfKeys bytes key_of becomes steps iter r
    made-refused iter it given e (Ok x) b back new h = absurd h
    made-refused iter it given e (Err x) b back new h = (
      it,
      given,
      b,
      (subst (HandsNextKeyBack bytes key_of becomes steps it given) (sym h) back, subst (λ (r : RefusedKey K). HasKey bytes (bytes r.key) (with_keys_put bytes (map key_of given) []) → ⊥) (sym h) new),
    )

    -- the keys of the pairs that were put in
    keys-gathered : (given : List A) (pairs : List (K × Unit {0})) → keys_of (with_pairs_put bytes (map (λ x. (key_of x, tt)) given) pairs) ≡ with_keys_put bytes (map key_of given) (keys_of pairs)
    keys-gathered given pairs = keys-put-all bytes (map (λ x. (key_of x, tt)) given) pairs ∙ ap (λ ks. with_keys_put bytes ks (keys_of pairs)) (keys-shown key_of given)

    -- a key that they have has a pair
    pub stored-pair : (k l : K) → k ≡ l → (given : List A) (pairs : List (K × Unit {0})) → HasKey bytes (bytes k) (with_keys_put bytes (map key_of given) (keys_of pairs))
        → HasKey (pair_key bytes) (bytes l) (with_pairs_put bytes (map (λ x. (key_of x, tt)) given) pairs)
    stored-pair k l same given pairs has = has-pair bytes (bytes l) (with_pairs_put bytes (map (λ x. (key_of x, tt)) given) pairs)
        (subst (λ x. HasKey bytes (bytes x) (keys_of (with_pairs_put bytes (map (λ y. (key_of y, tt)) given) pairs))) same (subst (HasKey bytes (bytes k)) (sym (keys-gathered given pairs)) has))

    -- whatever keys the map in the making had, this one is new to them and to those that were put in
    abbrev pub IsKeyNew : {P : ℕ} → (K → Type 0) → TreeMapBuilder K (Unit {0}) P → List A → RefusedKey K → Type 0
    IsKeyNew is_key old given e = (pairs : List (K × Unit {0})) → HasGathered bytes is_key old pairs → HasKey bytes (bytes e.key) (with_keys_put bytes (map key_of given) (keys_of pairs)) → ⊥

    -- where there was room, the map in the making had it
    had-room : {P : ℕ} (is_key : K → Type 0) (old : TreeMapBuilder K (Unit {0}) P) (HadRoom : ℕ → Type 0) (it : S) (given : List A) (r : Result (Unit {0}) (RefusedKey K)) → ((n : ℕ) → HadRoom n → HasRoomLeft old n)
        → MatchResult r (λ _. Drains steps it given) (λ e. HandsNextKeyBack bytes key_of becomes steps it given e × (HasRoomLeft old (2 * suc (length given)) → ⊥) × IsKeyNew is_key old given e)
        → MatchResult r (λ _. Drains steps it given) (λ e. HandsNextKeyBack bytes key_of becomes steps it given e × (HadRoom (2 * suc (length given)) → ⊥))
    had-room is_key old HadRoom it given (Ok x) has outcome = outcome
    had-room is_key old HadRoom it given (Err e) has outcome = (outcome.0, λ room. outcome.1 (has (2 * suc (length given)) room))

    -- a set whose keys were gathered after others
    module _ {P : ℕ} (is_key : K → Type 0) (old now : TreeMapBuilder K (Unit {0}) P) (iter : U) (r : Result (Unit {0}) (RefusedKey K)) (pairs : List (K × Unit {0})) (was new : Members K)
        (gathers : GathersKeysWith bytes key_of becomes steps is_key iter old r now) (has : HasGathered bytes is_key old pairs) (same : keys_of pairs ≡ was.keys)
        (made : (all : List (K × Unit {0})) → HasGathered bytes is_key now all → new.keys ≡ keys_of all) where
      put-keys : (given : List A) → HasGathered bytes is_key now (with_pairs_put bytes (map (λ x. (key_of x, tt)) given) pairs) → new.keys ≡ with_keys_put bytes (map key_of given) (keys_of pairs)
      put-keys given gathered = made (with_pairs_put bytes (map (λ x. (key_of x, tt)) given) pairs) gathered ∙ keys-gathered given pairs

      pub gather-extends : ((n : ℕ) → HasRoom was.nodes n → HasRoomLeft old n) → ((n : ℕ) → HasRoomLeft now n → HasRoom new.nodes n) → ExtendsWithKeys bytes key_of becomes steps iter was r new
      gather-extends room left = go gathers
        where
          go : GathersKeysWith bytes key_of becomes steps is_key iter old r now → ExtendsWithKeys bytes key_of becomes steps iter was r new
          go (it, given, b, put, uses, outcome) = (
            it,
            given,
            b,
            put-keys given (put pairs has) ∙ ap (with_keys_put bytes (map key_of given)) same,
            (λ n some had. left n (uses n some (room (n + 2 * length given) had))),
            had-room is_key old (HasRoom was.nodes) it given r room outcome,
          )

      -- where one is refused, it is new to the set
      pub gather-new : IfErr r (λ e. HasKey bytes (bytes e.key) new.keys → ⊥)
      gather-new = go r gathers
        where
          go : (r : Result (Unit {0}) (RefusedKey K)) → GathersKeysWith bytes key_of becomes steps is_key iter old r now → IfErr r (λ e. HasKey bytes (bytes e.key) new.keys → ⊥)
          go (Ok x) g = tt
          go (Err e) (it, given, b, put, uses, outcome) = λ stored. outcome.2 pairs has (subst (HasKey bytes (bytes e.key)) (put-keys given (put pairs has)) stored)

    -- what comes of the map of the keys beside the unit comes of the set
    pub keys-made : (iter : U) (it : S) (given : List A) (made : Contents K (Unit {0})) → becomes iter it → Drains steps it given → made.pairs ≡ with_pairs_put bytes (map (λ x. (key_of x, tt)) given) []
        → IsMadeOfKeys bytes key_of becomes steps iter (Ok (members made))
    keys-made iter it given made b drains put = (it, given, b, (drains, ap keys_of put ∙ keys-gathered given []))

module _ {K Z : Type 0} (bytes : K → List ℕ) (it : IntoIter K Z) (given items : List K) (has : into_iter_items it ≡ items) where
  -- what comes of a set that is made of the vector's keys
  abbrev IsMade : Result (Members K) (RefusedKey K) → Type 0
  IsMade r =
      MatchResult r (λ made. Drains into_iter_steps it given × (made.keys ≡ with_keys_put bytes (map (λ k. k) given) []))
      (λ e. ((item : K) × (rest : IntoIter K Z) × YieldsThen into_iter_steps it given (Some item) rest × (item ≡ e.key))
      × (HasKey bytes (bytes e.key) (with_keys_put bytes (map (λ k. k) given) []) → ⊥))

  pub vec-made : (r : Result (Members K) (RefusedKey K)) → IsMade r → IfOk r (λ made. made.keys ≡ with_keys_put bytes items [])
  vec-made (Ok made) (drains, put) = put ∙ ap (λ ks. with_keys_put bytes ks []) (map-id given ∙ (All-taken it given drains ∙ has))
  vec-made (Err e) is = tt

  pub vec-refused : (r : Result (Members K) (RefusedKey K)) → IsMade r → IfErr r (IsFirstOfKeys bytes items)
  vec-refused (Ok made) is = tt
  vec-refused (Err e) ((item, rest, yielded, told), new) = (
    given,
    into_iter_items rest,
    sym has ∙ taken-front it given yielded.0 yielded.1 ∙ ap (λ ks. given ++ ks) (yielded.2.0 ∙ ap (λ k. k ∷ into_iter_items rest) told),
    λ stored. new (put-has bytes (bytes e.key) (map (λ k. k) given) [] (subst (HasKey bytes (bytes e.key)) (sym (map-id given)) stored)),
  )

-- the same where the keys were sorted before, and those with the same bytes have kept their order
module _ {K : Type 0} (bytes : K → List ℕ) (old new : List K) (kept : (k : K) → with_key bytes (bytes k) new ≡ with_key bytes (bytes k) old) where
  pub made-sorted : (made : List K) → made ≡ with_keys_put bytes new [] → AscendsByKey bytes made → made ≡ with_keys_put bytes old []
  made-sorted made put up =
      let is = put ∙ all-put bytes new [] in
      is ∙ same-made bytes old new kept (subst (AscendsByKey bytes) is up) ∙ sym (all-put bytes old [])

  pub refused-sorted : (e : RefusedKey K) → IsFirstOfKeys bytes new e → IsFirstOfKeys bytes old e
  refused-sorted e (front, back, is, none) = same-first bytes old new kept e.key front back is none
