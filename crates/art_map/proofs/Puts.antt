-- Many pairs that are put in, one after another.
use Rattle.std.proofs.Common.{◌≡◌, ℕ, suc, ◌+◌, ◌*◌, ◌≤◌, List, [], ◌∷◌, ◌++◌, length, map, MatchResult, Option, Some, Ok, Err, Result, refl, sym, ap, ap₂, subst, ◌∙◌, append_assoc}
use Rattle.std.specs.Iterator.{Drains, Yields}
use Rattle.std.specs.Prelude.{IfErr}
use Rattle.std.specs.Result.{IsErrAnd}
use Rattle.std.proofs.lemmas.List.{append-nil, map-append}
use Rattle.art_bytes.proofs.Common.{IsBefore}
use Rattle.art_arena.proofs.Common.{HasRoom, key_of, AscendsByKey, all_left}
use Rattle.art_operations.proofs.Common.{HasKey, IsBlocked, with_pair_put, put_new}
use Rattle.art_operations.specs.declared.insert.result.InsertRefused.{InsertRefused}
use Rattle.art_map.proofs.Terms.{with_pairs_put, GathersWith, HasGathered, HasRoomLeft, ExtendsWith, HandsNextBack, IsMadeOf, Contents}
use Rattle.art_map.specs.declared.map.builder.TreeMapBuilder.{TreeMapBuilder}

module _ {K V : Type 0} (bytes : K → List ℕ) where
  -- one more
  pub put-more : (xs : List (K × V)) (p : K × V) (old : List (K × V)) → with_pairs_put bytes (xs ++ p ∷ []) old ≡ with_pair_put bytes p.0 p.1 (with_pairs_put bytes xs old)
  put-more [] p old = refl
  put-more (x ∷ xs) p old = put-more xs p (with_pair_put bytes x.0 x.1 old)

  -- the same of what items show
  pub put-item : {A : Type 0} (pair_of : A → K × V) (xs : List A) (x : A) (old : List (K × V))
      → with_pairs_put bytes (map pair_of (xs ++ x ∷ [])) old ≡ with_pair_put bytes (pair_of x).0 (pair_of x).1 (with_pairs_put bytes (map pair_of xs) old)
  put-item pair_of xs x old = ap (λ ps. with_pairs_put bytes ps old) (map-append pair_of xs (x ∷ [])) ∙ put-more (map pair_of xs) (pair_of x) old

  -- the first of an ascending list ascend
  pub ascends-left : (xs ys : List (K × V)) → AscendsByKey (key_of bytes) (xs ++ ys) → AscendsByKey (key_of bytes) xs
  ascends-left [] ys up = tt
  ascends-left (x ∷ xs) ys up = (all_left (λ y. IsBefore (key_of bytes x) (key_of bytes y)) xs ys up.0, ascends-left xs ys up.1)

  -- a pair after all others is put in there, and one before all others there
  pub put-last : (front : List (K × V)) (p : K × V) → AscendsByKey (key_of bytes) (front ++ p ∷ []) → with_pair_put bytes p.0 p.1 front ≡ front ++ p ∷ []
  put-last front p up = ap (λ ps. with_pair_put bytes p.0 p.1 ps) (sym (append-nil front)) ∙ sym (put_new (key_of bytes) p front [] up).new_is

  pub put-first : (p : K × V) (back : List (K × V)) → AscendsByKey (key_of bytes) (p ∷ back) → with_pair_put bytes p.0 p.1 back ≡ p ∷ back
  put-first p back up = sym (put_new (key_of bytes) p [] back up).new_is

  -- neither is blocked
  pub free-last : (front : List (K × V)) (p : K × V) → AscendsByKey (key_of bytes) (front ++ p ∷ []) → IsBlocked (key_of bytes) (bytes p.0) front → ⊥
  free-last front p up blocked = (put_new (key_of bytes) p front [] up).free (subst (IsBlocked (key_of bytes) (bytes p.0)) (sym (append-nil front)) blocked)

  pub free-first : (p : K × V) (back : List (K × V)) → AscendsByKey (key_of bytes) (p ∷ back) → IsBlocked (key_of bytes) (bytes p.0) back → ⊥
  free-first p back up = (put_new (key_of bytes) p [] back up).free

  -- an ascending list is put in after what it goes on
  pub put-after : (front pairs : List (K × V)) → AscendsByKey (key_of bytes) (front ++ pairs) → with_pairs_put bytes pairs front ≡ front ++ pairs
  put-after front [] up = sym (append-nil front)
  put-after front (p ∷ ps) up =
      let next = subst (AscendsByKey (key_of bytes)) (sym (append_assoc front (p ∷ []) ps)) up in
      ap (with_pairs_put bytes ps) (put-last front p (ascends-left (front ++ p ∷ []) ps next))
      ∙ put-after (front ++ p ∷ []) ps next ∙ append_assoc front (p ∷ []) ps

  -- and the last ascend
  pub ascends-right : (xs ys : List (K × V)) → AscendsByKey (key_of bytes) (xs ++ ys) → AscendsByKey (key_of bytes) ys
  ascends-right [] ys up = up
  ascends-right (x ∷ xs) ys up = ascends-right xs ys up.1

  module _ {U S A : Type 0} (pair_of : A → K × V) (becomes : U → S → Type 0) (steps : S → Option A → S → Type 0) where
    -- the item that came after these is handed back
    pub next-back : (it t u : S) (given : List A) (item : A) (e : InsertRefused K V) (k : K) (v : V) → Yields steps it given t → steps t (Some item) u → pair_of item ≡ (k, v) → (e.key ≡ k) × (e.value ≡ v)
        → HandsNextBack bytes pair_of becomes steps it given e
    next-back it t u given item e k v yielded step is back = (item, u, (t, yielded, step), is ∙ ap₂ (λ x y. (x, y)) (sym back.0) (sym back.1))

    pub made-refused : (iter : U) (it : S) (given : List A) (e : InsertRefused K V) (r : Result (Contents K V) (InsertRefused K V)) → becomes iter it → HandsNextBack bytes pair_of becomes steps it given e
        → (HasKey (key_of bytes) (bytes e.key) (with_pairs_put bytes (map pair_of given) []) → ⊥) → IsErrAnd r (λ x. x ≡ e) → IsMadeOf bytes pair_of becomes steps iter r
    made-refused iter it given e (Ok x) b back new h = absurd h
    made-refused iter it given e (Err x) b back new h = (
      it,
      given,
      b,
      (subst (HandsNextBack bytes pair_of becomes steps it given) (sym h) back, subst (λ (r : InsertRefused K V). HasKey (key_of bytes) (bytes r.key) (with_pairs_put bytes (map pair_of given) []) → ⊥) (sym h) new),
    )

    -- whatever pairs the map in the making had, the key is new to them and those that were put in
    abbrev pub HasNewKey : {P : ℕ} → (K → Type 0) → TreeMapBuilder K V P → List A → InsertRefused K V → Type 0
    HasNewKey is_key old given e = (pairs : List (K × V)) → HasGathered bytes is_key old pairs → HasKey (key_of bytes) (bytes e.key) (with_pairs_put bytes (map pair_of given) pairs) → ⊥

    pub gather-refused : {P : ℕ} (is_key : K → Type 0) (old now : TreeMapBuilder K V P) (iter : U) (it : S) (given : List A) (e : InsertRefused K V) (r : Result (Unit {0}) (InsertRefused K V)) → becomes iter it
        → ((pairs : List (K × V)) → HasGathered bytes is_key old pairs → HasGathered bytes is_key now (with_pairs_put bytes (map pair_of given) pairs)) → ((n : ℕ) → 1 ≤ n → HasRoomLeft old (n + 2 * length given) → HasRoomLeft now n) → HandsNextBack bytes pair_of becomes steps it given e
        → (HasRoomLeft old (2 * suc (length given)) → ⊥) → HasNewKey is_key old given e → IsErrAnd r (λ x. x ≡ e) → GathersWith bytes is_key pair_of becomes steps iter old r now
    gather-refused is_key old now iter it given e (Ok x) b put room back none new h = absurd h
    gather-refused is_key old now iter it given e (Err x) b put room back none new h = (
      it,
      given,
      b,
      put,
      room,
      (subst (HandsNextBack bytes pair_of becomes steps it given) (sym h) back, none, subst (HasNewKey is_key old given) (sym h) new),
    )

    -- where there was room, the map in the making had it
    had-room : {P : ℕ} (is_key : K → Type 0) (old : TreeMapBuilder K V P) (HadRoom : ℕ → Type 0) (it : S) (given : List A) (r : Result (Unit {0}) (InsertRefused K V)) → ((n : ℕ) → HadRoom n → HasRoomLeft old n)
        → MatchResult r (λ _. Drains steps it given) (λ e. HandsNextBack bytes pair_of becomes steps it given e × (HasRoomLeft old (2 * suc (length given)) → ⊥) × HasNewKey is_key old given e)
        → MatchResult r (λ _. Drains steps it given) (λ e. HandsNextBack bytes pair_of becomes steps it given e × (HadRoom (2 * suc (length given)) → ⊥))
    had-room is_key old HadRoom it given (Ok x) has outcome = outcome
    had-room is_key old HadRoom it given (Err e) has outcome = (outcome.0, λ room. outcome.1 (has (2 * suc (length given)) room))

    -- a map whose pairs were gathered after others'
    module _ {P : ℕ} (is_key : K → Type 0) (old now : TreeMapBuilder K V P) (iter : U) (r : Result (Unit {0}) (InsertRefused K V)) (was new : Contents K V) (gathers : GathersWith bytes is_key pair_of becomes steps iter old r now)
        (has : HasGathered bytes is_key old was.pairs) (made : (all : List (K × V)) → HasGathered bytes is_key now all → new.pairs ≡ all) where
      pub gather-extends : ((n : ℕ) → HasRoom was.nodes n → HasRoomLeft old n) → ((n : ℕ) → HasRoomLeft now n → HasRoom new.nodes n) → ExtendsWith bytes pair_of becomes steps iter was r new
      gather-extends room left = go gathers
        where
          go : GathersWith bytes is_key pair_of becomes steps iter old r now → ExtendsWith bytes pair_of becomes steps iter was r new
          go (it, given, b, put, uses, outcome) =
              (it, given, b, made (with_pairs_put bytes (map pair_of given) was.pairs) (put was.pairs has), (λ n some had. left n (uses n some (room (n + 2 * length given) had))), had-room is_key old (HasRoom was.nodes) it given r room outcome)

      -- where one is refused, its key is new to the map
      pub gather-new : IfErr r (λ e. HasKey (key_of bytes) (bytes e.key) new.pairs → ⊥)
      gather-new = go r gathers
        where
          go : (r : Result (Unit {0}) (InsertRefused K V)) → GathersWith bytes is_key pair_of becomes steps iter old r now → IfErr r (λ e. HasKey (key_of bytes) (bytes e.key) new.pairs → ⊥)
          go (Ok x) g = tt
          go (Err e) (it, given, b, put, uses, outcome) = λ stored.
              outcome.2 was.pairs has (subst (HasKey (key_of bytes) (bytes e.key)) (made (with_pairs_put bytes (map pair_of given) was.pairs) (put was.pairs has)) stored)
