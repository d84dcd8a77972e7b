-- A load, as far as it has come.
use Rattle.std.proofs.Common.{◌≡◌, ℕ, ◌+◌, ◌≤◌, Bool, true, false, List, [], ◌∷◌, ◌++◌, length, Option, Some, None, refl, sym, ap, ap₂, ◌∙◌, inl, inr, subst, append_assoc, arith}
use Rattle.std.proofs.lemmas.List.{length-append}
use Rattle.std.specs.Ordering.{is_lt}
use Rattle.std.specs.Prelude.{IsTrue, if◌then◌else◌, is_ok, IfErr, IfSome, OnErr, OnOk, Result, Ok, Err}
use Rattle.art_bytes.proofs.Common.{IsBefore, before_cmp, bytes_cmp}
use Rattle.art_arena.proofs.Common.{all_at, key_of}
use Rattle.art_operations.specs.Builders.{IsAfterAll}
use Rattle.art_operations.specs.KeyedLists.{HasKey}
use Rattle.art_operations.specs.Insertions.{IsForConflict, IsPairRefused}
use Rattle.art_operations.specs.declared.insert.result.PairRefused.{PairRefused}
use Rattle.art_operations.specs.declared.insert.result.PairRefused.TheVariants as refused_by
use Rattle.art_operations.proofs.Common.{with_pair_put}
use Rattle.art_map.proofs.Common.{with_pairs_put}
use Rattle.art_map.proofs.Puts.{put-more}
use Rattle.art_map.proofs.StoredKeys.{puts-have}
use Rattle.art_c.specs.Calls.{IsPutRefused, whole}
use Rattle.art_c.specs.Handles.{Pairs}
use Rattle.art_c.specs.Layouts.{end_to_end, items_of_pairs}
use Rattle.art_c.specs.Loads.{is_above, IsLoaded, IsRefused, last_key, LoadEnds, Rises}
use Rattle.art_c.specs.Placed.{IsLong}
use Rattle.art_c.specs.declared.code.Code.{Code}
use Rattle.art_c.specs.declared.code.Code.TheVariants.{Done, Replaced, NotFound, Conflict, NoRoom, NoMemory, NoMap, NotAbove, CutOff, More, Frozen, Shared}
use Rattle.art_c.proofs.Layouts.{bytes-more, items-more}

module _ {V : Type 0} where
  rises-more : (ps : Pairs V) (p : List ℕ × V) → Rises ps → IsTrue (is_above (last_key ps) p.0) → Rises (ps ++ p ∷ [])
  rises-more [] p rises above = tt
  rises-more (q ∷ []) p rises above = (above, tt)
  rises-more (q ∷ r ∷ ps) p rises above = (rises.0, rises-more (r ∷ ps) p rises.1 above)

  key-more : (ps : Pairs V) (p : List ℕ × V) → last_key (ps ++ p ∷ []) ≡ Some p.0
  key-more [] p = refl
  key-more (q ∷ []) p = refl
  key-more (q ∷ r ∷ ps) p = key-more (r ∷ ps) p

  pub last-in : (ps : Pairs V) (b : List ℕ) → last_key ps ≡ Some b → HasKey (key_of whole) b ps
  last-in [] b is = absurd (cc)
  last-in (p ∷ []) b is = let e : p.0 ≡ b = cc in (p, inl refl, e)
  last-in (p ∷ q ∷ ps) b is = let (x, i, e) = last-in (q ∷ ps) b is in (x, inr i, e)

  -- why a pair does not go in, by why a put of it does not
  pub not_in : (before : Option (List ℕ)) (key : List ℕ) (pairs : Pairs V) (code : Code) → is_above before key ≡ true
      → IsPutRefused key pairs code pairs → IsRefused before key pairs code
  not_in before key pairs Conflict above is = (above, is.0)
  not_in before key pairs NoMemory above is = (above, is.0)
  not_in before key pairs Done above is = absurd is
  not_in before key pairs Replaced above is = absurd is
  not_in before key pairs NotFound above is = absurd is
  not_in before key pairs NoRoom above is = absurd is
  not_in before key pairs NoMap above is = absurd is
  not_in before key pairs NotAbove above is = absurd is
  not_in before key pairs CutOff above is = absurd is
  not_in before key pairs More above is = absurd is
  not_in before key pairs Frozen above is = absurd is
  not_in before key pairs Shared above is = absurd is

-- a pair was put in where it is told so, whose parts are copies
module _ {V E : Type 0} (k key : List ℕ) (v value : V) (Had Has : Pairs V → Type 0) where
  pub put_told : (r : Result (Unit {0}) E) (is : Bool) → k ≡ key → v ≡ value → is ≡ is_ok r
      → OnOk r ((pairs : Pairs V) → Had pairs → Has (with_pair_put whole k v pairs))
      → OnErr r ((pairs : Pairs V) → Had pairs → Has pairs)
      → (pairs : Pairs V) → Had pairs → Has (if is then with_pair_put whole key value pairs else pairs)
  put_told (Ok _) is same same_value told ok err pairs had =
      subst (λ b. Has (if b then with_pair_put whole key value pairs else pairs)) (sym told)
      (subst Has (ap₂ (λ l w. with_pair_put whole l w pairs) same same_value) (ok pairs had))
  put_told (Err _) is same same_value told ok err pairs had =
      subst (λ b. Has (if b then with_pair_put whole key value pairs else pairs)) (sym told) (err pairs had)

-- bytes of no more than thirty are not long
pub short-key : (bytes : List ℕ) (n : ℕ) → length bytes ≡ n → n ≤ 30 → IsLong bytes → ⊥
short-key bytes n same few many = omega (arith, same, few, many)

-- room that is used or not is some
pub some-room : (is : Bool) (n : ℕ) → 1 ≤ n → 1 ≤ (if is then n + 2 else n)
some-room true n one = omega arith
some-room false n one = one

-- what room a put leaves
module _ {E : Type 0} (r : Result (Unit {0}) E) (is : Bool) (told : is ≡ is_ok r) where
  pub put_room : (Was Has : ℕ → Type 0) → ((n : ℕ) → Was (n + 2) → Has n) → OnErr r ((n : ℕ) → 1 ≤ n → Was n → Has n)
      → (n : ℕ) → 1 ≤ n → Was (if is then n + 2 else n) → Has n
  put_room Was Has room kept n one has = step r (subst (λ b. Was (if b then n + 2 else n)) told has) kept
    where
      step : (r : Result (Unit {0}) E) → Was (if is_ok r then n + 2 else n)
          → OnErr r ((n : ℕ) → 1 ≤ n → Was n → Has n) → Has n
      step (Ok _) has kept = room n has
      step (Err e) has kept = kept n one has

  -- what is so of a success is so where it is told
  pub put_so : {P : Type 0} → OnOk r P → IsTrue is → P
  put_so {P} so passed = step r so (sym told ∙ passed)
    where
      step : (r : Result (Unit {0}) E) → OnOk r P → is_ok r ≡ true → P
      step (Ok _) so passed = so
      step (Err e) so passed = absurd (cc)

-- why one is refused
module _ {K V : Type 0} (r : Result (Unit {0}) (PairRefused K V)) (is : Bool) (told : is ≡ is_ok r) where
  pub put_blocked : (k : K) (v : V) (Had : List (K × V) → Type 0) (Blocked : List (K × V) → Type 0) (Room : Type 0)
      → IfErr r (λ e. (pairs : List (K × V)) → Had pairs → IsPairRefused k v (Blocked pairs) e)
      → IfErr r (λ e. Room → IsForConflict e)
      → is ≡ false → (pairs : List (K × V)) → Had pairs → Room → Blocked pairs
  put_blocked k v Had Blocked Room refused free out pairs had room = step r refused free (sym told ∙ out)
    where
      step : (r : Result (Unit {0}) (PairRefused K V))
          → IfErr r (λ e. (pairs : List (K × V)) → Had pairs → IsPairRefused k v (Blocked pairs) e)
          → IfErr r (λ e. Room → IsForConflict e) → is_ok r ≡ false → Blocked pairs
      step (Ok _) refused free out = absurd (cc)
      step (Err (refused_by.Conflict x y)) refused free out = (refused pairs had).2
      step (Err (refused_by.Memory x y)) refused free out = absurd (free room)

-- a key that goes after all is above that of one of them
pub after-above : {V : Type 0} (before : Option (List ℕ)) (key : List ℕ) (pairs : Pairs V) → IsAfterAll whole key pairs
    → IfSome before (λ b. HasKey (key_of whole) b pairs) → IsTrue (is_above before key)
after-above None key pairs following has = refl
after-above (Some b) key pairs following (p, i, is) =
    let before = all_at (λ (q : List ℕ × _). IsBefore q.0 key) p pairs following i in
    ap is_lt (ap (λ k. bytes_cmp k key) (sym is) ∙ before_cmp p.0 key before)

module _ {V I : Type 0} (text : V → List ℕ) (item : List ℕ → V → I) (bytes : List ℕ) (items : List I) (old : Pairs V) where
  -- so many pairs were taken, and this is what is left of the buffer
  pub record Taken (rest : List ℕ) (left : List I) (at : ℕ) (before : Option (List ℕ)) (now : Pairs V) : Type 0 where
    pub taken : Pairs V
    pub bytes_are : bytes ≡ end_to_end text taken ++ rest
    pub items_are : items ≡ items_of_pairs item taken ++ left
    pub count : at ≡ length taken
    pub rises : Rises taken
    pub key : before ≡ last_key taken
    pub put : now ≡ with_pairs_put whole taken old

  -- the last that was taken is in
  pub before-in : {rest : List ℕ} {left : List I} {at : ℕ} {before : Option (List ℕ)} {now : Pairs V} → Taken rest left at before now
      → IfSome before (λ b. HasKey (key_of whole) b now)
  before-in {rest} {left} {at} {before} {now} t = go before t.key
    where
      go : (o : Option (List ℕ)) → o ≡ last_key t.taken → IfSome o (λ b. HasKey (key_of whole) b now)
      go None is = tt
      go (Some b) is = subst (HasKey (key_of whole) b) (sym t.put) (puts-have whole b t.taken old (last-in t.taken b (sym is)))

  -- none is taken yet
  pub none-loaded : Taken bytes items 0 None old
  none-loaded = record { taken = []; bytes_are = refl; items_are = refl; count = refl; rises = tt; key = refl; put = refl }

  -- one more is taken
  pub one-more : {rest : List ℕ} {left : List I} {at : ℕ} {before : Option (List ℕ)} {now : Pairs V} (t : Taken rest left at before now)
      (is : I) (following : List I) (key : List ℕ) (value : V) (others : List ℕ) (next : Pairs V) → left ≡ is ∷ following
      → rest ≡ key ++ (text value ++ others) → is ≡ item key value → IsTrue (is_above before key)
      → next ≡ with_pair_put whole key value now
      → Taken others following (at + 1) (Some key) next
  one-more {rest} {left} {at} {before} {now} t is following key value others next left_is begins told above put =
      let p : List ℕ × V = (key, value) in
      record {
        taken = t.taken ++ p ∷ [];
        bytes_are = t.bytes_are ∙ ap (λ z. end_to_end text t.taken ++ z) (begins ∙ sym (append_assoc key (text value) others))
            ∙ sym (append_assoc (end_to_end text t.taken) (key ++ text value) others) ∙ ap (λ z. z ++ others) (sym (bytes-more text t.taken p));
        items_are = t.items_are ∙ ap (λ z. items_of_pairs item t.taken ++ z) (left_is ∙ ap (λ l. l ∷ following) told)
            ∙ sym (append_assoc (items_of_pairs item t.taken) (item key value ∷ []) following) ∙ ap (λ z. z ++ following) (sym (items-more item t.taken p));
        count = omega (arith, t.count, length-append t.taken (p ∷ []));
        rises = rises-more t.taken p t.rises (subst (λ k. IsTrue (is_above k key)) t.key above);
        key = sym (key-more t.taken p);
        put = put ∙ ap (with_pair_put whole key value) t.put ∙ sym (put-more whole t.taken p old);
      }

  -- it ends there
  pub load-ends : (key_len text_len : I → ℕ) {rest : List ℕ} {left : List I} {at : ℕ} {before : Option (List ℕ)} {now : Pairs V}
      (t : Taken rest left at before now) (was : ℕ) (code : Code) (new : Pairs V) → new ≡ now
      → LoadEnds text item key_len text_len before rest left now code
      → IsLoaded text item key_len text_len bytes items old was code new at
  load-ends key_len text_len {rest} {left} {at} {before} {now} t was code new same ends = (
    t.taken,
    rest,
    left,
    t.bytes_are,
    t.items_are,
    t.count,
    t.rises,
    same ∙ t.put,
    subst (λ ps. LoadEnds text item key_len text_len (last_key t.taken) rest left ps code) (sym same)
        (subst (λ b. LoadEnds text item key_len text_len b rest left now code) t.key ends),
  )
