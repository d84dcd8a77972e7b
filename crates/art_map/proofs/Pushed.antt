-- A pair that goes after all others.
use Rattle.std.proofs.Common.{◌≡◌, ℕ, Bool, true, false, MatchBool, List, [], ◌∷◌, ◌++◌, Some, None, refl, sym, subst, ◌∙◌, inl, inr, le-ltb, eq-eqb, arith}
use Rattle.std.specs.Ordering.{is_lt}
use Rattle.std.specs.Prelude.{Result, Ok, Err, IfErr, OnOk}
use Rattle.std.specs.declared.cmp.Ordering.{Ordering}
use Rattle.std.specs.declared.cmp.Ordering.TheVariants.{Less, Equal, Greater}
use Rattle.art_bytes.proofs.Common.{BeginsWith, Conflict, IsBefore, before_cmp, before_trans, bytes_cmp, cmp_before, conflict_not_before, conflict_turned}
use Rattle.art_arena.proofs.Common.{AscendsByKey, all_at, key_of}
use Rattle.art_operations.proofs.Common.{IsBlocked}
use Rattle.art_operations.specs.Builders.{IsAfterAll, IsPushRefused}
use Rattle.art_operations.specs.declared.build.PushRefused.{PushRefused}
use Rattle.art_operations.specs.declared.build.PushRefused.TheVariants.{NotAfter, Memory}
use Rattle.art_map.proofs.Terms.{last_item}
use Rattle.art_map.proofs.PairChanges.{last-pair-greatest}

-- bytes are not below a front of them
front-not-above : (k l : List ℕ) → BeginsWith k l → bytes_cmp l k ≡ Less → ⊥
front-not-above [] [] begins e = absurd (cc)
front-not-above [] (b ∷ l) begins e = absurd (cc)
front-not-above (a ∷ k) [] (r, same) e = absurd (cc)
front-not-above (a ∷ k) (b ∷ l) (r, same) e =
    let f : b ≡ a = cc in
    let rest : l ≡ k ++ r = cc in
    let less : bytes_cmp l k ≡ Less = let c = le-ltb b a (omega arith) in let d = eq-eqb b a f in rw (c, d) at e in
    front-not-above k l (r, rest) less

-- so where bytes are no front of others, their order tells whether they part from these and go on by the smaller byte
pub order-tells : (b : Bool) (k l : List ℕ) → b ≡ is_lt (bytes_cmp k l) → (BeginsWith k l → ⊥) → MatchBool b (IsBefore k l) (IsBefore k l → ⊥)
order-tells b k l told apart = go b (bytes_cmp k l) refl told
  where
    free : bytes_cmp k l ≡ Less → Conflict k l → ⊥
    free e (differ, inl begins) = apart begins
    free e (differ, inr begins) = front-not-above l k begins e

    not-less : (o : Ordering) → bytes_cmp k l ≡ o → (Less ≡ o → ⊥) → IsBefore k l → ⊥
    not-less o is other less = other (sym (before_cmp k l less) ∙ is)

    go : (b : Bool) (o : Ordering) → bytes_cmp k l ≡ o → b ≡ is_lt o → MatchBool b (IsBefore k l) (IsBefore k l → ⊥)
    go true Less is told = cmp_before k l is (free is)
    go true Equal is told = absurd (cc)
    go true Greater is told = absurd (cc)
    go false Less is told = absurd (cc)
    go false Equal is told = not-less Equal is (λ e. absurd (cc))
    go false Greater is told = not-less Greater is (λ e. absurd (cc))

module _ {K V : Type 0} (bytes : K → List ℕ) where
  -- of pairs that ascend, a key that goes after the last goes after all, and one that goes after all after the last
  after-last : (p : K × V) (ps : List (K × V)) (key : List ℕ) → AscendsByKey (key_of bytes) ps → last_item ps ≡ Some p → IsBefore (bytes p.0) key → IsAfterAll bytes key ps
  after-last p [] key up is less = tt
  after-last p (x ∷ []) key up is less = let e : p ≡ x = cc in (subst (λ q. IsBefore (bytes q.0) key) e less, tt)
  after-last p (x ∷ y ∷ ys) key up is less =
      let first : IsBefore (bytes x.0) key =
      elim (last-pair-greatest bytes p x (x ∷ y ∷ ys) up is (inl refl)) [
        | inl e ↦ subst (λ q. IsBefore (bytes q.0) key) (sym e) less
        | inr lower ↦ before_trans (bytes x.0) (bytes p.0) key lower less
      ] in
      (first, after-last p (y ∷ ys) key up.1 is less)

  last-after : (p : K × V) (ps : List (K × V)) (key : List ℕ) → last_item ps ≡ Some p → IsAfterAll bytes key ps → IsBefore (bytes p.0) key
  last-after p [] key is all = absurd (cc)
  last-after p (x ∷ []) key is all = let e : x ≡ p = cc in subst (λ q. IsBefore (bytes q.0) key) e all.0
  last-after p (x ∷ y ∷ ys) key is all = last-after p (y ∷ ys) key is all.1

  pub last-tells : (b : Bool) (p : K × V) (ps : List (K × V)) (key : List ℕ) → AscendsByKey (key_of bytes) ps → Some p ≡ last_item ps → MatchBool b (IsBefore (bytes p.0) key) (IsBefore (bytes p.0) key → ⊥)
      → MatchBool b (IsAfterAll bytes key ps) (IsAfterAll bytes key ps → ⊥)
  last-tells true p ps key up is less = after-last p ps key up (sym is) less
  last-tells false p ps key up is not = λ all. not (last-after p ps key (sym is) all)

  has-last : (x : K × V) (xs : List (K × V)) → None ≡ last_item (x ∷ xs) → ⊥
  has-last x [] is = absurd (cc)
  has-last x (y ∷ ys) is = has-last y ys is

  -- where there is no last, each key does
  pub none-last : (ps : List (K × V)) (key : List ℕ) → None ≡ last_item ps → IsAfterAll bytes key ps
  none-last [] key is = tt
  none-last (x ∷ xs) key is = absurd (has-last x xs is)

  -- a key that goes after all is not blocked
  pub after-free : (key : List ℕ) (ps : List (K × V)) → IsAfterAll bytes key ps → IsBlocked (key_of bytes) key ps → ⊥
  after-free key ps all (x, i, conflict) =
      conflict_not_before (bytes x.0) key (conflict_turned key (bytes x.0) conflict) (all_at (λ p. IsBefore (bytes p.0) key) x ps all i)

module _ {K V : Type 0} (key : K) (value : V) where
  -- a refusal that is not for the place is for want of memory, where the key does go after all
  pub refused-after : (IsAfter : Type 0) (e : PushRefused K V) → IsAfter → IsPushRefused key value (Unit {0}) e → IsPushRefused key value IsAfter e
  refused-after IsAfter (NotAfter k v) is refused = absurd (refused.2 tt)
  refused-after IsAfter (Memory k v) is refused = (refused.0, refused.1, is)

-- what a test tells
pub told-true : (b : Bool) (Yes No : Type 0) → b ≡ true → MatchBool b Yes No → Yes
told-true b Yes No e told = subst (λ t. MatchBool t Yes No) e told

pub told-false : (b : Bool) (Yes No : Type 0) → b ≡ false → MatchBool b Yes No → No
told-false b Yes No e told = subst (λ t. MatchBool t Yes No) e told

-- what is so is so of each success
pub ok-so : {A E P : Type 0} (r : Result A E) → P → OnOk r P
ok-so (Ok x) p = p
ok-so (Err e) p = tt

module _ {K V : Type 0} (key : K) (value : V) {A : Type 0} where
  pub err-after : (IsAfter : Type 0) (r : Result A (PushRefused K V)) → IsAfter → IfErr r (λ e. IsPushRefused key value (Unit {0}) e) → IfErr r (λ e. IsPushRefused key value IsAfter e)
  err-after IsAfter (Ok x) is refused = tt
  err-after IsAfter (Err e) is refused = refused-after key value IsAfter e is refused

-- the same of whatever pairs there are, once it is told that the pair that is handed back is the one that came
pub err-after-these : {K V A : Type 0} (key k : K) (value v : V) (Has IsAfter : List (K × V) → Type 0) (r : Result A (PushRefused K V)) → ((pairs : List (K × V)) → Has pairs → (k ≡ key) × (v ≡ value) × IsAfter pairs)
    → IfErr r (λ e. IsPushRefused k v (Unit {0}) e) → IfErr r (λ e. (pairs : List (K × V)) → Has pairs → IsPushRefused key value (IsAfter pairs) e)
err-after-these key k value v Has IsAfter (Ok x) these refused = tt
err-after-these key k value v Has IsAfter (Err e) these refused = λ pairs has.
    let why = these pairs has in
    subst (λ l. IsPushRefused l value (IsAfter pairs) e) why.0 (subst (λ w. IsPushRefused k w (IsAfter pairs) e) why.1 (refused-after k v (IsAfter pairs) e why.2 refused))
