-- What a look-up tells of a list of pairs whose keys are their own bytes.
use Rattle.std.proofs.Common.{◌≡◌, ℕ, Bool, true, false, cond, not, List, [], ◌∷◌, ◌++◌, Option, Some, None, bytes_eq, refl, sym, ap, subst, ◌∙◌, inl, inr}
use Rattle.std.specs.Map.{lookup, set_value}
use Rattle.std.proofs.lemmas.Slice.Eq.{bytes_eq-Decides}
use Rattle.std.specs.Prelude.{IfErr, OnErr, Result, Ok, Err}
use Rattle.art_arena.specs.arena.Arena.{HasRoom}
use Rattle.art_arena.proofs.Common.{AscendsByKey, key_of, IsIn}
use Rattle.art_map.proofs.Common.{has_bytes}
use Rattle.art_operations.proofs.Common.{HasKey, IsBlocked, put_replaced, with_pair_put, without_key}
use Rattle.art_c.specs.Calls.{GoesIn, stored_value, whole}
use Rattle.art_c.specs.Handles.{Map, Pairs}
use Rattle.art_c.specs.NodeRoom.{NeedsMemory}
use Rattle.art_c.specs.Placed.{IsLong}
use Rattle.art_c.specs.declared.code.Code.{Code}
use Rattle.art_c.specs.declared.code.Code.TheVariants.{NoMemory}

module _ {V : Type 0} (key : List ℕ) where
  -- a key that is found is stored
  pub has-key : (v : V) (ps : Pairs V) → Some v ≡ lookup (has_bytes whole key) ps → HasKey (key_of whole) key ps
  has-key v [] h = absurd (cc)
  has-key v (p ∷ ps) h = step (bytes_eq p.0 key) refl (has-key v ps) h
    where
      step : (b : Bool) → bytes_eq p.0 key ≡ b → (Some v ≡ lookup (has_bytes whole key) ps → HasKey (key_of whole) key ps)
          → Some v ≡ cond b (Some p.1) (lookup (has_bytes whole key) ps) → HasKey (key_of whole) key (p ∷ ps)
      step true e later h = (p, inl refl, (bytes_eq-Decides p.0 key).0 e)
      step false e later h = let there = later h in (there.0, inr there.1, there.2)

  -- a key that is not found is not
  pub no-key : (ps : Pairs V) → None ≡ lookup (has_bytes whole key) ps → HasKey (key_of whole) key ps → ⊥
  no-key [] h (x, i, same) = i
  no-key (p ∷ ps) h (x, i, same) = step (bytes_eq p.0 key) refl (no-key ps) h i
    where
      step : (b : Bool) → bytes_eq p.0 key ≡ b → (None ≡ lookup (has_bytes whole key) ps → HasKey (key_of whole) key ps → ⊥)
          → None ≡ cond b (Some p.1) (lookup (has_bytes whole key) ps) → IsIn x (p ∷ ps) → ⊥
      step true e later h i = absurd (cc)
      step false e later h (inl is) = let told : bytes_eq p.0 key ≡ true = (bytes_eq-Decides p.0 key).1 (ap (λ y. y.0) is ∙ same) in absurd (cc)
      step false e later h (inr i) = later h (x, i, same)

  -- and then nothing is taken out
  pub none-gone : (ps : Pairs V) → None ≡ lookup (has_bytes whole key) ps → without_key (key_of whole) key ps ≡ ps
  none-gone [] h = refl
  none-gone (p ∷ ps) h = step (bytes_eq p.0 key) (none-gone ps) h
    where
      step : (b : Bool) → (None ≡ lookup (has_bytes whole key) ps → without_key (key_of whole) key ps ≡ ps)
          → None ≡ cond b (Some p.1) (lookup (has_bytes whole key) ps) → cond (not b) (p ∷ without_key (key_of whole) key ps) (without_key (key_of whole) key ps) ≡ p ∷ ps
      step true later h = absurd (cc)
      step false later h = ap (λ qs. p ∷ qs) (later h)

  -- where the key stands among pairs, and the same with another value there
  record StoredAt (v : V) (ps : Pairs V) : Type 0 where
    front : Pairs V
    was : V
    back : Pairs V
    is : ps ≡ front ++ (key, was) ∷ back
    set : set_value (has_bytes whole key) ps v ≡ front ++ (key, v) ∷ back

  stored-at : (v was : V) (ps : Pairs V) → Some was ≡ lookup (has_bytes whole key) ps → StoredAt v ps
  stored-at v was [] h = absurd (cc)
  stored-at v was (p ∷ ps) h = step (bytes_eq p.0 key) refl (stored-at v was ps) h
    where
      step : (b : Bool) → bytes_eq p.0 key ≡ b → (Some was ≡ lookup (has_bytes whole key) ps → StoredAt v ps)
          → Some was ≡ cond b (Some p.1) (lookup (has_bytes whole key) ps) → StoredAt v (p ∷ ps)
      step true e later h =
          let same : p.0 ≡ key = (bytes_eq-Decides p.0 key).0 e in
          record { front = []; was = p.1; back = ps; is = ap (λ k. (k, p.1) ∷ ps) same; set = rw e (ap (λ k. (k, v) ∷ ps) same) }
      step false e later h =
          let there = later h in
          record {
            front = p ∷ there.front;
            was = there.was;
            back = there.back;
            is = ap (λ qs. p ∷ qs) there.is;
            set = rw e (ap (λ qs. p ∷ qs) there.set);
          }

  -- a value that is replaced is put in at the place of its key
  pub set-is-put : (v was : V) (ps : Pairs V) → Some was ≡ lookup (has_bytes whole key) ps
      → AscendsByKey (key_of whole) (set_value (has_bytes whole key) ps v)
      → set_value (has_bytes whole key) ps v ≡ with_pair_put whole key v ps
  set-is-put v was ps h ordered =
      let at = stored-at v was ps h in
      let put = put_replaced (key_of whole) (key, v) at.front (key, at.was) at.back refl (subst (AscendsByKey (key_of whole)) at.set ordered) in
      at.set ∙ put.new_is ∙ ap (λ qs. with_pair_put whole key v qs) (sym at.is)

-- a pair went in whose key is a copy
pub put_copy : {V : Type 0} (k key : List ℕ) (value : V) (old new : Pairs V) (was : Option V) → k ≡ key
    → was ≡ stored_value k old → new ≡ with_pair_put whole k value old
    → (was ≡ stored_value key old) × (new ≡ with_pair_put whole key value old)
put_copy k key value old new was same is put =
    (is ∙ ap (λ l. stored_value l old) same, put ∙ ap (λ l. with_pair_put whole l value old) same)

-- the value of a stored key is replaced
pub put_stored : {V : Type 0} (key : List ℕ) (v value : V) (old new : Pairs V) (was : V) → v ≡ value
    → (IsBlocked (key_of whole) key old → ⊥) → stored_value key old ≡ Some was → new ≡ set_value (has_bytes whole key) old v
    → AscendsByKey (key_of whole) new → GoesIn key value old (Some was) new
put_stored key v value old new was same free is set ordered =
    let put : new ≡ with_pair_put whole key v old = set ∙ set-is-put key v was old (sym is) (subst (AscendsByKey (key_of whole)) set ordered) in
    (free, sym is, put ∙ ap (λ w. with_pair_put whole key w old) same)

-- a pair whose key is new did not go in for want of memory
pub needs_memory : {V : Type 0} (key text : List ℕ) (old : Map V) (r : Result (Option V) Code) → stored_value key old.pairs ≡ None
    → OnErr r (HasRoom old.nodes 2 → IsLong key) → IfErr r (λ code. code ≡ NoMemory → NeedsMemory key text old)
needs_memory key text old (Ok was) none long = tt
needs_memory key text old (Err code) none long = λ _. inr (none, long)
