-- What holds of a result, from what holds of it where it is one or the other.
use Rattle.std.proofs.Common.{◌≡◌, IfOk, IsOk, OnErr, OnOk, Ok, Err, refl}
use Rattle.std.specs.declared.result.Result.{Result}

module _ {A E : Type 0} where
  -- what succeeds has no other outcome
  pub never : (r : Result A E) → IsOk r → ((x : A) → r ≡ Ok x → ⊥) → ⊥
  never (Ok x) ok other = other x refl
  never (Err e) ok other = absurd (cc)

  -- and one that failed did not succeed
  pub failed : (r : Result A E) (e : E) → r ≡ Err e → IsOk r → ⊥
  failed (Ok x) e is ok = absurd (cc)
  failed (Err f) e is ok = absurd (cc)

  -- what holds anyway holds of an error
  pub on-err : {P : Type 0} (r : Result A E) → P → OnErr r P
  on-err (Ok x) p = tt
  on-err (Err e) p = p

  -- what a fact of a success tells, and one of an error
  pub from_ok : {P Q : Type 0} (r : Result A E) → (P → Q) → OnOk r P → OnOk r Q
  from_ok (Ok x) f p = f p
  from_ok (Err e) f p = tt

  pub from_err : {P Q : Type 0} (r : Result A E) → (P → Q) → OnErr r P → OnErr r Q
  from_err (Ok x) f p = tt
  from_err (Err e) f p = f p

  -- what a fact of an answer tells
  pub map_ok : (r : Result A E) (P Q : A → Type 0) → IfOk r P → ((x : A) → P x → Q x) → IfOk r Q
  map_ok (Ok x) P Q p f = f x p
  map_ok (Err e) P Q p f = tt

  -- what two facts of an answer tell
  pub both_ok : (r : Result A E) (P Q R : A → Type 0) → IfOk r P → IfOk r Q → ((x : A) → P x → Q x → R x) → IfOk r R
  both_ok (Ok x) P Q R p q f = f x p q
  both_ok (Err e) P Q R p q f = tt

  -- what holds either way
  pub either_way : (r : Result A E) (P Q : A → Type 0) (R S : Type 0) → IfOk r P → IfOk r Q → OnErr r R → ((x : A) → P x → Q x → S) → (R → S) → S
  either_way (Ok x) P Q R S p q e f h = f x p q
  either_way (Err err) P Q R S p q e f h = h e
