-- Lemmas on ascending lists of items with keys.
use Rattle.std.proofs.Common.{ℕ, ◌<◌, List, [], ◌∷◌, ◌++◌, sym, subst}
use Rattle.std.specs.List.{AllByRecursion}
use Rattle.art_bytes.proofs.Common.{BeginsWith, IsBefore, before_at, before_trans, begins_step}
use Rattle.art_arena.proofs.Terms.{AscendsByKey, AreInOrder}

-- all of a list

pub all_append : {X : Type 0} (P : X → Type 0) (xs ys : List X) → AllByRecursion P xs → AllByRecursion P ys → AllByRecursion P (xs ++ ys)
all_append P [] ys h k = k
all_append P (x ∷ xs) ys h k = (h.0, all_append P xs ys h.1 k)

pub all_left : {X : Type 0} (P : X → Type 0) (xs ys : List X) → AllByRecursion P (xs ++ ys) → AllByRecursion P xs
all_left P [] ys h = tt
all_left P (x ∷ xs) ys h = (h.0, all_left P xs ys h.1)

pub all_right : {X : Type 0} (P : X → Type 0) (xs ys : List X) → AllByRecursion P (xs ++ ys) → AllByRecursion P ys
all_right P [] ys h = h
all_right P (x ∷ xs) ys h = all_right P xs ys h.1

pub all_weaker : {X : Type 0} (P Q : X → Type 0) → ((x : X) → P x → Q x) → (xs : List X) → AllByRecursion P xs → AllByRecursion Q xs
all_weaker P Q f [] h = tt
all_weaker P Q f (x ∷ xs) h = (f x h.0, all_weaker P Q f xs h.1)

module _ {X : Type 0} (key : X → List ℕ) where
  -- each of xs is before each of ys
  pub ascending_append : (xs ys : List X) → AscendsByKey key xs → AscendsByKey key ys
      → AllByRecursion (λ x. AllByRecursion (λ y. IsBefore (key x) (key y)) ys) xs → AscendsByKey key (xs ++ ys)
  ascending_append [] ys h k _ = k
  ascending_append (x ∷ xs) ys h k apart = (all_append (λ y. IsBefore (key x) (key y)) xs ys h.0 apart.0, ascending_append xs ys h.1 k apart.1)

  pub all_before_at : (q : List ℕ) (a b : ℕ) → a < b → (x : X) (ys : List X) → BeginsWith (q ++ a ∷ []) (key x) → AllByRecursion (λ y. BeginsWith (q ++ b ∷ []) (key y)) ys
      → AllByRecursion (λ y. IsBefore (key x) (key y)) ys
  all_before_at q a b less x [] h k = tt
  all_before_at q a b less x (y ∷ ys) h k =
      let s = begins_step q a (key x) h in
      let t = begins_step q b (key y) k.0 in (
        subst (λ m. IsBefore m (key y)) (sym s.1) (subst (λ m. IsBefore (q ++ a ∷ s.0) m) (sym t.1) (before_at q a b s.0 t.0 less)),
        all_before_at q a b less x ys h k.1,
      )

  -- it is enough that neighbours are in order

  pub to_order : (xs : List X) → AscendsByKey key xs → AreInOrder key xs
  to_order [] h = tt
  to_order (x ∷ []) h = tt
  to_order (x ∷ y ∷ ys) h = (h.0.0, to_order (y ∷ ys) h.1)

  pub from_order : (xs : List X) → AreInOrder key xs → AscendsByKey key xs
  from_order [] h = tt
  from_order (x ∷ []) h = (tt, tt)
  from_order (x ∷ y ∷ ys) h =
      let rest = from_order (y ∷ ys) h.1 in
      ((h.0, all_weaker (λ z. IsBefore (key y) (key z)) (λ z. IsBefore (key x) (key z)) (λ z l. before_trans (key x) (key y) (key z) h.0 l) ys rest.0), rest)
