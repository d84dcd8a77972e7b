-- The items whose keys begin with a prefix, and the others; the part of a tree that has the former.
use Rattle.std.proofs.Common.{◌≡◌, ℕ, not, List, [], ◌++◌, sym, ap, ap₂, subst, ◌∙◌}
use Rattle.std.specs.List.{AllByRecursion}
use Rattle.std.proofs.lemmas.List.Elements.{filter-append}
use Rattle.art_bytes.proofs.Common.{BeginsWith}
use Rattle.art_arena.proofs.Common.{Frame, path_to, leaves_before, leaves_after, IsPlace, Shape, LeafAt, leaves, begins_with, with_front, without_front, begins_true, begins_same, all_weaker, leaves-plug, ctx-after, ctx-before}
use Rattle.art_operations.proofs.Terms.{leaves_with, leaves_without}
use Rattle.art_operations.proofs.Segments.{before_none, after_none, begin_in}
use Rattle.art_operations.proofs.KeyedLists.{all-but-none, none-pass, passes}

module _ {X : Type 0} (key : X → List ℕ) (front : List ℕ) where
  -- each of the former begins with it, and none of the others
  pub with-begin : (xs : List X) → AllByRecursion (λ x. BeginsWith front (key x)) (with_front key front xs)
  with-begin xs = all_weaker _ _ (λ x t. begins_true front (key x) t) _ (passes (λ x. begins_with front (key x)) xs)

  pub without-begin : (xs : List X) → AllByRecursion (λ x. BeginsWith front (key x) → ⊥) (without_front key front xs)
  without-begin xs = all_weaker _ _ (λ x t b. let e = rw (begins_same front (key x) b) at t in absurd (cc)) _ (passes (λ x. not (begins_with front (key x))) xs)

  -- where all begin with it there are no others
  pub without-none : (xs : List X) → with_front key front xs ≡ xs → without_front key front xs ≡ []
  without-none xs all =
      none-pass (λ x. not (begins_with front (key x))) xs (all_weaker _ _ (λ x b. ap not (begins_same front (key x) b)) xs (subst (AllByRecursion (λ x. BeginsWith front (key x))) all (with-begin xs)))

module _ {K V : Type 0} (bytes : K → List ℕ) (front : List ℕ) (whole part : Shape K V) (ctx : List (Frame K V)) (place : IsPlace bytes whole ctx part) (begins : BeginsWith (path_to ctx) front) where
  abbrev slot_key : LeafAt K V → List ℕ
  slot_key l = bytes l.key

  -- a part after a front of the prefix, whose keys begin with the prefix, has all that do
  module _ (all : leaves_with bytes front (leaves part) ≡ leaves part) where
    pub block_is : leaves part ≡ leaves_with bytes front (leaves whole)
    block_is = sym (begin_in bytes front whole part ctx place begins ∙ all)

    -- and around it are the others
    pub others_are : leaves_before ctx ++ leaves_after ctx ≡ leaves_without bytes front (leaves whole)
    others_are =
        let before = all-but-none (λ l. begins_with front (slot_key l)) (leaves_before ctx) (before_none bytes front (leaves_before ctx) (ctx-before bytes front ctx place.around begins)) in
        let after = all-but-none (λ l. begins_with front (slot_key l)) (leaves_after ctx) (after_none bytes front (leaves_after ctx) (ctx-after bytes front ctx place.around begins)) in
        let none = without-none slot_key front (leaves part) all in
        sym (
        ap (λ s. leaves_without bytes front (leaves s)) place.is ∙ ap (leaves_without bytes front) (leaves-plug ctx part)
        ∙ filter-append (λ l. not (begins_with front (bytes l.key))) (leaves_before ctx) (leaves part ++ leaves_after ctx)
        ∙ ap₂ (λ xs ys. xs ++ ys) before (filter-append (λ l. not (begins_with front (bytes l.key))) (leaves part) (leaves_after ctx) ∙ ap₂ (λ xs ys. xs ++ ys) none after))
