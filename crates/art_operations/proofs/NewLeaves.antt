-- A new leaf goes between two lists of leaves.
use Rattle.std.proofs.Common.{◌≡◌, ℕ, Bool, true, false, List, [], ◌∷◌, ◌++◌, Option, Some, None, IsSome, refl, sym, subst, ◌∙◌, append_assoc}
use Rattle.art_arena.proofs.Common.{Links, first_slot, last_slot, IsBeside, LeafAt, ends_with-first, last_slot-append, AreLinked-same}
use Rattle.art_operations.specs.declared.insert.into_existing.Neighbours.{Neighbours}
use Rattle.art_operations.specs.declared.insert.into_existing.Neighbours.TheVariants.{One, Both}
use Rattle.art_operations.proofs.Terms.{IsBetween, IsEnd, AreNeighbours}

module _ {K V : Type 0} where
  -- a leaf alone is the first and the last
  pub end_of_one : (is_first : Bool) (l : LeafAt K V) → IsEnd is_first l.slot (l ∷ [])
  end_of_one true l = refl
  end_of_one false l = refl

  -- the list after the place begins with the leaf before which the new one goes
  pub record GoesBefore (slot : ℕ) (ys : List (LeafAt K V)) : Type 0 where
    pub first : LeafAt K V
    pub more : List (LeafAt K V)
    pub is : ys ≡ first ∷ more
    pub named : first.slot ≡ slot

  pub goes_before : (is_before : Bool) (slot : ℕ) (xs ys : List (LeafAt K V)) → is_before ≡ true → IsBetween is_before slot xs ys → GoesBefore slot ys
  goes_before is_before slot xs [] is between = absurd (let e = subst (λ b. IsBetween {K = K} {V = V} b slot xs []) is between in cc)
  goes_before is_before slot xs (y ∷ ys) is between = record { first = y; more = ys; is = refl; named = (let e = subst (λ b. IsBetween b slot xs (y ∷ ys)) is between in cc) }

  -- the list before the place ends with the leaf after which the new one goes
  pub record GoesAfter (slot : ℕ) (xs : List (LeafAt K V)) : Type 0 where
    pub more : List (LeafAt K V)
    pub last : LeafAt K V
    pub is : xs ≡ more ++ last ∷ []
    pub named : last.slot ≡ slot

  pub goes_after : (is_before : Bool) (slot : ℕ) (xs ys : List (LeafAt K V)) → is_before ≡ false → IsBetween is_before slot xs ys → GoesAfter slot xs
  goes_after is_before slot xs ys is between =
      let e = ends_with-first xs slot (subst (λ b. IsBetween b slot xs ys) is between) in
      record { more = e.0; last = e.1; is = e.2; named = e.3 }

  -- what is beside the place between two lists is so between longer ones with the same ends there
  pub neighbours_of_longer : (n : Neighbours) (before following xs ys : List (LeafAt K V)) → ((p : ℕ) → last_slot None before ≡ Some p → last_slot None xs ≡ Some p)
      → ((p : ℕ) → first_slot following None ≡ Some p → first_slot ys None ≡ Some p) → AreNeighbours n before following → AreNeighbours n xs ys
  neighbours_of_longer (One leaf) before following xs ys last first is = one leaf.is_before is
    where
      one : (is_before : Bool) → IsBetween is_before leaf.leaf before following → IsBetween is_before leaf.leaf xs ys
      one true e = first _ e
      one false e = last _ e
  neighbours_of_longer (Both previous next) before following xs ys last first is = (last _ is.0, first _ is.1)

  pub after_last : (zs : List (LeafAt K V)) (z : LeafAt K V) (ys : List (LeafAt K V)) → (zs ++ z ∷ []) ++ ys ≡ zs ++ z ∷ ys
  after_last zs z ys = append_assoc zs (z ∷ []) ys

  -- links that answer alike have the same list beside the same leaf
  pub beside-same : (old new : ℕ → Option Links) (ls : List (LeafAt K V)) (leaf : ℕ) → ((n : ℕ) → new n ≡ old n) → IsBeside old ls leaf → IsBeside new ls leaf
  beside-same old new ls leaf same beside = record {
    list = record { linked = AreLinked-same old new same None ls None beside.list.linked; once = beside.list.once };
    apart = beside.apart;
    held = subst IsSome (sym (same leaf)) beside.held;
  }

  -- the end of a list is that of a longer one
  pub first_of_longer : (xs ys : List (LeafAt K V)) (slot : ℕ) → first_slot xs None ≡ Some slot → first_slot (xs ++ ys) None ≡ Some slot
  first_of_longer [] ys slot e = absurd (cc)
  first_of_longer (x ∷ xs) ys slot e = e

  last_from : (before : Option ℕ) (xs : List (LeafAt K V)) (slot : ℕ) → last_slot None xs ≡ Some slot → last_slot before xs ≡ Some slot
  last_from before [] slot e = absurd (cc)
  last_from before (x ∷ xs) slot e = e

  pub last_of_longer : (xs ys : List (LeafAt K V)) (slot : ℕ) → last_slot None ys ≡ Some slot → last_slot None (xs ++ ys) ≡ Some slot
  last_of_longer xs ys slot e = last_slot-append None xs ys ∙ last_from (last_slot None xs) ys slot e
