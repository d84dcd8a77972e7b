-- Of the blocks of an ascending table at most one holds an address.
use Rattle.std.proofs.Common.{◌≡◌, ℕ, Bool, true, false, cond, List, [], ◌∷◌, ◌++◌, Option, Some, None, refl, sym}
use Rattle.std.proofs.Common.{◌∙◌, subst, inl, inr, arith}
use Rattle.std.proofs.lemmas.Bool.{cond-true, cond-false}
use Rattle.std.specs.Global.{Vec}
use Rattle.std.specs.Map.{lookup_entry}
use Rattle.art_bytes.proofs.Common.{BeginsWith, IsBefore}
use Rattle.art_arena.proofs.Common.{IsIn, put_in_order, is_before, AscendsByKey, begins_with, begins_true, begins_false, all_at, key_of}
use Rattle.art_operations.proofs.Common.{IsBlocked}
use Rattle.art_operations.specs.declared.insert.point.InsertPrefixError.{InsertPrefixError}
use Rattle.art_map.specs.declared.map.refused.TryInsertError.{TryInsertError}
use Rattle.art_map.specs.declared.map.refused.TryInsertError.TheVariants.{Prefix}
use Rattle.art_map.proofs.Common.{IsTryRefused}
use Rattle.use_address_blocks.specs.Blocks.{Covers, IsBlockOf}

-- two keys that diverge are not both fronts of one address
two_fronts : (k l a : List ℕ) → IsBefore k l → BeginsWith k a → BeginsWith l a → ⊥
two_fronts [] l a h _ _ = h
two_fronts (x ∷ k) [] a h _ _ = h
two_fronts (x ∷ k) (y ∷ l) a (inl less) (r, e) (s, f) = let same : x ≡ y = cc in omega arith
two_fronts (x ∷ k) (y ∷ l) a (inr h) (r, e) (s, f) =
    let rest : k ++ r ≡ l ++ s = cc in two_fronts k l (k ++ r) h.1 (r, refl) (s, rest)

-- a block's octets
abbrev pub octets : {Owner : Type 0} → Vec ℕ × Owner → List ℕ
octets block = block.0.items

module _ {Owner : Type 0} where
  -- a block that is put in stands there
  is_put_in : (x : Vec ℕ × Owner) (xs : List (Vec ℕ × Owner)) → IsIn x (put_in_order octets x xs)
  is_put_in x [] = inl refl
  is_put_in x (y ∷ ys) = by_place (is_before (octets x) (octets y)) (is_put_in x ys)
    where
      by_place : (b : Bool) → IsIn x (put_in_order octets x ys)
          → IsIn x (cond b (x ∷ y ∷ ys) (y ∷ put_in_order octets x ys))
      by_place true h = inl refl
      by_place false h = inr h

  -- in an ascending table two blocks that hold an address are one
  one_holds : (blocks : List (Vec ℕ × Owner)) → AscendsByKey octets blocks → (a : List ℕ) (x y : Vec ℕ × Owner)
      → IsIn x blocks → IsIn y blocks → Covers x a → Covers y a → x ≡ y
  one_holds [] asc a x y i j h k = absurd i
  one_holds (b ∷ bs) asc a x y (inl e) (inl f) h k = sym e ∙ f
  one_holds (b ∷ bs) asc a x y (inl e) (inr j) h k =
      let less = subst (λ z. IsBefore (octets z) (octets y)) e
      (all_at (λ z. IsBefore (octets b) (octets z)) y bs asc.0 j) in
      absurd (two_fronts (octets x) (octets y) a less h k)
  one_holds (b ∷ bs) asc a x y (inr i) (inl f) h k =
      let less = subst (λ z. IsBefore (octets z) (octets x)) f
      (all_at (λ z. IsBefore (octets b) (octets z)) x bs asc.0 i) in
      absurd (two_fronts (octets y) (octets x) a less k h)
  one_holds (b ∷ bs) asc a x y (inr i) (inr j) h k = one_holds bs asc.1 a x y i j h k

  -- what a look-up of an address finds stands in the table and holds it
  stands : (a : List ℕ) (bs : List (Vec ℕ × Owner)) (found : Vec ℕ × Owner)
      → lookup_entry (λ k. begins_with k.items a) bs ≡ Some found → IsIn found bs × Covers found a
  stands a [] found e = absurd (cc)
  stands a (b ∷ bs) found e = by_test (begins_with (octets b) a) refl (stands a bs found)
    where
      by_test : (t : Bool) → begins_with (octets b) a ≡ t
          → (lookup_entry (λ k. begins_with k.items a) bs ≡ Some found → IsIn found bs × Covers found a)
          → IsIn found (b ∷ bs) × Covers found a
      by_test true at later =
          let same : b ≡ found = (let f : Some b ≡ Some found = sym (cond-true _ _ _ at) ∙ e in cc) in
          (inl same, subst (λ z. Covers z a) same (begins_true _ _ at))
      by_test false at later = let h = later (sym (cond-false _ _ _ at) ∙ e) in (inr h.0, h.1)

  -- where it finds none, none holds it
  none_holds : (a : List ℕ) (bs : List (Vec ℕ × Owner)) → lookup_entry (λ k. begins_with k.items a) bs ≡ None
      → (x : Vec ℕ × Owner) → IsIn x bs → Covers x a → ⊥
  none_holds a [] e x i h = i
  none_holds a (b ∷ bs) e x i h = by_test (begins_with (octets b) a) refl i (λ f j. none_holds a bs f x j h)
    where
      by_test : (t : Bool) → begins_with (octets b) a ≡ t → IsIn x (b ∷ bs)
          → (lookup_entry (λ k. begins_with k.items a) bs ≡ None → IsIn x bs → ⊥) → ⊥
      by_test true at j later = let f : Some b ≡ None = sym (cond-true _ _ _ at) ∙ e in absurd (cc)
      by_test false at (inl same) later = begins_false _ _ at (subst (λ z. Covers z a) (sym same) h)
      by_test false at (inr j) later = later (sym (cond-false _ _ _ at) ∙ e) j

  -- what a look-up of an address finds is its block
  pub found_is_block : (blocks : List (Vec ℕ × Owner)) → AscendsByKey octets blocks → (a : List ℕ)
      → IsBlockOf a blocks (lookup_entry (λ k. begins_with k.items a) blocks)
  found_is_block blocks asc a = told (lookup_entry (λ k. begins_with k.items a) blocks) refl
    where
      told : (r : Option (Vec ℕ × Owner)) → lookup_entry (λ k. begins_with k.items a) blocks ≡ r → IsBlockOf a blocks r
      told None e = none_holds a blocks e
      told (Some found) e =
          let s = stands a blocks found e in (s.0, s.1, λ x i h. one_holds blocks asc a x found i s.0 h s.1)

  -- a block that was put in is its addresses' own
  pub put_is_block : (x : Vec ℕ × Owner) (rest blocks : List (Vec ℕ × Owner)) → blocks ≡ put_in_order octets x rest
      → AscendsByKey octets blocks → (a : List ℕ) → Covers x a → IsBlockOf a blocks (Some x)
  put_is_block x rest blocks e asc a h =
      let there : IsIn x blocks = subst (IsIn x) (sym e) (is_put_in x rest) in
      (there, h, λ y i k. one_holds blocks asc a y x i there k h)

-- what a refusal tells of the blocks
pub blocked_by : {K V : Type 0} (bytes : K → List ℕ) (pairs : List (K × V)) (key : K) (value : V)
    (why : TryInsertError K V) (k : K) (v : V) (told : InsertPrefixError) → why ≡ Prefix k v told
    → IsTryRefused bytes pairs key value why → IsBlocked (key_of bytes) (bytes key) pairs
blocked_by bytes pairs key value why k v told e h =
    let prefix : IsTryRefused bytes pairs key value (Prefix k v told) =
    subst (IsTryRefused bytes pairs key value) e h in
    prefix.3
