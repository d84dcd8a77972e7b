-- Keys that overlap, and an ascending list in which an item takes the place of those whose keys overlap its key.
use Rattle.std.proofs.Common.{◌≡◌, ℕ, not, true, false, List, [], ◌∷◌, ◌++◌, refl, sym, ap, ap₂, ◌∙◌, inl, inr, append-nil}
use Rattle.std.specs.List.{AllByRecursion}
use Rattle.std.proofs.lemmas.Bool.{or_left, or_right}
use Rattle.std.proofs.lemmas.List.Elements.{filter-append}
use Rattle.art_bytes.proofs.Common.{Conflict, IsBefore, front_not_before, front_not_after}
use Rattle.art_arena.proofs.Common.{put_in_order, AscendsByKey, begins_with, put_is, all_weaker, begins_same}
use Rattle.art_arena.proofs.tree.Parts.{begins_not}
use Rattle.art_operations.proofs.Terms.{overlaps, overlapping, without_overlapping}
use Rattle.art_operations.proofs.KeyedLists.{all-pass, before, following, none-pass}

-- a key overlaps itself, and each key with which it is in conflict
pub overlaps_same : (k l : List ℕ) → l ≡ k → overlaps k l ≡ true
overlaps_same k l e = or_left (begins_with k l) (begins_with l k) (begins_same k l ([], e ∙ sym (append-nil k)))

pub overlaps_conflict : (k l : List ℕ) → Conflict k l → overlaps k l ≡ true
overlaps_conflict k l (n, inl h) = or_left (begins_with k l) (begins_with l k) (begins_same k l h)
overlaps_conflict k l (n, inr h) = or_right (begins_with k l) (begins_with l k) (begins_same l k h)

-- keys of which one comes before the other don't overlap
pub before_no_overlap : (k l : List ℕ) → IsBefore k l → overlaps k l ≡ false
before_no_overlap k l less = rw (begins_not k l (λ h. front_not_before k l h less), begins_not l k (λ h. front_not_after l k h less)) refl

pub after_no_overlap : (k l : List ℕ) → IsBefore l k → overlaps k l ≡ false
after_no_overlap k l less = rw (begins_not k l (λ h. front_not_after k l h less), begins_not l k (λ h. front_not_before l k h less)) refl

module _ {X : Type 0} (key : X → List ℕ) (k : List ℕ) where
  -- the keys of all of these overlap the key, or of none
  abbrev AllOverlap : List X → Type 0
  AllOverlap xs = AllByRecursion (λ x. overlaps k (key x) ≡ true) xs

  abbrev NoneOverlaps : List X → Type 0
  NoneOverlaps xs = AllByRecursion (λ x. overlaps k (key x) ≡ false) xs

  module _ (front block back : List X) (left : NoneOverlaps front) (here : AllOverlap block) (right : NoneOverlaps back) where
    block_kept : overlapping key k (front ++ (block ++ back)) ≡ block
    block_kept =
        filter-append (λ x. overlaps k (key x)) front (block ++ back)
        ∙ ap₂ (λ xs ys. xs ++ ys) (none-pass (λ x. overlaps k (key x)) front left) (filter-append (λ x. overlaps k (key x)) block back ∙ ap₂ (λ xs ys. xs ++ ys) (all-pass (λ x. overlaps k (key x)) block here) (none-pass (λ x. overlaps k (key x)) back right) ∙ append-nil block)

    block_gone : without_overlapping key k (front ++ (block ++ back)) ≡ front ++ back
    block_gone =
        filter-append (λ x. not (overlaps k (key x))) front (block ++ back)
        ∙ ap₂ (λ xs ys. xs ++ ys) (stays front left) (filter-append (λ x. not (overlaps k (key x))) block back ∙ ap₂ (λ xs ys. xs ++ ys) (none-pass (λ x. not (overlaps k (key x))) block (all_weaker _ _ (λ x e. ap not e) block here)) (stays back right))
      where
        stays : (xs : List X) → NoneOverlaps xs → without_overlapping key k xs ≡ xs
        stays xs none = all-pass (λ x. not (overlaps k (key x))) xs (all_weaker _ _ (λ x e. ap not e) xs none)

module _ {X : Type 0} (key : X → List ℕ) (x : X) where
  -- new is old with x in the place of those whose keys overlap its key, which were these
  pub record IsPutOver (old new gone : List X) : Type 0 where
    pub new_is : new ≡ put_in_order key x (without_overlapping key (key x) old)
    pub were : gone ≡ overlapping key (key x) old

  pub insert_over : (front block back : List X) → AscendsByKey key (front ++ x ∷ back) → AllOverlap key (key x) block → IsPutOver (front ++ (block ++ back)) (front ++ x ∷ back) block
  insert_over front block back h all =
      let left = all_weaker _ (λ y. overlaps (key x) (key y) ≡ false) (λ y b. after_no_overlap (key x) (key y) b) front (before key x front back h) in
      let right = all_weaker _ (λ y. overlaps (key x) (key y) ≡ false) (λ y b. before_no_overlap (key x) (key y) b) back (following key x front back h) in
      record {
        new_is = sym (put_is key x front back h) ∙ ap (put_in_order key x) (sym (block_gone key (key x) front block back left all right));
        were = sym (block_kept key (key x) front block back left all right);
      }
