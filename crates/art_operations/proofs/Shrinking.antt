-- A leaf whose loss changes the kind of the node above it, by the keys alone.
use Rattle.std.proofs.Common.{◌≡◌, ℕ, suc, ◌+◌, List, [], ◌∷◌, ◌++◌, length, drop, refl, sym, ap, ap₂, subst, ◌∙◌, inl, inr, arith, append_assoc, drop_at}
use Rattle.std.proofs.lemmas.Bool.Decides.{eqb_tells}
use Rattle.art_bytes.proofs.Common.{BeginsWith}
use Rattle.art_arena.proofs.Common.{IsIn, Frame, fill, plug, path_to, leaves_before, leaves_after, AreBelow, AreAround, width_of, ChangesKind, Shape, Branches, leaf_at, no_branch, branch, LeafAt, join, leaves, width, erase, erase_in, key_of, IsUnder, Shrinks, items, count, IsCanonical}
use Rattle.art_arena.proofs.Common.{leaves-plug, width-join, items-erase, count-erase, canonical-erase, widths, in_right, in_map}
use Rattle.art_arena.proofs.tree.Delete.{last_count, last_in}
use Rattle.art_arena.proofs.tree.Shrinks.{TreeMeets, tree_meets, shrinks_is_kind_change}
use Rattle.art_operations.proofs.Terms.{LosesKind}
use Rattle.art_operations.proofs.LeafPairs.{shrinks-unmap}

-- down to the node above a place

module _ {K V : Type 0} where
  into_branch : (n b : ℕ) (f : Branches K V) (s : Shape K V) (g : Branches K V) (r : List ℕ) → AreBelow b f → last_in n (erase_in (join f (branch b s g))) (b ∷ r) ≡ last_count n (erase s) r
  into_branch n b no_branch s g r below = elim (eqb_tells b b) [ inl y ↦ rw y.0 refl | inr o ↦ absurd (o.1 refl) ]
  into_branch n b (branch c t f) s g r below = elim (eqb_tells b c) [
    | inl same ↦ absurd (omega (arith, same.1, below.0))
    | inr other ↦ rw other.0 (into_branch n b f s g r below.1)
  ]

  into_fill : (n : ℕ) (f : Frame K V) (s : Shape K V) (r : List ℕ) → AreBelow f.byte f.before → last_count n (erase (fill f s)) ((f.prefix ++ f.byte ∷ []) ++ r) ≡ last_count (suc (width f.before + width f.after)) (erase s) r
  into_fill n f s r below =
      let kids = join f.before (branch f.byte s f.after) in
      let rest : drop (length f.prefix) ((f.prefix ++ f.byte ∷ []) ++ r) ≡ f.byte ∷ r = ap (drop (length f.prefix)) (append_assoc f.prefix (f.byte ∷ []) r) ∙ drop_at f.prefix (f.byte ∷ r) (length f.prefix) refl in
      let wide : count (erase_in kids) ≡ suc (width f.before + width f.after) = omega (arith, count-erase kids, width-join f.before (branch f.byte s f.after)) in
      ap₂ (λ m l. last_in m (erase_in kids) l) wide rest ∙ into_branch _ f.byte f.before s f.after r below

  into_place : (bytes : K → List ℕ) (n : ℕ) (f : Frame K V) (outer : List (Frame K V)) (s : Shape K V) (r : List ℕ) → AreAround bytes (f ∷ outer)
      → last_count n (erase (plug (f ∷ outer) s)) (path_to (f ∷ outer) ++ r) ≡ last_count (suc (width f.before + width f.after)) (erase s) r
  into_place bytes n f [] s r around = into_fill n f s r around.2
  into_place bytes n f (g ∷ above) s r around =
      let way : path_to (f ∷ g ∷ above) ++ r ≡ path_to (g ∷ above) ++ ((f.prefix ++ f.byte ∷ []) ++ r) = simp append_assoc in
      ap (last_count n (erase (plug (f ∷ g ∷ above) s))) way
      ∙ into_place bytes n g above (fill f s) ((f.prefix ++ f.byte ∷ []) ++ r) around.4
      ∙ into_fill (suc (width g.before + width g.after)) f s r around.2

module _ {K V : Type 0} (bytes : K → List ℕ) where
  -- the node above a key's leaf has as many children as bytes follow the longest front that the key shares
  shrinks_at : (s : Shape K V) → IsUnder bytes [] s → (k : K × V) → IsIn k (items (erase s)) → (n : ℕ) → ((m : ℕ) → last_count m (erase s) (key_of bytes k) ≡ suc n) → ChangesKind (suc n) → Shrinks (key_of bytes) (items (erase s)) (key_of bytes k)
  shrinks_at s under k stored n counted changes = go (tree_meets (key_of bytes) (key_of bytes k) [] (erase s) canonical (key_of bytes k) refl (k, stored, refl))
    where
      canonical : IsCanonical (key_of bytes) [] (erase s)
      canonical = canonical-erase bytes [] s under

      go : TreeMeets (key_of bytes) (key_of bytes k) [] (erase s) (key_of bytes k) → Shrinks (key_of bytes) (items (erase s)) (key_of bytes k)
      go (inl alone) = absurd (omega (arith, counted 0, alone.0 0))
      go (inr (m, meeting, longer, width)) =
          let wide : width_of (key_of bytes) (items (erase s)) m ≡ suc n =
          width (width_of (key_of bytes) (items (erase s))) 0 (widths (key_of bytes) (items (erase s)) [] (erase s) canonical (λ front i. refl)) ∙ counted 0 in
          (shrinks_is_kind_change (K × V) (key_of bytes) (items (erase s)) (key_of bytes k) m meeting).1 (subst ChangesKind (sym wide) changes)

module _ {K V : Type 0} (bytes : K → List ℕ) (s : Shape K V) (under : IsUnder bytes [] s) (slot : ℕ) (key : K) (value : V) where
  -- a leaf without which the node above it changes its kind shrinks that node
  pub shrinks_below : (ctx : List (Frame K V)) → s ≡ plug ctx (leaf_at slot key value) → AreAround bytes ctx → BeginsWith (path_to ctx) (bytes key) → LosesKind ctx → Shrinks (λ l. bytes l.key) (leaves s) (bytes key)
  shrinks_below [] is around begins loses = absurd loses
  shrinks_below (f ∷ outer) is around begins loses =
      let counted = λ (m : ℕ). ap₂ (λ t k. last_count m (erase t) k) is begins.1 ∙ into_place bytes m f outer (leaf_at slot key value) begins.0 around in
      let leaf : LeafAt K V = record { slot = slot; key = key; value = value } in
      let there : IsIn leaf (leaves s) = subst (IsIn leaf) (sym (ap leaves is ∙ leaves-plug (f ∷ outer) (leaf_at slot key value))) (in_right leaf (leaves_before (f ∷ outer)) (leaf ∷ leaves_after (f ∷ outer)) (inl refl)) in
      let stored : IsIn (key, value) (items (erase s)) = subst (IsIn (key, value)) (sym (items-erase s)) (in_map (λ l. (l.key, l.value)) leaf (leaves s) there) in
      shrinks-unmap (λ l. (l.key, l.value)) (key_of bytes) (leaves s) (bytes key)
      (subst (λ xs. Shrinks (key_of bytes) xs (bytes key)) (items-erase s) (shrinks_at bytes s under (key, value) stored _ counted loses))
