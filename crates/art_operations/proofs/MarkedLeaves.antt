-- Leaves whose keys are some bytes of a query and a mark: below which branch they stand, and which of them was met.
use Rattle.std.proofs.Common.{◌≡◌, ℕ, ◌+◌, ◌≤◌, Bool, true, false, List, [], ◌∷◌, ◌++◌, Some, None, refl, sym, ap, subst, ◌∙◌, inl, inr, arith, bytes_eq}
use Rattle.std.proofs.lemmas.Bool.Decides.{eqb_tells}
use Rattle.std.proofs.lemmas.Slice.Eq.{bytes_eq-Decides}
use Rattle.art_bytes.proofs.Common.{BeginsWith}
use Rattle.art_nodes.proofs.Common.{child_at}
use Rattle.art_arena.proofs.Common.{IsIn, Shape, Branches, leaf_at, inner_at, no_branch, branch, LeafAt, children_at, join, leaves, leaves_in, IsUnder, AreUnder, leaf_where, all_at, in_cases, in_left, in_right, one_byte, begins_trans, same_key, other_key, leaves-begin, leaves_in-join}
use Rattle.art_arena.proofs.shapes.Places.{around}

module _ {K V : Type 0} (bytes : K → List ℕ) where
  -- below which branch a leaf stands

  pub some-byte : (path : List ℕ) (low : ℕ) (kids : Branches K V) → AreUnder bytes path low kids → (l : LeafAt K V) → IsIn l (leaves_in kids) → (b : ℕ) × (low ≤ b) × BeginsWith (path ++ b ∷ []) (bytes l.key)
  some-byte path low no_branch under l i = absurd i
  some-byte path low (branch c s rest) under l i = elim (in_cases l (leaves s) (leaves_in rest) i) [
    | inl here ↦ (c, under.0, all_at (λ m. BeginsWith (path ++ c ∷ []) (bytes m.key)) l (leaves s) (leaves-begin bytes (path ++ c ∷ []) s under.1) here)
    | inr later ↦ let more = some-byte path (c + 1) rest under.2 l later in (more.0, omega (arith, more.1, under.0), more.2)
  ]

  -- none stands below branches of greater bytes
  pub not-later : (path : List ℕ) (low : ℕ) (kids : Branches K V) → AreUnder bytes path low kids → (l : LeafAt K V) → IsIn l (leaves_in kids) → (b : ℕ) → BeginsWith (path ++ b ∷ []) (bytes l.key) → low ≤ b
  not-later path low kids under l i b begins =
      let found = some-byte path low kids under l i in
      omega (arith, found.1, one_byte path found.0 b (bytes l.key) found.2 begins)

  pub below-branch : (path : List ℕ) (c : ℕ) (s : Shape K V) → IsUnder bytes (path ++ c ∷ []) s → (l : LeafAt K V) → IsIn l (leaves s) → BeginsWith (path ++ c ∷ []) (bytes l.key)
  below-branch path c s under l i = all_at (λ m. BeginsWith (path ++ c ∷ []) (bytes m.key)) l (leaves s) (leaves-begin bytes (path ++ c ∷ []) s under) i

  pub in-this : (path : List ℕ) (low : ℕ) (before : Branches K V) (b : ℕ) (t : Shape K V) (after : Branches K V) → AreUnder bytes path low (join before (branch b t after)) → (l : LeafAt K V)
      → IsIn l (leaves_in (join before (branch b t after))) → BeginsWith (path ++ b ∷ []) (bytes l.key) → IsIn l (leaves t)
  in-this path low no_branch b t after under l i begins = elim (in_cases l (leaves t) (leaves_in after) i) [
    | inl here ↦ here
    | inr later ↦ absurd (let low = not-later path (b + 1) after under.2 l later b begins in omega (arith, low))
  ]
  in-this path low (branch c u before) b t after under l i begins = elim (in_cases l (leaves u) (leaves_in (join before (branch b t after))) i) [
    | inl here ↦ absurd (
        let same = one_byte path c b (bytes l.key) (below-branch path c u under.1 l here) begins in
        let low = (around bytes path (c + 1) before b t after under.2).above_low in
        omega (arith, same, low))
    | inr later ↦ in-this path (c + 1) before b t after under.2 l later begins
  ]

  pub in-whole : (before : Branches K V) (b : ℕ) (t : Shape K V) (after : Branches K V) (l : LeafAt K V) → IsIn l (leaves t) → IsIn l (leaves_in (join before (branch b t after)))
  in-whole before b t after l i = subst (IsIn l) (sym (leaves_in-join before (branch b t after))) (in_right l (leaves_in before) (leaves t ++ leaves_in after) (in_left l (leaves t) (leaves_in after) i))

  pub in-none : (path : List ℕ) (low : ℕ) (kids : Branches K V) → AreUnder bytes path low kids → (b : ℕ) → child_at (children_at kids) b ≡ None → (l : LeafAt K V) → IsIn l (leaves_in kids) → BeginsWith (path ++ b ∷ []) (bytes l.key) → ⊥
  in-none path low no_branch under b none l i begins = i
  in-none path low (branch c s rest) under b none l i begins = elim (eqb_tells c b) [
    | inl same ↦ absurd (let e = rw same.0 at none in cc)
    | inr differs ↦ elim (in_cases l (leaves s) (leaves_in rest) i) [
      | inl here ↦ differs.1 (one_byte path c b (bytes l.key) (below-branch path c s under.1 l here) begins)
      | inr later ↦ in-none path (c + 1) rest under.2 b (rw differs.0 at none) l later begins
    ]
  ]

  -- no leaf's key begins another's
  mutual
    pub apart : (path : List ℕ) (s : Shape K V) → IsUnder bytes path s → (l m : LeafAt K V) → IsIn l (leaves s) → IsIn m (leaves s) → BeginsWith (bytes l.key) (bytes m.key) → l ≡ m
    apart path (leaf_at slot k v) under l m (inl e) (inl f) begins = sym e ∙ f
    apart path (leaf_at slot k v) under l m (inr i) j begins = absurd i
    apart path (leaf_at slot k v) under l m (inl e) (inr j) begins = absurd j
    apart path (inner_at n prefix kids) under l m i j begins = apart-in (path ++ prefix) 0 kids under.1 l m i j begins

    apart-in : (path : List ℕ) (low : ℕ) (kids : Branches K V) → AreUnder bytes path low kids → (l m : LeafAt K V) → IsIn l (leaves_in kids) → IsIn m (leaves_in kids) → BeginsWith (bytes l.key) (bytes m.key) → l ≡ m
    apart-in path low no_branch under l m i j begins = absurd i
    apart-in path low (branch c s rest) under l m i j begins = elim (in_cases l (leaves s) (leaves_in rest) i) [
      | inl here ↦ elim (in_cases m (leaves s) (leaves_in rest) j) [
        | inl there ↦ apart (path ++ c ∷ []) s under.1 l m here there begins
        | inr there ↦ absurd (
            let low = not-later path (c + 1) rest under.2 m there c (begins_trans (path ++ c ∷ []) (bytes l.key) (bytes m.key) (below-branch path c s under.1 l here) begins) in
            omega (arith, low))
      ]
      | inr here ↦ elim (in_cases m (leaves s) (leaves_in rest) j) [
        | inl there ↦ absurd (
            let found = some-byte path (c + 1) rest under.2 l here in
            let same = one_byte path c found.0 (bytes m.key) (below-branch path c s under.1 m there) (begins_trans (path ++ found.0 ∷ []) (bytes l.key) (bytes m.key) found.2 begins) in
            omega (arith, found.1, same))
        | inr there ↦ apart-in path (c + 1) rest under.2 l m here there begins
      ]
    ]

  -- the first leaf with a key, where there is one
  pub found-at : (ls : List (LeafAt K V)) (key : List ℕ) (l : LeafAt K V) → IsIn l ls → bytes l.key ≡ key → ((m : LeafAt K V) → IsIn m ls → bytes m.key ≡ key → m ≡ l) → leaf_where bytes (λ k. bytes_eq k key) ls ≡ Some l.slot
  found-at [] key l i is only = absurd i
  found-at (x ∷ ls) key l i is only = here (bytes_eq (bytes x.key) key) refl (λ j. found-at ls key l j is (λ m k e. only m (inr k) e))
    where
      later : bytes_eq (bytes x.key) key ≡ false → IsIn l (x ∷ ls) → IsIn l ls
      later t (inl e) = absurd (let u = sym (same_key (bytes x.key) key (ap (λ (m : LeafAt K V). bytes m.key) e ∙ is)) ∙ t in cc)
      later t (inr j) = j

      here : (b : Bool) → bytes_eq (bytes x.key) key ≡ b → (IsIn l ls → leaf_where bytes (λ k. bytes_eq k key) ls ≡ Some l.slot) → leaf_where bytes (λ k. bytes_eq k key) (x ∷ ls) ≡ Some l.slot
      here true t rest = rw t (ap (λ (m : LeafAt K V). Some m.slot) (only x (inl refl) ((bytes_eq-Decides (bytes x.key) key).0 t)))
      here false t rest = rw t (rest (later t i))

  pub found-nowhere : (ls : List (LeafAt K V)) (key : List ℕ) → ((m : LeafAt K V) → IsIn m ls → bytes m.key ≡ key → ⊥) → leaf_where bytes (λ k. bytes_eq k key) ls ≡ None
  found-nowhere [] key none = refl
  found-nowhere (x ∷ ls) key none = rw (other_key (bytes x.key) key (none x (inl refl))) (found-nowhere ls key (λ m i e. none m (inr i) e))
