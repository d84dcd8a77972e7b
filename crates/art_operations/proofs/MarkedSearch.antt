-- The answer of a search for the longest marked key, by candidates that are met from the deepest on.
use Rattle.std.proofs.Common.{◌≡◌, ℕ, suc, ◌+◌, ◌-◌, ◌<◌, ◌≤◌, Bool, false, eqb, leb, IsTrue, List, [], ◌∷◌, ◌++◌, length, get_or, take, Option, Some, None, IsSome, refl, sym, ap, ap₂, subst, ◌∙◌, inl, inr, arith, append-nil, length-append, length-take-le, take-take, bytes_eq}
use Rattle.std.proofs.lemmas.Bool.Decides.{eqb_tells, leb_tells}
use Rattle.art_nodes.proofs.Common.{Name, agreeing}
use Rattle.art_nodes.specs.declared.leaf.LeafNode.{LeafNode}
use Rattle.art_arena.proofs.Common.{Arena, IsIn, IsSubtree, Shape, LeafAt, leaves, IsUnder, all_at, cell_held, held_at, holds_pair, leaf_held, leaf_name, leaf_where, node_at, pair, leaves_are_held, HoldsPair}
use Rattle.art_operations.proofs.Terms.{marked_key, longest_marked, IsMarkedBy, IsMarked, NoneMarked, IsDeepest}
use Rattle.art_operations.proofs.MarkedKeys.{agree-take, agree-fronts, take-begins, ends-whole, ends-long, ends-mark, marked-ends, longest-none, longest-some}
use Rattle.art_operations.proofs.MarkedLeaves.{apart, found-at, found-nowhere}

agree-short : (k q : List ℕ) → agreeing k q ≤ length q
agree-short [] q = omega arith
agree-short (a ∷ k) [] = omega arith
agree-short (a ∷ k) (b ∷ q) = elim (eqb_tells a b) [
  | inl same ↦ rw same.0 (let w = agree-short k q in omega (arith, w))
  | inr other ↦ rw other.0 (omega arith)
]

-- a key that ends with the mark, and agrees with the query up to it
pub agrees-marked : (n mark : ℕ) (key query : List ℕ) → length key ≡ suc n → get_or key n 0 ≡ mark → n ≤ agreeing key query → IsMarkedBy query mark n key
agrees-marked n mark key query long last agree = (
  (let w = agree-short key query in omega (arith, w, agree)),
  ends-whole n key (sym long) ∙ ap₂ (λ cs c. cs ++ c ∷ []) (agree-take n key query agree) last,
)

pub marked-agrees : (n mark : ℕ) (key query : List ℕ) → IsMarkedBy query mark n key → n ≤ agreeing key query
marked-agrees n mark key query by =
    let w = agree-fronts (take n query) key query (mark ∷ [], by.1) (take-begins n query) in
    omega (arith, w, length-take-le n query by.0)

-- what the test of a key tells
pub marked-test : (empty : Bool) (key query : List ℕ) (mark agreed : ℕ) → empty ≡ eqb (length key) 0 → empty ≡ false → get_or key (length key - 1) 0 ≡ mark → agreed ≡ agreeing key query
    → (IsTrue (leb (length key - 1) agreed) → IsMarked query mark key) × (IsMarked query mark key → IsTrue (leb (length key - 1) agreed))
marked-test empty [] query mark agreed is full last told = absurd (let e = sym full ∙ is in cc)
marked-test empty (a ∷ key) query mark agreed is full last told = elim (leb_tells (length (a ∷ key) - 1) agreed) [
  | inl below ↦ (
    (λ passed. (length (a ∷ key) - 1, agrees-marked (length (a ∷ key) - 1) mark (a ∷ key) query (omega arith) last (omega (arith, below.1, told)))),
    (λ by. below.0),
  )
  | inr above ↦ (
    (λ passed. absurd (let e = sym passed ∙ above.0 in cc)),
    (λ by. absurd (omega (arith, above.1, told, marked-agrees by.0 mark (a ∷ key) query by.1, ends-long by.0 mark (a ∷ key) (marked-ends query mark by.0 (a ∷ key) by.1)))),
  )
]

module _ {K V : Type 0} (bytes : K → List ℕ) (query : List ℕ) (mark : ℕ) (s : Shape K V) where
  -- no marked leaf has more bytes of the query
  abbrev pub AllWithin : ℕ → Type 0
  AllWithin most = (l : LeafAt K V) (n : ℕ) → IsIn l (leaves s) → IsMarkedBy query mark n (bytes l.key) → n ≤ most

  abbrev pub find : List ℕ → Option ℕ
  find key = leaf_where bytes (λ k. bytes_eq k key) (leaves s)

  pub all-within : AllWithin (length query)
  all-within l n i by = by.0

  module _ (under : IsUnder bytes [] s) (most : ℕ) (within : most ≤ length query) (left : AllWithin most) where
    front_long : length (take most query) ≡ most
    front_long = length-take-le most query within

    in_front : (n : ℕ) (key : List ℕ) → n ≤ most → IsMarkedBy query mark n key → IsMarkedBy (take most query) mark n key
    in_front n key w by = (omega (arith, w, front_long), by.1 ∙ ap (λ p. p ++ mark ∷ []) (sym (take-take n most query w)))

    left_front : (l : LeafAt K V) (n : ℕ) → IsIn l (leaves s) → IsMarkedBy query mark n (bytes l.key) → IsMarkedBy (take most query) mark n (bytes l.key)
    left_front l n i by = in_front n (bytes l.key) (left l n i by) by

    pub search-none : NoneMarked bytes (take most query) mark s → None ≡ longest_marked find query mark (length query)
    search-none none = longest-none find query mark (length query) (λ n w. found-nowhere bytes (leaves s) (marked_key query mark n) (λ l i e. none l n i (left_front l n i (w, e))))

    module _ (slot : ℕ) (d : IsDeepest bytes (take most query) mark s slot) where
      -- a longer one would begin with the one that was met
      longer_none : (m : ℕ) → IsMarkedBy (take most query) mark m (bytes d.leaf.key) → (n : ℕ) → m < n → (l : LeafAt K V) → IsIn l (leaves s) → IsMarkedBy (take most query) mark n (bytes l.key) → ⊥
      longer_none m by n more l i other =
          let b = d.begins l n i other in
          let size = length-take-le n (take most query) other.0 in
          let long = ends-long m mark (bytes d.leaf.key) (marked-ends (take most query) mark m (bytes d.leaf.key) by) in
          let long_other = ends-long n mark (bytes l.key) (marked-ends (take most query) mark n (bytes l.key) other) in
          let parts = ap length b.1 ∙ length-append (take n (take most query)) b.0 in
          let whole : bytes d.leaf.key ≡ take n (take most query) = b.1 ∙ ap (λ r. take n (take most query) ++ r) (no-rest b.0 (omega (arith, parts, long, size, more))) ∙ append-nil (take n (take most query)) in
          let same = apart bytes [] s under d.leaf l d.among i (mark ∷ [], other.1 ∙ ap (λ p. p ++ mark ∷ []) (sym whole)) in
          omega (arith, long_other, ap (λ (x : LeafAt K V). length (bytes x.key)) same, ap length whole, size)
        where
          no-rest : (r : List ℕ) → length r ≡ 0 → r ≡ []
          no-rest [] e = refl
          no-rest (x ∷ r) e = absurd (omega (arith, e))

      pub search-found : IsMarked (take most query) mark (bytes d.leaf.key) → Some slot ≡ longest_marked find query mark (length query)
      search-found (m, by) =
          let short : m ≤ most = omega (arith, by.0, front_long) in
          let is : bytes d.leaf.key ≡ marked_key query mark m = by.1 ∙ ap (λ p. p ++ mark ∷ []) (take-take m most query short) in
          longest-some find query mark (length query) m slot (omega (arith, short, within))
          (found-at bytes (leaves s) (marked_key query mark m) d.leaf d.among is
          (λ x j e. apart bytes [] s under x d.leaf j d.among ([], is ∙ sym e ∙ sym (append-nil (bytes x.key)))) ∙ ap Some d.slot_is)
          (λ n more w. found-nowhere bytes (leaves s) (marked_key query mark n) (λ l i e. longer_none m by n more l i (left_front l n i (w, e))))

      module _ (other : IsMarked (take most query) mark (bytes d.leaf.key) → ⊥) where
        -- where it is none, it leaves the query before its mark
        pub search-shorter : agreeing (bytes d.leaf.key) (take most query) < most
        search-shorter = elim (leb_tells d.len (agreeing (bytes d.leaf.key) (take most query))) [
          | inl below ↦ absurd (other (d.len, agrees-marked d.len mark (bytes d.leaf.key) (take most query) (ends-long d.len mark (bytes d.leaf.key) d.ends) (ends-mark d.len mark (bytes d.leaf.key) d.ends) below.1))
          | inr above ↦ omega (arith, above.1, d.short, front_long)
        ]

        pub search-left : AllWithin (agreeing (bytes d.leaf.key) (take most query))
        search-left l n i by =
            let marked_here = left_front l n i by in
            let w = agree-fronts (take n (take most query)) (bytes d.leaf.key) (take most query) (d.begins l n i marked_here) (take-begins n (take most query)) in
            omega (arith, w, length-take-le n (take most query) marked_here.0)

-- the leaf that was met, as the arena has it
module _ {K V : Type 0} (bytes : K → List ℕ) (P : ℕ) (arena : Arena K V) (root : Name) (s : Shape K V) (tree : IsSubtree bytes P (node_at arena) root [] s) (front : List ℕ) (mark slot : ℕ) (d : IsDeepest bytes front mark s slot) where
  leaf_there : node_at arena (leaf_name slot) ≡ Some (pair d.leaf.key d.leaf.value)
  leaf_there = subst (λ n. node_at arena (leaf_name n) ≡ Some (pair d.leaf.key d.leaf.value)) d.slot_is
      (all_at (λ (l : LeafAt K V). node_at arena (leaf_name l.slot) ≡ Some (pair l.key l.value)) d.leaf (leaves s) (leaves_are_held bytes P arena s tree.part.held) d.among)

  pub met-pair : HoldsPair (held_at arena (leaf_name slot)) d.leaf.key d.leaf.value
  met-pair = holds_pair (held_at arena (leaf_name slot)) d.leaf.key d.leaf.value leaf_there

  pub met-there : IsSome (held_at arena (leaf_name slot))
  met-there = cell_held (held_at arena (leaf_name slot)) (pair d.leaf.key d.leaf.value) leaf_there

module _ {K V : Type 0} (bytes : K → List ℕ) (P : ℕ) (arena : Arena K V) (root : Name) (s : Shape K V) (tree : IsSubtree bytes P (node_at arena) root [] s)
    (query : List ℕ) (mark most : ℕ) (within : most ≤ length query) (left : AllWithin bytes query mark s most)
    (front : List ℕ) (is : front ≡ take most query) (slot : ℕ) (d : IsDeepest bytes front mark s slot)
    (read : List ℕ) (told : (leaf : LeafNode K V) → held_at arena (leaf_name slot) ≡ Some (leaf_held leaf) → read ≡ bytes leaf.key) where
  deepest : IsDeepest bytes (take most query) mark s slot
  deepest = subst (λ f. IsDeepest bytes f mark s slot) is d

  same-key : read ≡ bytes deepest.leaf.key
  same-key =
      let held = met-pair bytes P arena root s tree (take most query) mark slot deepest in
      told held.leaf held.is ∙ ap bytes held.key

  as-marked : IsMarked front mark read → IsMarked (take most query) mark (bytes deepest.leaf.key)
  as-marked by = subst (λ f. IsMarked f mark (bytes deepest.leaf.key)) is (subst (IsMarked front mark) same-key by)

  from-marked : IsMarked (take most query) mark (bytes deepest.leaf.key) → IsMarked front mark read
  from-marked by = subst (λ f. IsMarked f mark read) (sym is) (subst (IsMarked (take most query) mark) (sym same-key) by)

  -- it is the answer
  pub met-found : IsMarked front mark read → Some slot ≡ longest_marked (find bytes query mark s) query mark (length query)
  met-found by = search-found bytes query mark s tree.under most within left slot deepest (as-marked by)

  -- or it says how much of the query is left
  module _ (other : IsMarked front mark read → ⊥) (agreed : ℕ) (agreed_is : agreed ≡ agreeing read front) where
    same-agreed : agreeing (bytes deepest.leaf.key) (take most query) ≡ agreed
    same-agreed = sym (agreed_is ∙ ap₂ agreeing same-key is)

    pub met-shorter : agreed < most
    met-shorter = omega (arith, same-agreed, search-shorter bytes query mark s tree.under most within left slot deepest (λ by. other (from-marked by)))

    pub met-left : AllWithin bytes query mark s agreed
    met-left = subst (AllWithin bytes query mark s) same-agreed (search-left bytes query mark s tree.under most within left slot deepest (λ by. other (from-marked by)))
