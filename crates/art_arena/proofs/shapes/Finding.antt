-- The way of a key: what one step down finds, and where it ends.
use Rattle.std.proofs.Common.{◌≡◌, ◌≢◌, ℕ, suc, ◌+◌, ◌<◌, ◌≤◌, min, Bool, true, false, List, [], ◌∷◌, ◌++◌, length, get_or, drop, filter, map, None, refl, sym, ap, ap₂, subst, ◌∙◌, inl, inr, arith, length-append, append_assoc, add-one, drop-cons, bytes_eq}
use Rattle.std.specs.List.{AllByRecursion}
use Rattle.std.specs.Bool.{Decides}
use Rattle.std.specs.Prelude.{◌==◌, if◌then◌else◌}
use Rattle.std.proofs.lemmas.Bool.{false_from_ne_true}
use Rattle.std.proofs.lemmas.Bool.Decides.{eqb_tells}
use Rattle.std.proofs.lemmas.Slice.Eq.{bytes_eq-Decides}
use Rattle.std.proofs.lemmas.List.{append-nil, map-append}
use Rattle.std.proofs.lemmas.List.Elements.{filter-append}
use Rattle.art_bytes.proofs.Common.{BeginsWith, begins_step}
use Rattle.art_nodes.proofs.Common.{Name, child_at}
use Rattle.art_arena.specs.tree.Trees as tree
use Rattle.art_arena.proofs.Terms.{path_of, path_in, look_up_path, look_up_in, Shape, Branches, leaf_at, inner_at, no_branch, branch, LeafAt, children_at, join, leaves, leaves_in, erase, erase_in, AreUnder, AreBelow, Step, Located, located, located_in, located_with_key, TakesFronts, located_where}
use Rattle.art_arena.proofs.tree.Order.{all_append, all_left, all_right, all_weaker}
use Rattle.art_arena.proofs.tree.Filters.{filter-map}
use Rattle.art_arena.proofs.tree.Fronts.{begins_trans}
use Rattle.art_arena.proofs.shapes.Passing.{byte_following, next_byte}
use Rattle.art_arena.proofs.shapes.Places.{leaves-begin}

-- a key that goes on after the path by one byte is no front of one that goes on by another, or that ends with it
pub other_byte : (path key other : List ℕ) (c b : ℕ) → BeginsWith (path ++ c ∷ []) other → get_or key (length path) 0 ≡ b → c ≢ b → BeginsWith other key → ⊥
other_byte path key other c b h here differs front =
    let s = begins_step path c key (begins_trans (path ++ c ∷ []) other key h front) in
    let read : get_or key (length path) 0 ≡ c = ap (λ k. get_or k (length path) 0) s.1 ∙ byte_following path s.0 c in
    differs (sym read ∙ here)

pub shorter : (path key other : List ℕ) (c : ℕ) → BeginsWith (path ++ c ∷ []) other → length key ≤ length path → BeginsWith other key → ⊥
shorter path key other c h short front =
    let s = begins_step path c key (begins_trans (path ++ c ∷ []) other key h front) in
    let long : length key ≡ length path + suc (length s.0) = ap length s.1 ∙ length-append path (c ∷ s.0) in
    omega arith

not_passed : (r : Bool) {P : Type 0} → Decides r P → (P → ⊥) → r ≡ false
not_passed true d h = absurd (h (d.0 refl))
not_passed false d h = refl

pub same_key : (a b : List ℕ) → a ≡ b → bytes_eq a b ≡ true
same_key a b same = (bytes_eq-Decides a b).1 same

pub other_key : (a b : List ℕ) → a ≢ b → bytes_eq a b ≡ false
other_key a b differs = not_passed (bytes_eq a b) (bytes_eq-Decides a b) differs

-- a test that lets fronts of the key pass alone fails on what is none
not_fitting : (key : List ℕ) (test : List ℕ → Bool) → TakesFronts key test → (k : List ℕ) → (BeginsWith k key → ⊥) → test k ≡ false
not_fitting key test takes k apart = false_from_ne_true (test k) (λ passed. apart (takes k passed))

pub dropped : (n : ℕ) (key : List ℕ) → n < length key → drop n key ≡ get_or key n 0 ∷ drop (n + 1) key
dropped n key l = rw (add-one, drop-cons key n 0) refl

pub counted_more : (start n most : ℕ) → min (min (start + n) most + 1) most ≡ min (start + suc n) most
counted_more start n most = omega arith

module _ {K V : Type 0} (bytes : K → List ℕ) (key : List ℕ) where
  -- no leaf's key is the key or a front of it
  abbrev pub NoneFits : List (LeafAt K V) → Type 0
  NoneFits ls = AllByRecursion (λ l. BeginsWith (bytes l.key) key → ⊥) ls

  -- none of the branches stands under this byte
  abbrev pub Avoid : ℕ → Branches K V → Type 0
  Avoid b no_branch = Unit {0}
  Avoid b (branch c s rest) = (c ≢ b) × Avoid b rest

  pub avoid-below : (b : ℕ) (f : Branches K V) → AreBelow b f → Avoid b f
  avoid-below b no_branch h = tt
  avoid-below b (branch c s rest) h = (omega (arith, h.0), avoid-below b rest h.1)

  pub avoid-above : (path : List ℕ) (b low : ℕ) (f : Branches K V) → b < low → AreUnder bytes path low f → Avoid b f
  avoid-above path b low no_branch l h = tt
  avoid-above path b low (branch c s rest) l h = (omega (arith, h.0), avoid-above path b (c + 1) rest (omega (arith, h.0)) h.2)

  pub avoid-missing : (b : ℕ) (f : Branches K V) → child_at (children_at f) b ≡ None → Avoid b f
  avoid-missing b no_branch missing = tt
  avoid-missing b (branch c s rest) missing = elim (eqb_tells c b) [
    | inl same ↦ absurd (let e = rw same.0 at missing in cc)
    | inr other ↦ (other.1, avoid-missing b rest (rw other.0 at missing))
  ]

  pub none-avoid : (path : List ℕ) (b low : ℕ) (f : Branches K V) → AreUnder bytes path low f → get_or key (length path) 0 ≡ b → Avoid b f → NoneFits (leaves_in f)
  none-avoid path b low no_branch h here avoid = tt
  none-avoid path b low (branch c s rest) h here avoid =
      all_append (λ l. BeginsWith (bytes l.key) key → ⊥) (leaves s) (leaves_in rest)
      (all_weaker _ (λ l. BeginsWith (bytes l.key) key → ⊥) (λ l st. other_byte path key (bytes l.key) c b st here avoid.0) (leaves s) (leaves-begin bytes (path ++ c ∷ []) s h.1))
      (none-avoid path b (c + 1) rest h.2 here avoid.1)

  pub none-short : (path : List ℕ) (low : ℕ) (f : Branches K V) → AreUnder bytes path low f → length key ≤ length path → NoneFits (leaves_in f)
  none-short path low no_branch h short = tt
  none-short path low (branch c s rest) h short =
      all_append (λ l. BeginsWith (bytes l.key) key → ⊥) (leaves s) (leaves_in rest)
      (all_weaker _ (λ l. BeginsWith (bytes l.key) key → ⊥) (λ l st. shorter path key (bytes l.key) c st short) (leaves s) (leaves-begin bytes (path ++ c ∷ []) s h.1))
      (none-short path (c + 1) rest h.2 short)

  -- none of these leaves passes a test that lets fronts of the key pass alone, and of an inner node's all that do stand under its
  -- next byte
  module _ (test : List ℕ → Bool) (takes : TakesFronts key test) where
    mutual
      pub none-located : (above : List Step) (s : Shape K V) → NoneFits (leaves s) → located_where bytes test (located above s) ≡ []
      none-located above (leaf_at slot k v) h = rw (not_fitting key test takes (bytes k) h.0) refl
      none-located above (inner_at n prefix kids) h = none-located_in above n kids h

      pub none-located_in : (above : List Step) (n : Name) (f : Branches K V) → NoneFits (leaves_in f) → located_where bytes test (located_in above n f) ≡ []
      none-located_in above n no_branch h = refl
      none-located_in above n (branch b s rest) h =
          filter-append (λ l. test (bytes l.leaf.key)) (located (record { node = n; byte = b } ∷ above) s) (located_in above n rest)
          ∙ ap₂ (λ xs ys. xs ++ ys) (none-located (record { node = n; byte = b } ∷ above) s (all_left (λ l. BeginsWith (bytes l.key) key → ⊥) (leaves s) (leaves_in rest) h))
          (none-located_in above n rest (all_right (λ l. BeginsWith (bytes l.key) key → ⊥) (leaves s) (leaves_in rest) h))

    located_in-join : (above : List Step) (n : Name) (f g : Branches K V) → located_where bytes test (located_in above n (join f g)) ≡ located_where bytes test (located_in above n f) ++ located_where bytes test (located_in above n g)
    located_in-join above n no_branch g = refl
    located_in-join above n (branch b s f) g =
        let step = record { node = n; byte = b } ∷ above in
        filter-append (λ l. test (bytes l.leaf.key)) (located step s) (located_in above n (join f g))
        ∙ ap (λ xs. located_where bytes test (located step s) ++ xs) (located_in-join above n f g)
        ∙ sym (append_assoc (located_where bytes test (located step s)) (located_where bytes test (located_in above n f)) (located_where bytes test (located_in above n g)))
        ∙ ap (λ xs. xs ++ located_where bytes test (located_in above n g)) (sym (filter-append (λ l. test (bytes l.leaf.key)) (located step s) (located_in above n f)))

    pub located-step : (path : List ℕ) (above : List Step) (n : Name) (before : Branches K V) (b : ℕ) (here : Shape K V) (after : Branches K V) → get_or key (length path) 0 ≡ b
        → AreUnder bytes path 0 before → AreBelow b before → AreUnder bytes path (b + 1) after
        → located_where bytes test (located_in above n (join before (branch b here after))) ≡ located_where bytes test (located (record { node = n; byte = b } ∷ above) here)
    located-step path above n before b here after at_b before_under below after_under =
        let step = record { node = n; byte = b } ∷ above in
        let none_before = none-located_in above n before (none-avoid path b 0 before before_under at_b (avoid-below b before below)) in
        let none_after = none-located_in above n after (none-avoid path b (b + 1) after after_under at_b (avoid-above path b (b + 1) after (omega arith) after_under)) in
        located_in-join above n before (branch b here after)
        ∙ ap₂ (λ xs ys. xs ++ ys) none_before
        (filter-append (λ l. test (bytes l.leaf.key)) (located step here) (located_in above n after)
        ∙ ap (λ xs. located_where bytes test (located step here) ++ xs) none_after ∙ append-nil (located_where bytes test (located step here)))

  -- no leaf below a prefix with which the key doesn't go on can be meant
  pub none-differs : (path prefix front : List ℕ) (depth low : ℕ) (f : Branches K V) → length path ≡ depth → AreUnder bytes (path ++ prefix) low f
      → ((more : List ℕ) → BeginsWith front (prefix ++ more)) → (BeginsWith front (drop depth key) → ⊥) → NoneFits (leaves_in f)
  none-differs path prefix front depth low no_branch len h part differs = tt
  none-differs path prefix front depth low (branch c s rest) len h part differs =
      all_append (λ l. BeginsWith (bytes l.key) key → ⊥) (leaves s) (leaves_in rest)
      (all_weaker _ (λ l. BeginsWith (bytes l.key) key → ⊥)
      (λ l st fits. let more = next_byte path prefix key depth c len (begins_trans ((path ++ prefix) ++ c ∷ []) (bytes l.key) key st fits) in differs (subst (BeginsWith front) (sym more.1) (part (c ∷ more.0))))
      (leaves s) (leaves-begin bytes ((path ++ prefix) ++ c ∷ []) s h.1))
      (none-differs path prefix front depth (c + 1) rest len h.2 part differs)

  -- a walk of forests that takes the trees one by one, up to the one under the key's next byte
  record IsByByte (on : tree.Tree (K × V) → List ℕ → List (tree.Tree (K × V))) (within : tree.Forest (K × V) → List ℕ → List (tree.Tree (K × V))) : Type 0 where
    none : (k : List ℕ) → within tree.no_child k ≡ []
    ended : (c : ℕ) (t : tree.Tree (K × V)) (f : tree.Forest (K × V)) → within (tree.child c t f) [] ≡ []
    goes : (c : ℕ) (t : tree.Tree (K × V)) (f : tree.Forest (K × V)) (b : ℕ) (k : List ℕ) → within (tree.child c t f) (b ∷ k) ≡ (if b == c then on t k else within f (b ∷ k))

  module _ (on : tree.Tree (K × V) → List ℕ → List (tree.Tree (K × V))) (within : tree.Forest (K × V) → List ℕ → List (tree.Tree (K × V))) (by : IsByByte on within) where
    -- it goes on in the child under the next byte, or ends
    child-step : (before : Branches K V) (b : ℕ) (here : Shape K V) (after : Branches K V) (rest : List ℕ) → AreBelow b before → within (erase_in (join before (branch b here after))) (b ∷ rest) ≡ on (erase here) rest
    child-step no_branch b here after rest below =
        by.goes b (erase here) (erase_in after) b rest ∙ elim (eqb_tells b b) [ inl same ↦ rw same.0 refl | inr other ↦ absurd (other.1 refl) ]
    child-step (branch c s before) b here after rest below =
        by.goes c (erase s) (erase_in (join before (branch b here after))) b rest ∙ elim (eqb_tells b c) [
          | inl same ↦ absurd (omega (arith, same.1, below.0))
          | inr other ↦ rw other.0 (child-step before b here after rest below.1)
        ]

    child-missing : (f : Branches K V) (b : ℕ) (rest : List ℕ) → Avoid b f → within (erase_in f) (b ∷ rest) ≡ []
    child-missing no_branch b rest avoid = by.none (b ∷ rest)
    child-missing (branch c s f) b rest avoid = by.goes c (erase s) (erase_in f) b rest ∙ elim (eqb_tells b c) [
      | inl same ↦ absurd (avoid.0 (sym same.1))
      | inr other ↦ rw other.0 (child-missing f b rest avoid.1)
    ]

    child-ended : (f : Branches K V) → within (erase_in f) [] ≡ []
    child-ended no_branch = by.none []
    child-ended (branch c s f) = by.ended c (erase s) (erase_in f)

  -- a path, and a look-up
  on-path : IsByByte path_of path_in
  on-path = record { none = λ k. refl; ended = λ c t f. refl; goes = λ c t f b k. refl }

  pub path_in-step : (before : Branches K V) (b : ℕ) (here : Shape K V) (after : Branches K V) (rest : List ℕ) → AreBelow b before
      → path_in (erase_in (join before (branch b here after))) (b ∷ rest) ≡ path_of (erase here) rest
  path_in-step = child-step path_of path_in on-path

  pub path_in-missing : (f : Branches K V) (b : ℕ) (rest : List ℕ) → Avoid b f → path_in (erase_in f) (b ∷ rest) ≡ []
  path_in-missing = child-missing path_of path_in on-path

  pub path_in-ended : (f : Branches K V) → path_in (erase_in f) [] ≡ []
  path_in-ended = child-ended path_of path_in on-path

  module _ (P : ℕ) where
    on-look_up : IsByByte (look_up_path P) (look_up_in P)
    on-look_up = record { none = λ k. refl; ended = λ c t f. refl; goes = λ c t f b k. refl }

    pub look_up-step : (before : Branches K V) (b : ℕ) (here : Shape K V) (after : Branches K V) (rest : List ℕ) → AreBelow b before
        → look_up_in P (erase_in (join before (branch b here after))) (b ∷ rest) ≡ look_up_path P (erase here) rest
    look_up-step = child-step (look_up_path P) (look_up_in P) on-look_up

    pub look_up-missing : (f : Branches K V) (b : ℕ) (rest : List ℕ) → Avoid b f → look_up_in P (erase_in f) (b ∷ rest) ≡ []
    look_up-missing = child-missing (look_up_path P) (look_up_in P) on-look_up

    pub look_up-ended : (f : Branches K V) → look_up_in P (erase_in f) [] ≡ []
    look_up-ended = child-ended (look_up_path P) (look_up_in P) on-look_up

  -- the leaves with the key, as pairs
  abbrev pub pair_at : Located K V → K × V
  pair_at l = (l.leaf.key, l.leaf.value)

  mutual
    pairs-located : (above : List Step) (s : Shape K V) → map pair_at (located above s) ≡ tree.items (erase s)
    pairs-located above (leaf_at slot k v) = refl
    pairs-located above (inner_at n prefix kids) = pairs-located_in above n kids

    pairs-located_in : (above : List Step) (n : Name) (f : Branches K V) → map pair_at (located_in above n f) ≡ tree.items_in (erase_in f)
    pairs-located_in above n no_branch = refl
    pairs-located_in above n (branch b s rest) =
        map-append pair_at (located (record { node = n; byte = b } ∷ above) s) (located_in above n rest)
        ∙ ap₂ (λ xs ys. xs ++ ys) (pairs-located (record { node = n; byte = b } ∷ above) s) (pairs-located_in above n rest)

  pub pairs-with_key : (s : Shape K V) → filter (λ p. bytes_eq (bytes p.0) key) (tree.items (erase s)) ≡ map pair_at (located_with_key bytes key s)
  pairs-with_key s = ap (filter (λ p. bytes_eq (bytes p.0) key)) (sym (pairs-located [] s)) ∙ filter-map (λ p. bytes_eq (bytes p.0) key) pair_at (located [] s)
