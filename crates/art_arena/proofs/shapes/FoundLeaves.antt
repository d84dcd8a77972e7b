-- What the leaf at which a descent ended tells of the leaves with the key, and of those whose keys are a front of it.
use Rattle.std.proofs.Common.{◌≡◌, ◌≢◌, ℕ, Bool, true, false, List, [], ◌∷◌, ◌++◌, map, filter, Option, Some, None, refl, sym, ap, ap₂, subst, ◌∙◌, append-nil, bytes_eq}
use Rattle.std.proofs.lemmas.List.{map-append}
use Rattle.std.proofs.lemmas.Slice.Eq.{bytes_eq-Decides}
use Rattle.art_nodes.proofs.Common.{Name}
use Rattle.art_nodes.specs.declared.leaf.LeafNode.{LeafNode}
use Rattle.art_arena.proofs.Terms.{Tree, items, begins_with, Cell, pair, leaf_name, AreHeld, Shape, Branches, leaf_at, inner_at, no_branch, branch, LeafAt, leaves, leaves_in, cells, Links, first_slot, IsSubtree, Means, Step, steps_to, Located, located, located_in, located_with_key}
use Rattle.art_arena.proofs.Terms.{TakesFronts, passing, leaf_where, located_where, LandsAt, HasNoFront}
use Rattle.art_arena.proofs.tree.Filters.{filter-map}
use Rattle.art_arena.proofs.tree.Tenants.{begins_true}
use Rattle.art_arena.proofs.shapes.Places.{held-below}
use Rattle.art_arena.proofs.shapes.Finding.{same_key, other_key, pair_at, pairs-with_key}

-- the two tests of look-ups let fronts of the key pass alone

pub takes_equal : (key : List ℕ) → TakesFronts key (λ k. bytes_eq k key)
takes_equal key k passed = let same = (bytes_eq-Decides k key).0 passed in ([], sym same ∙ sym (append-nil k))

pub takes_front : (key : List ℕ) → TakesFronts key (λ k. begins_with k key)
takes_front key k passed = begins_true k key passed

-- the leaves, without the steps to them

abbrev pub leaves_of : {K V : Type 0} → List (Located K V) → List (LeafAt K V)
leaves_of ls = map (λ l. l.leaf) ls

mutual
  leaves-located : {K V : Type 0} (above : List Step) (s : Shape K V) → leaves_of (located above s) ≡ leaves s
  leaves-located above (leaf_at slot k v) = refl
  leaves-located above (inner_at n prefix kids) = leaves-located_in above n kids

  leaves-located_in : {K V : Type 0} (above : List Step) (n : Name) (f : Branches K V) → leaves_of (located_in above n f) ≡ leaves_in f
  leaves-located_in above n no_branch = refl
  leaves-located_in above n (branch b s rest) =
      map-append (λ l. l.leaf) (located (record { node = n; byte = b } ∷ above) s) (located_in above n rest)
      ∙ ap₂ (λ xs ys. xs ++ ys) (leaves-located (record { node = n; byte = b } ∷ above) s) (leaves-located_in above n rest)

module _ {K V : Type 0} (bytes : K → List ℕ) where
  -- the leaves that pass a test, with the steps to them or without
  pub passing-located : (test : List ℕ → Bool) (s : Shape K V) → passing bytes test (leaves s) ≡ leaves_of (located_where bytes test (located [] s))
  passing-located test s = ap (passing bytes test) (sym (leaves-located [] s)) ∙ filter-map (λ l. test (bytes l.key)) (λ l. l.leaf) (located [] s)

  module _ (key : List ℕ) (s : Shape K V) where
    module _ (slot : ℕ) (leaf : LeafNode K V) (last : List Step) (lands : LandsAt bytes key s slot leaf last) where
      abbrev pub the_leaf : Located K V
      the_leaf = record { leaf = record { slot = slot; key = leaf.key; value = leaf.value }; steps = steps_to lands.ctx }

      -- where its key passes the test, it is the only one
      pub located-passes : (test : List ℕ → Bool) → TakesFronts key test → test (bytes leaf.key) ≡ true → located_where bytes test (located [] s) ≡ the_leaf ∷ []
      located-passes test takes passed = lands.only test takes ∙ rw passed refl

      pub located-fails : (test : List ℕ → Bool) → TakesFronts key test → test (bytes leaf.key) ≡ false → located_where bytes test (located [] s) ≡ []
      located-fails test takes failed = lands.only test takes ∙ rw failed refl

      pub leaf_passes : (test : List ℕ → Bool) → TakesFronts key test → test (bytes leaf.key) ≡ true → Some slot ≡ leaf_where bytes test (leaves s)
      leaf_passes test takes passed = sym (ap (λ ls. first_slot ls None) (passing-located test s ∙ ap leaves_of (located-passes test takes passed)))

      pub leaf_fails : (test : List ℕ → Bool) → TakesFronts key test → test (bytes leaf.key) ≡ false → None ≡ leaf_where bytes test (leaves s)
      leaf_fails test takes failed = sym (ap (λ ls. first_slot ls None) (passing-located test s ∙ ap leaves_of (located-fails test takes failed)))

      pub key-same : bytes leaf.key ≡ key → located_with_key bytes key s ≡ the_leaf ∷ []
      key-same same = located-passes (λ k. bytes_eq k key) (takes_equal key) (same_key (bytes leaf.key) key same)

      pub key-other : bytes leaf.key ≢ key → located_with_key bytes key s ≡ []
      key-other other = located-fails (λ k. bytes_eq k key) (takes_equal key) (other_key (bytes leaf.key) key other)

      -- the leaf stands in the arena under its name
      pub leaf-held : (P : ℕ) (at : Name → Option (Cell K V)) (root : Name) → IsSubtree bytes P at root [] s → at (leaf_name slot) ≡ Some (pair leaf.key leaf.value)
      leaf-held P at root tree = (held-below P at lands.ctx (leaf_at slot leaf.key leaf.value) (subst (λ t. AreHeld at (cells P t)) lands.place.is tree.part.held)).0

    -- where no key is a front of the key, none is found
    pub misses : HasNoFront bytes key s → (test : List ℕ → Bool) → TakesFronts key test → None ≡ leaf_where bytes test (leaves s)
    misses none test takes = sym (ap (λ ls. first_slot ls None) (passing-located test s ∙ ap leaves_of (none test takes)))

    pub key-none : HasNoFront bytes key s → located_with_key bytes key s ≡ []
    key-none none = none (λ k. bytes_eq k key) (takes_equal key)

-- whatever tree a name means, its pairs with the key are those of the leaves with the key
pub pairs-found : {K V : Type 0} (bytes : K → List ℕ) (key : List ℕ) (P : ℕ) (at : Name → Option (Cell K V)) (root : Name) (links : ℕ → Option Links) (pairs : List (K × V))
    → ((s : Shape K V) → IsSubtree bytes P at root [] s → map (pair_at bytes key) (located_with_key bytes key s) ≡ pairs)
    → (t : Tree (K × V)) → Means bytes P at root links t → pairs ≡ filter (λ p. bytes_eq (bytes p.0) key) (items t)
pairs-found bytes key P at root links pairs found t m =
    sym (ap (λ u. filter (λ p. bytes_eq (bytes p.0) key) (items u)) (sym m.erased) ∙ pairs-with_key bytes key m.shape ∙ found m.shape (record { part = m.part; under = m.under }))
