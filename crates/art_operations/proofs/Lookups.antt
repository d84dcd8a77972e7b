-- What a look-up finds where it lands.
use Rattle.std.proofs.Common.{◌≡◌, ℕ, Bool, true, false, bytes_eq, IsTrue, ◌==◌, ◌↔◌, List, [], ◌∷◌, refl, sym, ap, ◌∙◌}
use Rattle.std.proofs.lemmas.Bool.{false_from_ne_true}
use Rattle.art_bytes.proofs.Common.{BeginsWith}
use Rattle.art_nodes.specs.declared.leaf.LeafNode.{LeafNode}
use Rattle.art_arena.proofs.Common.{begins_with, begins_same, begins_true, other_key, same_key, takes_equal, takes_front, HasNoFront, LandsAt, TakesFronts, passing, Shape, leaves, Step, leaves_of, located-fails, located-passes, passing-located}
use Rattle.art_operations.proofs.Terms.{takes_key}

takes : (of_prefixes : Bool) (query : List ℕ) → TakesFronts query (takes_key of_prefixes query)
takes true query = takes_front query
takes false query = takes_equal query

pub told-prefix : (r : Bool) (query k : List ℕ) → IsTrue r ↔ BeginsWith k query → r ≡ begins_with k query
told-prefix true query k e = sym (begins_same k query (e.0 refl))
told-prefix false query k e = sym (false_from_ne_true (begins_with k query) (λ passed. let t = e.1 (begins_true k query passed) in cc))

pub told-key : (r : Bool) (query k : List ℕ) → IsTrue r ↔ (k ≡ query) → r ≡ bytes_eq k query
told-key true query k e = sym (same_key k query (e.0 refl))
told-key false query k e = sym (other_key k query (λ same. let t = e.1 same in cc))

module _ {K V : Type 0} (bytes : K → List ℕ) (of_prefixes : Bool) (query : List ℕ) (s : Shape K V) where
  -- where the key of the leaf is taken, it is the only one
  pub leaf-found : (slot : ℕ) (leaf : LeafNode K V) (last : List Step) → LandsAt bytes query s slot leaf last → takes_key of_prefixes query (bytes leaf.key) ≡ true
      → record { slot = slot; key = leaf.key; value = leaf.value } ∷ [] ≡ passing bytes (takes_key of_prefixes query) (leaves s)
  leaf-found slot leaf last lands passes =
      sym (passing-located bytes (takes_key of_prefixes query) s ∙ ap leaves_of (located-passes bytes query s slot leaf last lands (takes_key of_prefixes query) (takes of_prefixes query) passes))

  -- else no key is
  pub other-leaf : (slot : ℕ) (leaf : LeafNode K V) (last : List Step) → LandsAt bytes query s slot leaf last → takes_key of_prefixes query (bytes leaf.key) ≡ false → [] ≡ passing bytes (takes_key of_prefixes query) (leaves s)
  other-leaf slot leaf last lands fails =
      sym (passing-located bytes (takes_key of_prefixes query) s ∙ ap leaves_of (located-fails bytes query s slot leaf last lands (takes_key of_prefixes query) (takes of_prefixes query) fails))

  pub no-leaf : HasNoFront bytes query s → [] ≡ passing bytes (takes_key of_prefixes query) (leaves s)
  no-leaf none = sym (passing-located bytes (takes_key of_prefixes query) s ∙ ap leaves_of (none (takes_key of_prefixes query) (takes of_prefixes query)))
