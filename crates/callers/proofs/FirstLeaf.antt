-- The first leaf whose key passes a test.
use Rattle.std.proofs.Common.{◌≡◌, ℕ, Bool, true, false, List, [], ◌∷◌, Some, refl, sym, ap, subst}
use Rattle.std.specs.Prelude.{IsTrue}
use Rattle.art_nodes.proofs.Common.{Name}
use Rattle.art_nodes.specs.declared.leaf.LeafNode.{LeafNode}
use Rattle.art_arena.proofs.Common.{Arena, leaf_held, held_at, leaf_name, leaf_where, Shape, LeafAt, leaves, StoresOnly}
use Rattle.art_operations.proofs.Common.{IsAmong, bytes-held}

module _ {K V : Type 0} (bytes : K → List ℕ) (test : List ℕ → Bool) where
  -- it is one of the leaves, and its key passes
  pub first-passing : (ls : List (LeafAt K V)) (slot : ℕ) → leaf_where bytes test ls ≡ Some slot → (there : IsAmong slot ls) × (test (bytes there.leaf.key) ≡ true)
  first-passing [] slot e = absurd (cc)
  first-passing (l ∷ ls) slot e = here (test (bytes l.key)) refl (first-passing ls slot)
    where
      here : (b : Bool) → test (bytes l.key) ≡ b → (leaf_where bytes test ls ≡ Some slot → (there : IsAmong slot ls) × (test (bytes there.leaf.key) ≡ true)) → (there : IsAmong slot (l ∷ ls)) × (test (bytes there.leaf.key) ≡ true)
      here true t rest = let is : Some l.slot ≡ Some slot = rw t at e in (record { front = []; leaf = l; back = ls; is = refl; slot_is = cc }, t)
      here false t rest =
          let later = rest (rw t at e) in
          (record { front = l ∷ later.0.front; leaf = later.0.leaf; back = later.0.back; is = ap (λ xs. l ∷ xs) later.0.is; slot_is = later.0.slot_is }, later.1)

  -- and so does the key that is read there
  pub key-passes : (P : ℕ) (arena : Arena K V) (root : Name) (s : Shape K V) → StoresOnly bytes P arena root s → (slot : ℕ) → leaf_where bytes test (leaves s) ≡ Some slot
      → (key : K) → ((l : LeafNode K V) → held_at arena (leaf_name slot) ≡ Some (leaf_held l) → key ≡ l.key) → IsTrue (test (bytes key))
  key-passes P arena root s tree slot found key is =
      let there = first-passing (leaves s) slot found in
      subst (λ k. IsTrue (test k)) (sym (bytes-held bytes P arena root s tree slot there.0 key (bytes key) refl is)) (rw there.1 refl)
