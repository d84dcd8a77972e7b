-- A leaf of a tree that is known by its name, found again by its key.
use Rattle.std.proofs.Common.{◌≡◌, ℕ, List, [], ◌∷◌, ◌++◌, Option, Some, None, IsSome, refl, sym, ap, subst, ◌∙◌, inl, inr}
use Rattle.art_bytes.proofs.Common.{IsBefore, before_not_self}
use Rattle.art_nodes.proofs.Common.{Name}
use Rattle.art_nodes.specs.declared.leaf.LeafNode.{LeafNode}
use Rattle.art_arena.proofs.Common.{Arena, Held, leaf_held, inner_held, held_at, node_at, cell_of, Cell, pair, leaf_name, found_in, IsAtKey, Shape, LeafAt, leaves, pairs_of, key_of, Step, Stores, StoresBeside, IsIn, AscendsByKey, Shrinks, nodes-part, nodes-subtree, in_middle, all_at, in_cases}
use Rattle.art_operations.proofs.Terms.{IsLeafPlace, IsAmong, with_key}
use Rattle.art_operations.proofs.KeyedLists.{before, following, taken}
use Rattle.art_operations.proofs.LeafPairs.{leaf_pair, pairs_ascend, pairs-parts, none_found, same_leaf, found_leaf, held_leaf}
use Rattle.art_operations.proofs.Stretches.{leaves_ascend}

-- what is a cell is held
pub held-some : {K V : Type 0} (o : Option (Held K V)) (c : Cell K V) → cell_of o ≡ Some c → IsSome o
held-some None c e = absurd (cc)
held-some (Some h) c e = refl

-- an item of an ascending list is the one at this place where it has its key
same_there : {X : Type 0} (key : X → List ℕ) (front : List X) (x : X) (back : List X) → AscendsByKey key (front ++ x ∷ back) → (y : X) → IsIn y (front ++ x ∷ back) → key y ≡ key x → x ≡ y
same_there key front x back up y i same = elim (in_cases y front (x ∷ back) i) [
  | inl j ↦ absurd (before_not_self (key x) (subst (λ k. IsBefore k (key x)) same (all_at (λ z. IsBefore (key z) (key x)) y front (before key x front back up) j)))
  | inr (inl e) ↦ e
  | inr (inr j) ↦ absurd (before_not_self (key x) (subst (IsBefore (key x)) same (all_at (λ z. IsBefore (key x) (key z)) y back (following key x front back up) j)))
]

module _ {K V : Type 0} (bytes : K → List ℕ) (P : ℕ) (arena : Arena K V) (root : Name) {rest : List (Name × Cell K V)} (s : Shape K V) (tree : StoresBeside bytes P arena root rest s) (slot : ℕ) (there : IsAmong slot (leaves s)) where
  among : IsIn there.leaf (leaves s)
  among = subst (IsIn there.leaf) (sym there.is) (in_middle (λ (l : LeafAt K V). bytes l.key) there.front there.leaf there.back)

  -- its pair stands under the name
  pub pair-held : node_at arena (leaf_name slot) ≡ Some (pair there.leaf.key there.leaf.value)
  pair-held = subst (λ n. node_at arena (leaf_name n) ≡ Some (pair there.leaf.key there.leaf.value)) there.slot_is (held_leaf P (node_at arena) s there.leaf among (nodes-part bytes P (node_at arena) root s tree.nodes).held)

  pub leaf-held : IsSome (held_at arena (leaf_name slot))
  leaf-held = held-some (held_at arena (leaf_name slot)) _ pair-held

  -- the key that stands under the name is the leaf's
  key-held : (key : K) → ((l : LeafNode K V) → held_at arena (leaf_name slot) ≡ Some (leaf_held l) → key ≡ l.key) → key ≡ there.leaf.key
  key-held key is = here (held_at arena (leaf_name slot)) pair-held is
    where
      here : (o : Option (Held K V)) → cell_of o ≡ Some (pair there.leaf.key there.leaf.value) → ((l : LeafNode K V) → o ≡ Some (leaf_held l) → key ≡ l.key) → key ≡ there.leaf.key
      here None e is = absurd (cc)
      here (Some (leaf_held l)) e is = let same : l.key ≡ there.leaf.key = cc in is l refl ∙ same
      here (Some (inner_held node)) e is = absurd (cc)

  -- and so are its bytes
  pub bytes-held : (key : K) (k : List ℕ) → k ≡ bytes key → ((l : LeafNode K V) → held_at arena (leaf_name slot) ≡ Some (leaf_held l) → key ≡ l.key) → k ≡ bytes there.leaf.key
  bytes-held key k e is = e ∙ ap bytes (key-held key is)

  pub named-stores : Stores bytes P arena root s
  named-stores = nodes-subtree bytes P (node_at arena) root s tree.nodes

  -- a search for it finds a leaf
  pub not-missed : [] ≡ found_in bytes (bytes there.leaf.key) s → ⊥
  not-missed none =
      let none_has = none_found bytes (bytes there.leaf.key) s none in
      let parts : pairs_of (leaves s) ≡ pairs_of there.front ++ leaf_pair there.leaf ∷ pairs_of there.back = ap pairs_of there.is ∙ pairs-parts bytes there.front there.leaf there.back in
      let one = (taken (key_of bytes) (leaf_pair there.leaf) (pairs_of there.front) (pairs_of there.back) (subst (AscendsByKey (key_of bytes)) parts (pairs_ascend bytes s tree.nodes.under))).had in
      let e = sym none_has ∙ ap (with_key (key_of bytes) (bytes there.leaf.key)) parts ∙ one in
      absurd (cc)

  -- and that is the one
  pub same-named : (found : ℕ) (last : List Step) → IsAtKey bytes (bytes there.leaf.key) s found last → found ≡ slot
  same-named found last at =
      let m = found_leaf bytes (bytes there.leaf.key) s found last at in
      let up = subst (AscendsByKey (λ (l : LeafAt K V). bytes l.key)) there.is (leaves_ascend bytes (leaves s) (pairs_ascend bytes s tree.nodes.under)) in
      let e = same_there (λ (l : LeafAt K V). bytes l.key) there.front there.leaf there.back up _ (subst (IsIn _) there.is m) at.same in
      sym (ap (λ (l : LeafAt K V). l.slot) e) ∙ there.slot_is

  pub named-place : (found : ℕ) (last : List Step) → IsAtKey bytes (bytes there.leaf.key) s found last → IsLeafPlace bytes s slot last
  named-place found last at = subst (λ n. IsLeafPlace bytes s n last) (same-named found last at) (record { ctx = at.ctx; key = at.leaf_key; value = at.value; place = at.place; steps = at.steps })

  -- the key at the place is its key
  pub named-shrinks : (last : List Step) (place : IsLeafPlace bytes s slot last) → Shrinks (λ (l : LeafAt K V). bytes l.key) (leaves s) (bytes place.key) → Shrinks (λ (l : LeafAt K V). bytes l.key) (leaves s) (bytes there.leaf.key)
  named-shrinks last place shrinks =
      let m = found_leaf bytes (bytes place.key) s slot last (record { ctx = place.ctx; leaf_key = place.key; value = place.value; place = place.place; steps = place.steps; same = refl }) in
      let same = same_leaf P (node_at arena) s (nodes-part bytes P (node_at arena) root s tree.nodes).held _ there.leaf m among (sym there.slot_is) in
      subst (λ k. Shrinks (λ (l : LeafAt K V). bytes l.key) (leaves s) (bytes k)) same shrinks
