-- The leaves of a map, before and after one of them is taken out.
use Rattle.std.proofs.Common.{◌≡◌, ℕ, ◌≤◌, List, [], ◌∷◌, ◌++◌, Option, Some, None, IsSome, refl, sym, ap, ap₂, subst, ◌∙◌}
use Rattle.art_nodes.proofs.Common.{Name}
use Rattle.art_arena.proofs.Common.{Arena, held_at, node_at, links_at, SameNodes, Cell, pair, leaf_name, times, Shape, LeafAt, leaves, pairs_of, key_of, StoresBeside, StoresOnly, AscendsByKey, Shrinks, cell-some, leaf-there, tree-list, nodes-same}
use Rattle.art_operations.proofs.Common.{HasLeaves, IsAmong, IsDeletedBeside, HasPairs, HasTaken, leaves-pairs, tree-same, leaf_pair, shrinks-map, taken_pair, pair-held, written}
use Rattle.art_operations.specs.declared.delete.result.DeleteResult.{DeleteResult}
use Rattle.art_map.proofs.Terms.{contents, pairs_from, IsMap, AreLeaves}
use Rattle.art_map.proofs.Below.{has-seen}
use Rattle.art_map.proofs.LookedUp.{same-place}
use Rattle.art_map.proofs.Maps.{ascending-map}

module _ {K V : Type 0} (bytes : K → List ℕ) (P : ℕ) where
  -- the leaves that an arena has below a root are those of the map
  pub map-leaves : (arena : Arena K V) (root : Option Name) (ls : List (LeafAt K V)) → HasLeaves bytes P arena root ls → AreLeaves bytes P (contents arena root) ls
  map-leaves arena root ls has = record { has = has; pairs_are = has-seen bytes P arena root (pairs_of ls) (leaves-pairs bytes P arena [] root ls (pairs_of ls) refl has) }

  -- an arena with the same nodes has the same leaves
  leaves-same : (old new : Arena K V) → SameNodes old new → (root : Option Name) (ls : List (LeafAt K V)) → HasLeaves bytes P old root ls → HasLeaves bytes P new root ls
  leaves-same old new same None ls (none, empty) = (none, λ n. nodes-same old new same n ∙ empty n)
  leaves-same old new same (Some root) ls (s, tree, e) = (s, tree-same bytes P old new same root s tree, e)

  pub same-leaves : (old new : Arena K V) → SameNodes old new → (root : Option Name) (ls : List (LeafAt K V)) → AreLeaves bytes P (contents old root) ls → AreLeaves bytes P (contents new root) ls
  same-leaves old new same root ls are = map-leaves new root ls (leaves-same old new same root ls are.has)

  module _ (is_key : K → Type 0) (old : Arena K V) (root : Option Name) (map : IsMap bytes is_key P old root) (slot : ℕ) (there : IsSome (held_at old (leaf_name slot))) where
    -- a map in whose arena a leaf stands has a root
    pub has-root : root ≡ None → ⊥
    has-root none =
        let has : HasPairs bytes P old None (pairs_from old root) = subst (λ r. HasPairs bytes P old r (pairs_from old root)) none map.has in
        let nowhere = has.1 (leaf_name slot) in
        let some = cell-some (held_at old (leaf_name slot)) there in
        absurd (cc)

    module _ (top : Name) (is : root ≡ Some top) where
      has_top : HasPairs bytes P old (Some top) (pairs_from old root)
      has_top = subst (λ r. HasPairs bytes P old r (pairs_from old root)) is map.has

      -- the leaf is one of the tree's
      among : (s : Shape K V) → StoresOnly bytes P old top s → IsAmong slot (leaves s)
      among s tree =
          let at = written bytes P old top s tree slot there (leaf-there old slot there).leaf.value in
          record { front = at.front; leaf = record { slot = slot; key = at.key; value = at.value }; back = at.back; is = at.had; slot_is = refl }

      pub among-tree : (s : Shape K V) × (rest : List (Name × Cell K V)) × StoresBeside bytes P old top rest s × IsAmong slot (leaves s)
      among-tree = (has_top.0, [], has_top.1, among has_top.0 has_top.1)

      -- it was taken out
      module _ (new : Arena K V) (deleted : DeleteResult K V) (gone : (s : Shape K V) (rest : List (Name × Cell K V)) → StoresBeside bytes P old top rest s → IsAmong slot (leaves s) → IsDeletedBeside bytes P new rest s slot deleted) where
        -- of these leaves the others are left
        others-left : (s : Shape K V) → StoresOnly bytes P old top s → (at : IsAmong slot (leaves s)) → HasLeaves bytes P new deleted.new_root (at.front ++ at.back) × (at.leaf ≡ record { slot = slot; key = deleted.deleted_leaf.key; value = deleted.deleted_leaf.value })
        others-left s tree at =
            let d = gone s [] tree at in
            let once : times at.leaf.slot (at.front ++ at.leaf ∷ at.back) ≤ 1 = subst (λ ls. times at.leaf.slot ls ≤ 1) at.is ((tree-list bytes P (node_at old) top (links_at old) s tree).once at.leaf.slot) in
            let same = same-place at.front at.leaf at.back d.front _ d.back (sym at.is ∙ d.was) at.slot_is once in
            (subst (HasLeaves bytes P new deleted.new_root) (ap₂ (λ xs ys. xs ++ ys) (sym same.0) (sym same.2)) d.left, same.1)

        pub taken-leaves : (ls : List (LeafAt K V)) → AreLeaves bytes P (contents old root) ls → (at : IsAmong slot ls) → AreLeaves bytes P (contents new deleted.new_root) (at.front ++ at.back)
        taken-leaves ls are at =
            let has : HasLeaves bytes P old (Some top) ls = subst (λ r. HasLeaves bytes P old r ls) is are.has in
            map-leaves new deleted.new_root (at.front ++ at.back) (others-left has.0 has.1 (record { front = at.front; leaf = at.leaf; back = at.back; is = has.2 ∙ at.is; slot_is = at.slot_is })).0

        -- and its pair is no more
        at_top : IsAmong slot (leaves has_top.0)
        at_top = among has_top.0 has_top.1

        left_top : HasLeaves bytes P new deleted.new_root (at_top.front ++ at_top.back) × (at_top.leaf ≡ record { slot = slot; key = deleted.deleted_leaf.key; value = deleted.deleted_leaf.value })
        left_top = others-left has_top.0 has_top.1 at_top

        pub taken-leaf : HasTaken bytes P new root (bytes deleted.deleted_leaf.key) (Some deleted) (pairs_from old root) []
        taken-leaf =
            let parts = sym has_top.2 ∙ ap pairs_of at_top.is in
            let taken = taken_pair bytes at_top.front at_top.leaf at_top.back (leaves has_top.0) (subst (AscendsByKey (key_of bytes)) (sym has_top.2) (ascending-map bytes is_key P old root map)) at_top.is in
            let it = rw (left_top.1, has_top.2) at taken in
            (it.had, leaves-pairs bytes P new [] deleted.new_root (at_top.front ++ at_top.back) _ it.new_is left_top.0)

        pub taken-held : node_at old (leaf_name slot) ≡ Some (pair deleted.deleted_leaf.key deleted.deleted_leaf.value)
        taken-held = subst (λ (l : LeafAt K V). node_at old (leaf_name slot) ≡ Some (pair l.key l.value)) left_top.1 (pair-held bytes P old top has_top.0 has_top.1 slot at_top)

      -- or its loss would make a node smaller
      pub shrinks-leaf : ((s : Shape K V) (rest : List (Name × Cell K V)) → StoresBeside bytes P old top rest s → (at : IsAmong slot (leaves s)) → Shrinks (λ (l : LeafAt K V). bytes l.key) (leaves s) (bytes at.leaf.key))
          → (p : K × V) → node_at old (leaf_name slot) ≡ Some (pair p.0 p.1) → Shrinks (key_of bytes) (pairs_from old root) (bytes p.0)
      shrinks-leaf shrinks p held =
          let s = has_top.0 in
          let at = among s has_top.1 in
          let e = sym (pair-held bytes P old top s has_top.1 slot at) ∙ held in
          let same : at.leaf.key ≡ p.0 = cc in
          rw (← has_top.2, ← same) (shrinks-map leaf_pair (key_of bytes) (leaves s) (bytes at.leaf.key) (shrinks s [] has_top.1 at))
