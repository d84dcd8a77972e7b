-- An arena that has pairs, before and after a command.
use Rattle.std.proofs.Common.{◌≡◌, ◌≢◌, ℕ, List, [], ◌++◌, Option, Some, None, refl, sym, ap, subst, ◌∙◌, inl, inr}
use Rattle.std.proofs.lemmas.List.{append-nil}
use Rattle.art_nodes.proofs.Common.{Name}
use Rattle.art_nodes.specs.declared.leaf.LeafNode.{LeafNode}
use Rattle.art_arena.proofs.Common.{Arena, leaf_held, cell_of, node_at, links_at, Allocates, KeepsNodes, SameNodes, Cell, leaf_name, Holds, HoldsOnly, IsIn, found_in, IsAtKey, IsTreeBeside, IsSubtree, Shape, leaf_at, LeafAt, leaves, pairs_of, key_of, cells, Shrinks, Step, tree_of, AscendsByKey}
use Rattle.art_arena.proofs.Common.{keeps-beside, Holds-add, Holds-same, only-holds, shape_means, nodes-part, nodes-subtree, outside-apart, AreLinked-same, all_left, in_map, in_unmap, in_middle, all_at, nodes-update, links-update, nodes-same, links-same}
use Rattle.art_operations.proofs.Terms.{IsLeafPlace, HasLeavesBeside, IsDeletedBeside, IsInsertedBeside, IsPoint, HasConflict, NoConflict, DeleteResult, InsertPoint, InsertResult, HasKey, IsBlocked, with_key, HasPairs, HasPairsBeside, CanPut, HasPut, HasTaken, HoldsTreeOf, NoChange}
use Rattle.art_operations.specs.Insertions.{IsForConflict, IsPairRefused}
use Rattle.art_operations.specs.declared.insert.result.PairRefused.{PairRefused}
use Rattle.art_operations.specs.declared.insert.result.PairRefused.TheVariants.{Conflict, Memory}
use Rattle.art_operations.specs.declared.insert.point.InsertKind.TheVariants as kind
use Rattle.art_operations.proofs.KeyedLists.{stored-free}
use Rattle.art_operations.proofs.NotStored.{not-stored, which}
use Rattle.art_operations.proofs.LeafPairs.{leaf_pair, pairs_ascend, free_pairs, none_found, stored_in, stored_pair, taken_pair, shrinks-map, same_leaf, found_leaf, held_leaf}

-- what was refused for want of memory is so where no pair blocks the key
pub memory-refused : {K V B : Type 0} (key k : K) (value v : V) (refused : PairRefused K V) → IsPairRefused k v ⊥ refused → (IsForConflict refused → ⊥) → (k ≡ key) × (v ≡ value) → (B → ⊥) → IsPairRefused key value B refused
memory-refused key k value v (Conflict l w) is other back free = absurd is.2
memory-refused key k value v (Memory l w) is other back free = (is.0 ∙ back.0, is.1 ∙ back.1, free)

module _ {K V : Type 0} (bytes : K → List ℕ) (P : ℕ) where
  -- an arena with the same nodes has the same tree
  pub tree-same : {rest : List (Name × Cell K V)} (old new : Arena K V) → SameNodes old new → (root : Name) (s : Shape K V) → IsTreeBeside bytes P (node_at old) root (links_at old) rest s → IsTreeBeside bytes P (node_at new) root (links_at new) rest s
  tree-same {rest} old new same root s tree = record {
    nodes = record { named = tree.nodes.named; holds = Holds-same (node_at old) (node_at new) (nodes-same old new same) (rest ++ cells P s) tree.nodes.holds; under = tree.nodes.under };
    linked = AreLinked-same (links_at old) (links_at new) (links-same old new same) None (leaves s) None tree.linked;
  }

  -- and the same pairs
  pub pairs-same : (old new : Arena K V) → SameNodes old new → (root : Option Name) (pairs : List (K × V)) → HasPairs bytes P old root pairs → HasPairs bytes P new root pairs
  pairs-same old new same None pairs (none, empty) = (none, λ n. nodes-same old new same n ∙ empty n)
  pairs-same old new same (Some root) pairs (s, tree, e) = (s, tree-same old new same root s tree, e)

  -- the pairs of these leaves
  pub leaves-pairs : (arena : Arena K V) (rest : List (Name × Cell K V)) (root : Option Name) (ls : List (LeafAt K V)) (pairs : List (K × V)) → pairs_of ls ≡ pairs → HasLeavesBeside bytes P arena root ls rest → HasPairsBeside bytes P arena root pairs rest
  leaves-pairs arena rest None ls pairs e (none, empty) = (sym e ∙ ap pairs_of none, empty)
  leaves-pairs arena rest (Some root) ls pairs e (s, tree, same) = (s, tree, ap pairs_of same ∙ e)

  -- the root means their tree
  pub pairs-tree : (arena : Arena K V) (root : Option Name) (pairs : List (K × V)) → HasPairs bytes P arena root pairs → HoldsTreeOf bytes P arena root pairs
  pairs-tree arena None pairs h = h
  pairs-tree arena (Some root) pairs (s, tree, e) =
      let m = shape_means K V bytes P (node_at arena) root (links_at arena) s [] tree in
      (m.0, ap (tree_of (key_of bytes)) (sym e) ∙ m.1, m.2)

  -- the first leaf is a tree
  pub first-leaf : (old new : Arena K V) (rest : List (Name × Cell K V)) (slot : ℕ) (leaf : LeafNode K V) → HoldsOnly (node_at old) rest → Allocates old new (leaf_name slot) (leaf_held leaf) → leaf.previous ≡ None → leaf.next ≡ None
      → IsTreeBeside bytes P (node_at new) (leaf_name slot) (links_at new) rest (leaf_at slot leaf.key leaf.value)
  first-leaf old new rest slot leaf before allocates first last =
      let nodes = nodes-update old new (leaf_name slot) _ allocates.updates in
      let links = links-update old new slot _ allocates.updates in
      record {
        nodes = record {
          named = refl;
          holds = Holds-add (node_at old) (node_at new) (leaf_name slot) _ rest [] nodes (ap cell_of allocates.vacant) (subst (Holds (node_at old)) (sym (append-nil rest)) (only-holds (node_at old) rest before));
          under = (bytes leaf.key, refl);
        };
        linked = (links.changed ∙ rw (first, last) refl, tt);
      }

  -- a pair that was put in at a point
  pub put-at : {rest : List (Name × Cell K V)} (old new : Arena K V) (point : InsertPoint) (key : K) (value : V) (pairs : List (K × V)) (has : CanPut bytes P old (Some point) (bytes key) pairs rest) (last : List Step) (result : InsertResult K V)
      → IsInsertedBeside bytes P new rest has.shape last key value result → HasPut bytes P new key value result pairs rest
  put-at old new point key value pairs has last result is =
      let leaf : LeafAt K V = record { slot = result.leaf_node_ptr; key = key; value = value } in
      let put = stored_pair bytes leaf result.existing_leaf (leaves has.shape) (leaves is.shape) (pairs_ascend bytes is.shape is.is_tree.nodes.under) is.stored in
      let there = rw has.pairs_are at put in
      record {
        has = (is.shape, is.is_tree, there.new_is);
        old = there.were;
        leaf = held_leaf P (node_at new) is.shape leaf (stored_in bytes leaf result.existing_leaf (leaves has.shape) (leaves is.shape) is.stored) (nodes-part bytes P (node_at new) result.new_root is.shape is.is_tree.nodes).held;
      }

  -- where a pair has the key, the point is its leaf
  pub stored-exact : {rest : List (Name × Cell K V)} (old : Arena K V) (point : InsertPoint) (key : List ℕ) (pairs : List (K × V)) → CanPut bytes P old (Some point) key pairs rest → HasKey (key_of bytes) key pairs → (slot : ℕ) × (point.insert_kind ≡ kind.Exact slot)
  stored-exact old point key pairs has (x, i, same) = elim (which point.insert_kind) [
    | inl exact ↦ exact
    | inr differs ↦
        let back = in_unmap leaf_pair x (leaves has.shape) (subst (IsIn x) (sym has.pairs_are) i) in
        let others = not-stored bytes key has.shape point has.place differs in
        absurd (all_at (λ (l : LeafAt K V). bytes l.key ≢ key) back.0 (leaves has.shape) others back.1 (ap (key_of bytes) back.2 ∙ same))
  ]

  -- a place that was found for these bytes is one for the key that has them, and no pair blocks it
  pub place-for : (rest : List (Name × Cell K V)) (arena : Arena K V) (place : Option InsertPoint) (found key : List ℕ) → found ≡ key → (pairs : List (K × V)) → CanPut bytes P arena place found pairs rest × (IsBlocked (key_of bytes) found pairs → ⊥)
      → CanPut bytes P arena place key pairs rest × (IsBlocked (key_of bytes) key pairs → ⊥)
  place-for rest arena place found key same pairs is = subst (λ k. CanPut bytes P arena place k pairs rest × (IsBlocked (key_of bytes) k pairs → ⊥)) same is

  -- no pair has a key that a pair blocks
  pub not-blocked : (rest : List (Name × Cell K V)) (arena : Arena K V) (root : Option Name) (pairs : List (K × V)) → HasPairsBeside bytes P arena root pairs rest → (key : List ℕ)
      → HasKey (key_of bytes) key pairs → IsBlocked (key_of bytes) key pairs → ⊥
  not-blocked rest arena None pairs none key stored blocked = (rw none.0 at blocked).1
  not-blocked rest arena (Some root) pairs has key stored blocked = stored-free (key_of bytes) pairs (subst (AscendsByKey (key_of bytes)) has.2 (pairs_ascend bytes has.0 has.1.nodes.under)) key stored blocked

  -- the first pair
  module _ (old new : Arena K V) (rest : List (Name × Cell K V)) (slot : ℕ) (key : K) (value : V) (before : HoldsOnly (node_at old) rest) (allocates : Allocates old new (leaf_name slot) (leaf_held (record { key = key; value = value; previous = None; next = None }))) where
    first : IsTreeBeside bytes P (node_at new) (leaf_name slot) (links_at new) rest (leaf_at slot key value)
    first = first-leaf old new rest slot (record { key = key; value = value; previous = None; next = None }) before allocates refl refl

    pub put-first : HasPut bytes P new key value (record { leaf_node_ptr = slot; existing_leaf = None; new_root = leaf_name slot; parent_node_change = NoChange }) [] rest
    put-first = record { has = (leaf_at slot key value, first, refl); old = refl; leaf = (nodes-update old new (leaf_name slot) _ allocates.updates).changed }

    -- what stood there is kept
    pub first-keeps : KeepsNodes rest old new
    first-keeps =
        let held = all_left (λ (c : Name × Cell K V). node_at new c.0 ≡ Some c.1) rest (cells P (leaf_at slot key value)) first.nodes.holds.held in
        keeps-beside bytes P old new (node_at new) rest (leaf_at slot key value) (only-holds (node_at old) rest before).held held first.nodes.holds first.nodes.under
        (λ n none. (links-update old new slot _ allocates.updates).others n (outside-apart n [] (record { slot = slot; key = key; value = value }) [] none))

  -- where the arena has a tree below a root, in which a key is looked for
  module _ (old : Arena K V) (rest : List (Name × Cell K V)) (root : Option Name) (top : Name) (root_is : root ≡ Some top) (key : List ℕ) (pairs : List (K × V)) (has : HasPairsBeside bytes P old root pairs rest) where
    pub below : HasPairsBeside bytes P old (Some top) pairs rest
    below = subst (λ r. HasPairsBeside bytes P old r pairs rest) root_is has

    subtree : IsSubtree bytes P (node_at old) top [] below.0
    subtree = nodes-subtree bytes P (node_at old) top below.0 below.1.nodes

    pub some-tree : (s : Shape K V) × IsSubtree bytes P (node_at old) top [] s
    some-tree = (below.0, subtree)

    -- the place that was found is one for this key, and no pair blocks it
    pub place_is_free : (point : InsertPoint) → ((s : Shape K V) → IsSubtree bytes P (node_at old) top [] s → IsPoint bytes key s point × NoConflict bytes key (leaves s))
        → CanPut bytes P old (Some point) key pairs rest × (IsBlocked (key_of bytes) key pairs → ⊥)
    place_is_free point found =
        let is = found below.0 subtree in (
          record {
            shape = below.0;
            is_tree = subst (λ n. IsTreeBeside bytes P (node_at old) n (links_at old) rest below.0) (sym below.1.nodes.named ∙ is.0.named) below.1;
            place = is.0;
            pairs_are = below.2;
          },
          subst (λ ps. IsBlocked (key_of bytes) key ps → ⊥) below.2 (free_pairs bytes key (leaves below.0) is.1),
        )

    -- where a leaf is in conflict with the key, a pair blocks it
    pub blocked-key : ((s : Shape K V) → IsSubtree bytes P (node_at old) top [] s → HasConflict bytes key (leaves s)) → IsBlocked (key_of bytes) key pairs
    blocked-key found =
        let leaf = found below.0 subtree in
        subst (IsBlocked (key_of bytes) key) below.2 (leaf_pair leaf.0, in_map leaf_pair leaf.0 (leaves below.0) leaf.1, leaf.2)

    -- where no leaf has the key, no pair has it
    pub nothing-found : ((s : Shape K V) → IsSubtree bytes P (node_at old) top [] s → [] ≡ found_in bytes key s) → with_key (key_of bytes) key pairs ≡ []
    nothing-found none = subst (λ ps. with_key (key_of bytes) key ps ≡ []) below.2 (none_found bytes key below.0 (none below.0 subtree))

    -- where a leaf was found that has the key
    module _ (slot : ℕ) (last : List Step) (found : (s : Shape K V) → IsSubtree bytes P (node_at old) top [] s → IsAtKey bytes key s slot last) where
      there : IsAtKey bytes key below.0 slot last
      there = found below.0 subtree

      pub place : IsLeafPlace bytes below.0 slot last
      place = record { ctx = there.ctx; key = there.leaf_key; value = there.value; place = there.place; steps = there.steps }

      among : IsIn (record { slot = slot; key = there.leaf_key; value = there.value }) (leaves below.0)
      among = found_leaf bytes key below.0 slot last there

      abbrev pub can-delete : (s : Shape K V) × (others : List (Name × Cell K V)) × IsTreeBeside bytes P (node_at old) top (links_at old) others s × IsLeafPlace bytes s slot last
      can-delete = (below.0, rest, below.1, place)

      -- its pair was taken out
      pub taken-pair : (new : Arena K V) (deleted : DeleteResult K V) → ((s : Shape K V) → IsTreeBeside bytes P (node_at old) top (links_at old) rest s → IsLeafPlace bytes s slot last → IsDeletedBeside bytes P new rest s slot deleted)
          → HasTaken bytes P new root key (Some deleted) pairs rest
      taken-pair new deleted result =
          let is = result below.0 below.1 place in
          let leaf : LeafAt K V = record { slot = slot; key = deleted.deleted_leaf.key; value = deleted.deleted_leaf.value } in
          let stood = subst (IsIn leaf) (sym is.was) (in_middle (λ (l : LeafAt K V). bytes l.key) is.front leaf is.back) in
          let same_key = ap bytes (same_leaf P (node_at old) below.0 (nodes-part bytes P (node_at old) top below.0 below.1.nodes).held leaf _ stood among refl) ∙ there.same in
          let taken = taken_pair bytes is.front leaf is.back (leaves below.0) (pairs_ascend bytes below.0 below.1.nodes.under) is.was in
          let gone = rw (same_key, below.2) at taken in
          (gone.had, leaves-pairs new rest deleted.new_root (is.front ++ is.back) _ gone.new_is is.left)

      -- or it would make a node smaller
      pub shrinks-pair : ((s : Shape K V) → IsTreeBeside bytes P (node_at old) top (links_at old) rest s → (leaf : IsLeafPlace bytes s slot last) → Shrinks (λ l. bytes l.key) (leaves s) (bytes leaf.key))
          → HasKey (key_of bytes) key pairs × Shrinks (key_of bytes) pairs key
      shrinks-pair shrinks =
          let smaller = shrinks below.0 below.1 (record { ctx = there.ctx; key = there.leaf_key; value = there.value; place = there.place; steps = there.steps }) in (
            subst (HasKey (key_of bytes) key) below.2 ((there.leaf_key, there.value), in_map leaf_pair _ (leaves below.0) among, there.same),
            subst (λ ps. Shrinks (key_of bytes) ps key) below.2 (shrinks-map leaf_pair (key_of bytes) (leaves below.0) key (rw there.same at smaller)),
          )
