-- An arena that has pairs, before and after one took the place of those whose keys overlap its key.
use Rattle.std.proofs.Common.{◌≡◌, ◌≢◌, ℕ, true, cond, List, [], ◌∷◌, ◌++◌, length, Option, Some, None, is_some, refl, sym, ap, subst, ◌∙◌, arith}
use Rattle.std.specs.List.{AllByRecursion}
use Rattle.std.proofs.lemmas.List.{map-append}
use Rattle.art_nodes.proofs.Common.{Name}
use Rattle.art_nodes.specs.declared.leaf.LeafNode.{LeafNode}
use Rattle.art_arena.proofs.Common.{IsIn, Arena, node_at, links_at, Cell, IsSubtree, IsTreeBeside, Shape, LeafAt, name_of, leaves, pairs_of, key_of, Step, steps_of, nodes-part, nodes-subtree, in_middle, all_at, in_unmap}
use Rattle.art_operations.proofs.Terms.{HasKey, overlaps, overlapping, AreRemoved, IsExact, IsOverwrittenBeside, IsPrefixPoint, root_at, removed_by, HasPairsBeside, CanPut, CanPutOver, HasPutOver, pair_in, PrefixInsertResult, Done, PrefixInsert, IsDone}
use Rattle.art_operations.specs.declared.prefix_insert.point.PrefixInsertPoint.{PrefixInsertPoint}
use Rattle.art_operations.specs.declared.prefix_insert.point.PrefixInsertPoint.TheVariants as at
use Rattle.art_operations.proofs.HeldPairs.{stored-exact}
use Rattle.art_operations.proofs.LeafPairs.{leaf_pair, pairs_ascend, held_leaf}
use Rattle.art_operations.proofs.NotStored.{not-in-way}
use Rattle.art_operations.proofs.Overlaps.{insert_over}

-- how many pairs are no more
pub how_many : {K V : Type 0} (gone : List (K × V)) (result : PrefixInsertResult K V) → AreRemoved gone result.insert_result.existing_leaf result.leafs_removed → removed_by result ≡ length gone
how_many {K = K} {V = V} gone result removed = number result.insert_result.existing_leaf removed
  where
    number : (was : Option (LeafNode K V)) → AreRemoved gone was result.leafs_removed → cond (is_some was) 1 result.leafs_removed ≡ length gone
    number None e = e.0
    number (Some was) e = sym (ap length e.1)

-- where there was no pair, none is removed
pub none-removed : {K V : Type 0} (old : Option (LeafNode K V)) → pair_in old ≡ [] → AreRemoved [] old 0
none-removed None e = (refl, λ one. omega (arith, one))
none-removed (Some leaf) e = absurd (cc)

module _ {K V : Type 0} (bytes : K → List ℕ) (P : ℕ) where
  pair_overlap : (key : List ℕ) (ls : List (LeafAt K V)) → AllByRecursion (λ l. overlaps key (bytes l.key) ≡ true) ls → AllByRecursion (λ p. overlaps key (key_of bytes p) ≡ true) (pairs_of ls)
  pair_overlap key [] h = tt
  pair_overlap key (l ∷ ls) h = (h.0, pair_overlap key ls h.1)

  -- a pair that took the place of others at a point
  pub put-over-at : {rest : List (Name × Cell K V)} (old new : Arena K V) (point : PrefixInsertPoint) (key : K) (value : V) (pairs : List (K × V)) (has : CanPutOver bytes P old (Some point) (bytes key) pairs rest) (last : List Step) (result : PrefixInsertResult K V)
      → IsOverwrittenBeside bytes P new rest has.shape last key value result → HasPutOver bytes P new key value result pairs rest
  put-over-at old new point key value pairs has last result is =
      let leaf : LeafAt K V = record { slot = result.insert_result.leaf_node_ptr; key = key; value = value } in
      let new_is : pairs_of (leaves is.shape) ≡ pairs_of is.front ++ (key, value) ∷ pairs_of is.back = ap pairs_of is.are ∙ map-append leaf_pair is.front (leaf ∷ is.back) in
      let old_is : pairs ≡ pairs_of is.front ++ (pairs_of is.block ++ pairs_of is.back) =
      sym has.pairs_are ∙ ap pairs_of is.were ∙ map-append leaf_pair is.front (is.block ++ is.back) ∙ ap (λ ps. pairs_of is.front ++ ps) (map-append leaf_pair is.block is.back) in
      let h = rw new_is at (pairs_ascend bytes is.shape is.is_tree.nodes.under) in
      let put = insert_over (key_of bytes) (key, value) (pairs_of is.front) (pairs_of is.block) (pairs_of is.back) h (pair_overlap (bytes key) is.block is.overlap) in
      let told = rw (sym old_is) at put in
      record {
        has = (is.shape, is.is_tree, new_is ∙ told.new_is);
        removed = subst (λ gone. AreRemoved gone result.insert_result.existing_leaf result.leafs_removed) told.were is.removed;
        leaf = held_leaf P (node_at new) is.shape leaf (subst (IsIn leaf) (sym is.are) (in_middle (λ (m : LeafAt K V). bytes m.key) is.front leaf is.back)) (nodes-part bytes P (node_at new) result.insert_result.new_root is.shape is.is_tree.nodes).held;
      }

  -- where a pair has the key, the point is its leaf
  pub stored-over : {rest : List (Name × Cell K V)} (old : Arena K V) (point : PrefixInsertPoint) (key : List ℕ) (pairs : List (K × V)) → CanPutOver bytes P old (Some point) key pairs rest → HasKey (key_of bytes) key pairs → IsExact point
  stored-over {rest} old (at.InsertPoint point) key pairs has stored =
      let here : CanPut bytes P old (Some point) key pairs rest = record { shape = has.shape; is_tree = has.is_tree; place = has.place; pairs_are = has.pairs_are } in
      stored-exact bytes P old point key pairs here stored
  stored-over old (at.OverwritePoint point) key pairs has (x, i, same) =
      let back = in_unmap leaf_pair x (leaves has.shape) (subst (IsIn x) (sym has.pairs_are) i) in
      let others = not-in-way bytes key has.shape point.root point.overwrite_point (steps_of point.path) has.place in
      absurd (all_at (λ (l : LeafAt K V). bytes l.key ≢ key) back.0 (leaves has.shape) others back.1 (ap (key_of bytes) back.2 ∙ same))

  pub named-root : (key : List ℕ) (s : Shape K V) (point : PrefixInsertPoint) → IsPrefixPoint bytes key s point → name_of s ≡ root_at point
  named-root key s (at.InsertPoint point) is = is.named
  named-root key s (at.OverwritePoint point) is = is.named

  -- the point that was found is one for this key
  pub placed-over : (old : Arena K V) (rest : List (Name × Cell K V)) (root : Option Name) (top : Name) (key : List ℕ) (pairs : List (K × V)) (point : PrefixInsertPoint) → root ≡ Some top → HasPairsBeside bytes P old root pairs rest
      → ((s : Shape K V) → IsSubtree bytes P (node_at old) top [] s → IsPrefixPoint bytes key s point) → CanPutOver bytes P old (Some point) key pairs rest
  placed-over old rest root top key pairs point is has found =
      let below : HasPairsBeside bytes P old (Some top) pairs rest = subst (λ r. HasPairsBeside bytes P old r pairs rest) is has in
      let here = found below.0 (nodes-subtree bytes P (node_at old) top below.0 below.1.nodes) in
      record {
        shape = below.0;
        is_tree = subst (λ n. IsTreeBeside bytes P (node_at old) n (links_at old) rest below.0) (sym below.1.nodes.named ∙ named-root key below.0 point here) below.1;
        place = here;
        pairs_are = below.2;
      }

  -- what an arena has after a prefix insertion
  pub done-over : (arena : Arena K V) (pairs : List (K × V)) (key : K) (value : V) (put : PrefixInsertResult K V) (n : ℕ) → HasPutOver bytes P arena key value put pairs [] → n ≡ removed_by put
      → IsDone bytes P arena pairs (PrefixInsert key value) (record { root = Some put.insert_result.new_root; answer = Done n })
  done-over arena pairs key value put n has counted = (counted ∙ how_many (overlapping (key_of bytes) (bytes key) pairs) put has.removed, has.has)
