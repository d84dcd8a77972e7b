-- What a map's nodes have, before and after a call.
use Rattle.std.proofs.Common.{◌≡◌, ℕ, Bool, true, false, cond, not, bytes_eq, List, [], ◌∷◌, ◌++◌, length, Option, Some, None, IsSome, Ok, Err, IsOk, Result, refl, sym, ap, subst, ◌∙◌, arith, ◌≤◌, inl, inr}
use Rattle.std.specs.List.{AllByRecursion}
use Rattle.std.specs.Map.{lookup, lookup_entry, set_value}
use Rattle.std.proofs.lemmas.List.{append-nil, length-map}
use Rattle.art_bytes.proofs.Common.{BeginsWith}
use Rattle.art_nodes.proofs.Common.{Name}
use Rattle.art_nodes.specs.declared.leaf.LeafNode.{LeafNode}
use Rattle.art_arena.proofs.Common.{Arena, held_at, node_at, links_at, SameNodes, pair, leaf_name, leaf_where, with_leaf_value, first_slot, last_slot, times, IsList, Shape, LeafAt, leaves, pairs_of, key_of, Stores, StoresBelow, StoresOnly, IsIn, is_before, put_in_order, AscendsByKey}
use Rattle.art_arena.proofs.Common.{cell-some, nodes-subtree, in_middle, all_at, all_append, all_left, all_right, tree-list}
use Rattle.art_arena.specs.declared.ends.End.{End}
use Rattle.art_arena.specs.declared.ends.End.TheVariants.{First, Last}
use Rattle.art_operations.proofs.Common.{HasKey, IsBlocked, without_key, overlapping, overlaps, removed_by, HasPairs, HasPut, HasPutOver, HasTaken, HasTakenEnd, IsAtEnd, IsPlaced, with_pair_put, with_pair_over, pair_in, held-some, pairs-same, nothing_taken, stored-free, leaf_pair}
use Rattle.art_operations.proofs.Common.{pairs_ascend, held_leaf, pairs-parts, written}
use Rattle.art_operations.specs.declared.insert.point.InsertPoint.{InsertPoint}
use Rattle.art_operations.specs.declared.delete.result.DeleteResult.{DeleteResult}
use Rattle.art_operations.specs.declared.insert.result.InsertResult.{InsertResult}
use Rattle.art_operations.specs.declared.prefix_insert.result.PrefixInsertResult.{PrefixInsertResult}
use Rattle.art_walks.proofs.Common.{all-filter, Ends, IsCounted}
use Rattle.art_operations.proofs.PutOver.{how_many}
use Rattle.art_map.proofs.Terms.{contents, pairs_from, IsMap, has_bytes, first_item, last_item, option_value, entry_in, IsAt, IsFound, IsWalkOf}
use Rattle.art_map.proofs.ItemChanges.{all-in}
use Rattle.art_map.proofs.Below.{tree-pairs, has-seen, has-there}
use Rattle.art_map.proofs.LookedUp.{key_test, EndAt, first-end, last-end, first-at, none-at, entry-at, set-at, same-place, entry-first, lookup-value}

-- a walk over pairs is a run of as many
pub record Counted {K V : Type 0} (arena : Arena K V) (ends : Ends) (pairs : List (K × V)) (len : ℕ) : Type 0 where
  pub run : IsCounted arena ends len
  pub pairs_are : pairs_of run.leaves ≡ pairs

pub as-counted : {K V : Type 0} (arena : Arena K V) (ends : Ends) (pairs : List (K × V)) (len : ℕ) → len ≡ length pairs → IsWalkOf arena ends pairs → Counted arena ends pairs len
as-counted arena ends pairs len e walk = record {
  run = record { leaves = walk.run.leaves; walk = walk.run.walk; stored = walk.run.stored; len_is = e ∙ walk.run.len_is };
  pairs_are = walk.pairs_are;
}

module _ {K V : Type 0} (is_key : K → Type 0) where
  -- each key of these pairs is one
  abbrev pub AreKeys : List (K × V) → Type 0
  AreKeys pairs = AllByRecursion (λ p. is_key p.0) pairs

  pub keys-put : (key : K × V → List ℕ) (p : K × V) (pairs : List (K × V)) → is_key p.0 → AreKeys pairs → AreKeys (put_in_order key p pairs)
  keys-put key p [] one all = (one, tt)
  keys-put key p (q ∷ qs) one all = elim (is_before (key p) (key q)) as (λ b. AreKeys (cond b (p ∷ q ∷ qs) (q ∷ put_in_order key p qs))) [
    | true ↦ (one, all)
    | false ↦ (all.0, keys-put key p qs one all.1)
  ]

  pub keys-without : (key : K × V → List ℕ) (k : List ℕ) (pairs : List (K × V)) → AreKeys pairs → AreKeys (without_key key k pairs)
  keys-without key k pairs all = all-filter (λ q. is_key q.0) (λ q. not (bytes_eq (key q) k)) pairs all

  pub keys-end : (end : End) (p : K × V) (rest pairs : List (K × V)) → IsAtEnd end p rest pairs → AreKeys pairs → AreKeys rest
  keys-end First p rest pairs at all = (subst AreKeys at all).1
  keys-end Last p rest pairs at all = all_left (λ q. is_key q.0) rest (p ∷ []) (subst AreKeys at all)

module _ {K V : Type 0} (bytes : K → List ℕ) where
  -- no pair blocks a key, where no key of its type is a front of another
  pub none-blocks : (is_key : K → Type 0) → ((k l : K) → is_key k → is_key l → BeginsWith (bytes k) (bytes l) → bytes k ≡ bytes l) → (pairs : List (K × V)) → AreKeys is_key pairs → (key : K) → is_key key
      → IsBlocked (key_of bytes) (bytes key) pairs → ⊥
  none-blocks is_key law pairs keys key one (p, i, c) =
      let other = all_at (λ (q : K × V). is_key q.0) p pairs keys i in
      elim c.1 [
        | inl ahead ↦ c.0 (law key p.0 one other ahead)
        | inr following ↦ c.0 (sym (law p.0 key other one following))
      ]

  -- a place is found for a key that a pair has
  pub stored-placed : {E : Type 0} (P : ℕ) (arena : Arena K V) (pairs : List (K × V)) → AscendsByKey (key_of bytes) pairs → (key : List ℕ) (result : Result (Option InsertPoint) E) → IsPlaced bytes P arena key result pairs [] → HasKey (key_of bytes) key pairs → IsOk result
  stored-placed P arena pairs up key (Ok place) placed has = refl
  stored-placed P arena pairs up key (Err e) blocked has = absurd (stored-free (key_of bytes) pairs up key has blocked)

leaf-entry : {K V : Type 0} (o : Option (LeafNode K V)) → entry_in o ≡ first_item (pair_in o)
leaf-entry None = refl
leaf-entry (Some leaf) = refl

module _ {K V : Type 0} (bytes : K → List ℕ) (is_key : K → Type 0) (P : ℕ) where
  -- an arena that has pairs is a map's
  pub make : (arena : Arena K V) (root : Option Name) (pairs : List (K × V)) → HasPairs bytes P arena root pairs → AreKeys is_key pairs → IsMap bytes is_key P arena root
  make arena root pairs has keys = record {
    has = has-there bytes P arena root pairs has;
    keys = subst (AreKeys is_key) (sym (has-seen bytes P arena root pairs has)) keys;
  }

  module _ (old : Arena K V) (root : Option Name) (map : IsMap bytes is_key P old root) where
    abbrev the_pairs : List (K × V)
    the_pairs = pairs_from old root

    -- with the same nodes it is the same map
    pub same-map : (new : Arena K V) → SameNodes old new → IsMap bytes is_key P new root
    same-map new same = make new root the_pairs (pairs-same bytes P old new same root the_pairs map.has) map.keys

    pub same-pairs : (new : Arena K V) → SameNodes old new → pairs_from new root ≡ the_pairs
    same-pairs new same = has-seen bytes P new root the_pairs (pairs-same bytes P old new same root the_pairs map.has)

    -- with a pair more
    pub put-map : (new : Arena K V) (key : K) (value : V) (result : InsertResult K V) → is_key key → HasPut bytes P new key value result the_pairs [] → IsMap bytes is_key P new (Some result.new_root)
    put-map new key value result one has =
        make new (Some result.new_root) (with_pair_put bytes key value the_pairs) has.has (keys-put is_key (key_of bytes) (key, value) _ one (keys-without is_key (key_of bytes) (bytes key) the_pairs map.keys))

    -- the pair that was there
    pub put-entry : (new : Arena K V) (key : K) (value : V) (result : InsertResult K V) → HasPut bytes P new key value result the_pairs [] → entry_in result.existing_leaf ≡ lookup_entry (has_bytes bytes (bytes key)) the_pairs
    put-entry new key value result has = leaf-entry result.existing_leaf ∙ ap first_item has.old ∙ sym (entry-first bytes (bytes key) the_pairs)

    pub put-value : (new : Arena K V) (key : K) (value : V) (result : InsertResult K V) → HasPut bytes P new key value result the_pairs [] → option_value (entry_in result.existing_leaf) ≡ lookup (has_bytes bytes (bytes key)) the_pairs
    put-value new key value result has =
        sym (lookup-value (has_bytes bytes (bytes key)) the_pairs (entry_in result.existing_leaf) (sym (put-entry new key value result has)))

    pub put-pairs : (new : Arena K V) (key : K) (value : V) (result : InsertResult K V) → HasPut bytes P new key value result the_pairs [] → pairs_from new (Some result.new_root) ≡ with_pair_put bytes key value the_pairs
    put-pairs new key value result has = has-seen bytes P new (Some result.new_root) _ has.has

    -- with a pair in the place of those whose keys overlap its key
    pub over-map : (new : Arena K V) (key : K) (value : V) (result : PrefixInsertResult K V) → is_key key → HasPutOver bytes P new key value result the_pairs [] → IsMap bytes is_key P new (Some result.insert_result.new_root)
    over-map new key value result one has =
        make new (Some result.insert_result.new_root) (with_pair_over bytes key value the_pairs) has.has
        (keys-put is_key (key_of bytes) (key, value) _ one (all-filter (λ q. is_key q.0) (λ q. not (overlaps (bytes key) (key_of bytes q))) the_pairs map.keys))

    pub over-pairs : (new : Arena K V) (key : K) (value : V) (result : PrefixInsertResult K V) → HasPutOver bytes P new key value result the_pairs [] → pairs_from new (Some result.insert_result.new_root) ≡ with_pair_over bytes key value the_pairs
    over-pairs new key value result has = has-seen bytes P new (Some result.insert_result.new_root) _ has.has

    pub over-count : (new : Arena K V) (key : K) (value : V) (result : PrefixInsertResult K V) → HasPutOver bytes P new key value result the_pairs [] → removed_by result ≡ length (overlapping (key_of bytes) (bytes key) the_pairs)
    over-count new key value result has = how_many (overlapping (key_of bytes) (bytes key) the_pairs) result has.removed

    -- with a pair less
    pub taken-map : (new : Arena K V) (key : List ℕ) (deleted : DeleteResult K V) → HasTaken bytes P new root key (Some deleted) the_pairs [] → IsMap bytes is_key P new deleted.new_root
    taken-map new key deleted has = make new deleted.new_root (without_key (key_of bytes) key the_pairs) has.1 (keys-without is_key (key_of bytes) key the_pairs map.keys)

    pub taken-pairs : (new : Arena K V) (key : List ℕ) (deleted : DeleteResult K V) → HasTaken bytes P new root key (Some deleted) the_pairs [] → pairs_from new deleted.new_root ≡ without_key (key_of bytes) key the_pairs
    taken-pairs new key deleted has = has-seen bytes P new deleted.new_root _ has.1

    pub taken-entry : (new : Arena K V) (key : List ℕ) (deleted : DeleteResult K V) → HasTaken bytes P new root key (Some deleted) the_pairs [] → lookup_entry (has_bytes bytes key) the_pairs ≡ Some (deleted.deleted_leaf.key, deleted.deleted_leaf.value)
    taken-entry new key deleted has = entry-first bytes key the_pairs ∙ ap first_item has.0

    -- with the pair at an end less
    pub end-map : (new : Arena K V) (end : End) (deleted : DeleteResult K V) → HasTakenEnd bytes P new root end (Some deleted) the_pairs [] → IsMap bytes is_key P new deleted.new_root
    end-map new end deleted (rest, at, has) = make new deleted.new_root rest has (keys-end is_key end (deleted.deleted_leaf.key, deleted.deleted_leaf.value) rest the_pairs at map.keys)

    pub end-pairs : (new : Arena K V) (end : End) (deleted : DeleteResult K V) → HasTakenEnd bytes P new root end (Some deleted) the_pairs [] → (k : K) (v : V) → k ≡ deleted.deleted_leaf.key → v ≡ deleted.deleted_leaf.value
        → IsAtEnd end (k, v) (pairs_from new deleted.new_root) the_pairs
    end-pairs new end deleted (rest, at, has) k v key value = rw (has-seen bytes P new deleted.new_root rest has, key, value) at

    pub end-none-map : (new : Arena K V) (end : End) → HasTakenEnd bytes P new root end None the_pairs [] → IsMap bytes is_key P new root
    end-none-map new end has = make new root the_pairs has.1 map.keys

    pub end-none-pairs : (new : Arena K V) (end : End) → HasTakenEnd bytes P new root end None the_pairs [] → pairs_from new root ≡ []
    end-none-pairs new end has = has-seen bytes P new root the_pairs has.1 ∙ has.0

    -- or with none to be taken
    pub none-map : (new : Arena K V) (key : List ℕ) → HasTaken bytes P new root key None the_pairs [] → IsMap bytes is_key P new root
    none-map new key has = make new root the_pairs has.1 map.keys

    pub none-pairs : (new : Arena K V) (key : List ℕ) → HasTaken bytes P new root key None the_pairs [] → pairs_from new root ≡ without_key (key_of bytes) key the_pairs
    none-pairs new key has = has-seen bytes P new root the_pairs has.1 ∙ sym (nothing_taken (key_of bytes) key the_pairs has.0)

    pub none-entry : (new : Arena K V) (key : List ℕ) → HasTaken bytes P new root key None the_pairs [] → lookup_entry (has_bytes bytes key) the_pairs ≡ None
    none-entry new key has = entry-first bytes key the_pairs ∙ ap first_item has.0

    -- its keys ascend
    pub ascending-map : AscendsByKey (key_of bytes) the_pairs
    ascending-map = go root map.has
      where
        go : (r : Option Name) → HasPairs bytes P old r the_pairs → AscendsByKey (key_of bytes) the_pairs
        go None has = rw has.0 tt
        go (Some top) (s, tree, e) = subst (AscendsByKey (key_of bytes)) e (pairs_ascend bytes s tree.nodes.under)

  module _ (old : Arena K V) where
    -- with another value in a leaf it is a map
    pub written-map : (root : Option Name) → IsMap bytes is_key P old root → (slot : ℕ) → IsSome (held_at old (leaf_name slot)) → (w : V) → IsMap bytes is_key P (with_leaf_value old slot w) root
    written-map None map slot there w = let none = map.has.1 (leaf_name slot) in let some = cell-some (held_at old (leaf_name slot)) there in absurd (cc)
    written-map (Some root) map slot there w =
        let s = map.has.0 in
        let tree = map.has.1 in
        let is = written bytes P old root s tree slot there w in
        let was : pairs_from old (Some root) ≡ pairs_of is.front ++ (is.key, is.value) ∷ pairs_of is.back = sym map.has.2 ∙ ap pairs_of is.had ∙ pairs-parts bytes is.front _ is.back in
        let keys = subst (AreKeys is_key) was map.keys in
        let parts = all_right (λ p. is_key p.0) (pairs_of is.front) ((is.key, is.value) ∷ pairs_of is.back) keys in
        make (with_leaf_value old slot w) (Some root) (pairs_of is.front ++ (is.key, w) ∷ pairs_of is.back) (is.shape, is.is_tree, ap pairs_of is.has ∙ pairs-parts bytes is.front _ is.back)
        (all_append (λ p. is_key p.0) (pairs_of is.front) ((is.key, w) ∷ pairs_of is.back) (all_left (λ p. is_key p.0) (pairs_of is.front) ((is.key, is.value) ∷ pairs_of is.back) keys) (parts.0, parts.1))

    module _ (root : Name) (test : List ℕ → Bool) (s : Shape K V) (tree : StoresOnly bytes P old root s) where
      seen : pairs_from old (Some root) ≡ pairs_of (leaves s)
      seen = tree-pairs bytes P old root s tree

      pub found : (result : Option ℕ) → result ≡ leaf_where bytes test (leaves s) → IsFound (key_test bytes test) (contents old (Some root)) result
      found None e = rw seen (none-at bytes test (leaves s) (sym e))
      found (Some slot) e =
          let first = first-at bytes test (leaves s) slot (sym e) in
          let among : IsIn first.leaf (leaves s) = subst (IsIn first.leaf) (sym first.is) (in_middle (λ (m : LeafAt K V). bytes m.key) first.front first.leaf first.back) in
          let held : node_at old (leaf_name slot) ≡ Some (pair first.leaf.key first.leaf.value) =
          subst (λ n. node_at old (leaf_name n) ≡ Some (pair first.leaf.key first.leaf.value)) first.slot_is (held_leaf P (node_at old) s first.leaf among tree.nodes.holds.held) in
          let there = held-some (held_at old (leaf_name slot)) _ held in (
            (first.leaf.key, first.leaf.value),
            held,
            seen_entry first.front first.leaf first.back first.is (entry-at bytes test first.front first.leaf first.back first.fail first.passes),
            λ w.
                let is = written bytes P old root s tree slot there w in
                let once : times first.leaf.slot (first.front ++ first.leaf ∷ first.back) ≤ 1 = rw (← first.is, first.slot_is) (omega (arith, is.one)) in
                let same = same-place first.front first.leaf first.back is.front (record { slot = slot; key = is.key; value = is.value }) is.back (sym first.is ∙ is.had) first.slot_is once in
                tree-pairs bytes P (with_leaf_value old slot w) root is.shape is.is_tree
                ∙ ap pairs_of is.has
                ∙ sym (written_pairs w first.front first.leaf first.back is.front is.key is.value is.back slot same.0 same.1 same.2)
                ∙ sym (set-at bytes test first.front first.leaf first.back w first.fail first.passes)
                ∙ ap (λ ps. set_value (key_test bytes test) ps w) (sym (seen ∙ ap pairs_of first.is)),
          )
        where
          seen_entry : (front : List (LeafAt K V)) (l : LeafAt K V) (back : List (LeafAt K V)) → leaves s ≡ front ++ l ∷ back → lookup_entry (key_test bytes test) (pairs_of (front ++ l ∷ back)) ≡ Some (l.key, l.value)
              → lookup_entry (key_test bytes test) (pairs_from old (Some root)) ≡ Some (l.key, l.value)
          seen_entry front l back is e = ap (lookup_entry (key_test bytes test)) (seen ∙ ap pairs_of is) ∙ e

          written_pairs : (w : V) (front : List (LeafAt K V)) (l : LeafAt K V) (back others : List (LeafAt K V)) (k : K) (v : V) (rest : List (LeafAt K V)) (slot : ℕ) → front ≡ others → l ≡ record { slot = slot; key = k; value = v } → back ≡ rest
              → pairs_of (front ++ record { slot = l.slot; key = l.key; value = w } ∷ back) ≡ pairs_of (others ++ record { slot = slot; key = k; value = w } ∷ rest)
          written_pairs w front l back others k v rest slot e f g = rw (e, f, g) refl

    -- what a look-up finds
    pub looked-up : (root : Option Name) (top : Name) → root ≡ Some top → IsMap bytes is_key P old root → (test : List ℕ → Bool) (result : Option ℕ) → ((s : Shape K V) → Stores bytes P old top s → result ≡ leaf_where bytes test (leaves s))
        → IsFound (key_test bytes test) (contents old root) result
    looked-up root top is map test result answer =
        let has : HasPairs bytes P old (Some top) (pairs_from old root) = subst (λ r. HasPairs bytes P old r (pairs_from old root)) is map.has in
        subst (λ r. IsFound (key_test bytes test) (contents old r) result) (sym is) (found top test has.0 has.1 result (answer has.0 (nodes-subtree bytes P (node_at old) top has.0 has.1.nodes)))

    -- what stands at an end
    at-end : (root : Name) (s : Shape K V) (tree : StoresOnly bytes P old root s) (pick : List (K × V) → Option (K × V)) (slot : ℕ) → EndAt (pick (pairs_of (leaves s))) (leaves s) slot → IsAt (pick (pairs_from old (Some root))) (contents old (Some root)) (Some slot)
    at-end root s tree pick slot end = (
      (end.leaf.key, end.leaf.value),
      subst (λ n. node_at old (leaf_name n) ≡ Some (pair end.leaf.key end.leaf.value)) end.slot_is (held_leaf P (node_at old) s end.leaf end.among tree.nodes.holds.held),
      ap pick (tree-pairs bytes P old root s tree) ∙ end.wanted_is,
    )

    module _ (root : Option Name) (top : Name) (is : root ≡ Some top) (map : IsMap bytes is_key P old root) (slot : ℕ) where
      has_top : HasPairs bytes P old (Some top) (pairs_from old root)
      has_top = subst (λ r. HasPairs bytes P old r (pairs_from old root)) is map.has

      pub first-found : ((path : List ℕ) (s : Shape K V) → StoresBelow bytes P old top path s → first_slot (leaves s) None ≡ Some slot) → IsAt (first_item (pairs_from old root)) (contents old root) (Some slot)
      first-found answer =
          subst (λ r. IsAt (first_item (pairs_from old r)) (contents old r) (Some slot)) (sym is)
          (at-end top has_top.0 has_top.1 first_item slot (first-end (leaves has_top.0) slot (answer [] has_top.0 (nodes-subtree bytes P (node_at old) top has_top.0 has_top.1.nodes))))

      pub last-found : ((path : List ℕ) (s : Shape K V) → StoresBelow bytes P old top path s → last_slot None (leaves s) ≡ Some slot) → IsAt (last_item (pairs_from old root)) (contents old root) (Some slot)
      last-found answer =
          subst (λ r. IsAt (last_item (pairs_from old r)) (contents old r) (Some slot)) (sym is)
          (at-end top has_top.0 has_top.1 last_item slot (last-end (leaves has_top.0) slot (answer [] has_top.0 (nodes-subtree bytes P (node_at old) top has_top.0 has_top.1.nodes))))

      -- and the walk over all
      pub walk-found : (least most : ℕ) → ((path : List ℕ) (s : Shape K V) → StoresBelow bytes P old top path s → first_slot (leaves s) None ≡ Some least) → ((path : List ℕ) (s : Shape K V) → StoresBelow bytes P old top path s → last_slot None (leaves s) ≡ Some most)
          → IsWalkOf old (Some (least, most)) (pairs_from old root)
      walk-found least most first last =
          let s = has_top.0 in
          let tree = has_top.1 in
          let below = nodes-subtree bytes P (node_at old) top s tree.nodes in
          record {
            run = record {
              leaves = leaves s;
              walk = record { xs = []; zs = []; list = subst (IsList (links_at old)) (sym (append-nil (leaves s))) (tree-list bytes P (node_at old) top (links_at old) s tree); ends_are = (first [] s below, last [] s below) };
              stored = all-in (λ (l : LeafAt K V). node_at old (leaf_name l.slot) ≡ Some (pair l.key l.value)) (leaves s) (λ l i. held_leaf P (node_at old) s l i tree.nodes.holds.held);
              len_is = ap length (sym has_top.2) ∙ length-map (leaves s) leaf_pair;
            };
            pairs_are = has_top.2;
          }

    -- the empty walk
    pub walk-none : (root : Option Name) → root ≡ None → IsMap bytes is_key P old root → IsWalkOf old None (pairs_from old root)
    walk-none root is map = subst (λ r. IsWalkOf old None (pairs_from old r)) (sym is) (record {
      run = record { leaves = []; walk = record { xs = []; zs = []; list = record { linked = tt; once = λ n. omega arith }; ends_are = refl }; stored = tt; len_is = refl };
      pairs_are = refl;
    })
