-- A leaf in the place of a part of a tree, step by step: it is stored, linked, pointed at, and the part is freed.
use Rattle.std.proofs.Common.{◌≡◌, ℕ, ◌+◌, ◌≤◌, true, List, [], ◌∷◌, ◌++◌, Option, Some, None, refl, sym, ap, subst, ◌∙◌, arith, append_assoc}
use Rattle.art_nodes.proofs.Common.{Name}
use Rattle.art_nodes.specs.declared.leaf.LeafNode.{LeafNode}
use Rattle.art_arena.proofs.Common.{Arena, cell_of, links_of, held_at, node_at, links_at, Allocates, KeepsNodes, SameCells, Cell, pair, leaf_name, copies, Holds, UpdatesAt, plug, path_to, root_of, leaves_before, leaves_after, cells_before, cells_after, AreLinked, IsBeside}
use Rattle.art_arena.proofs.Common.{KeepsLinksOutside, times, IsNodesBeside, IsSubtree, IsTreeBeside, Shape, leaf_at, inner_at, LeafAt, name_of, leaves, pairs_of, cells, width, IsUnder, Step, all_left, all_weaker, keeps-held, copies-append, Holds-add, Holds-remove, Holds-same, Holds-turn}
use Rattle.art_arena.proofs.Common.{cells-plug, leaves-plug, name_of-plug, IsUnder-plug, outside-apart, AreLinked-kept, nodes-subtree, IsNodesBeside-plug, unplugged, new-beside, times-leaves, place-subtree, nodes-update, links-update}
use Rattle.art_operations.proofs.Terms.{HoldsBeside, KeepsAllBut, IsInsertedBeside, IsPutOrReplaced, overlaps, AreRemoved, IsOverwrittenBeside, IsInTheWay, StandsAround, lone_leaf, InsertResult, NoChange}
use Rattle.art_operations.proofs.FreedSizes.{at_most_one}
use Rattle.art_operations.proofs.Lengthened.{kind_not_leaf}
use Rattle.art_operations.proofs.Overlaps.{overlaps_same, overlaps_conflict}

module _ {K V : Type 0} (bytes : K → List ℕ) (P : ℕ) where
  -- a leaf is taken out from beside other nodes
  pub freed_leaf : (old new : Arena K V) (part : Name) (slot : ℕ) (path : List ℕ) (s : Shape K V) (rest : List (Name × Cell K V)) → IsUnder bytes path s → HoldsBeside P old part s rest → part ≡ leaf_name slot
      → UpdatesAt (held_at old) (held_at new) (leaf_name slot) None → Holds (node_at new) rest
  freed_leaf old new part slot path (leaf_at l k v) rest under holds is update =
      let same : leaf_name l ≡ leaf_name slot = holds.named ∙ is in
      Holds-remove (node_at old) (node_at new) (leaf_name l) (pair k v) [] rest
      (subst (λ n. UpdatesAt (node_at old) (node_at new) n None) (sym same) (nodes-update old new (leaf_name slot) None update)) holds.holds
  freed_leaf old new part slot path (inner_at n prefix kids) rest under holds is update =
      absurd (kind_not_leaf n (width kids) under.0 (ap (λ (m : Name). m.kind) (holds.named ∙ is)))

  module _ {rest : List (Name × Cell K V)} (start : Arena K V) (root : Name) (s : Shape K V) (tree : IsTreeBeside bytes P (node_at start) root (links_at start) rest s) (key : K) (value : V) (name : Name) (last : List Step) (way : IsInTheWay bytes (bytes key) s root name last) where
    pub part_stands : IsSubtree bytes P (node_at start) name (path_to way.ctx) way.part
    part_stands = subst (λ n. IsSubtree bytes P (node_at start) n (path_to way.ctx) way.part) way.here (place-subtree bytes P (node_at start) root s way.ctx way.part (nodes-subtree bytes P (node_at start) root s tree.nodes) way.toward.place)

    leaves_are : leaves s ≡ leaves_before way.ctx ++ (leaves way.part ++ leaves_after way.ctx)
    leaves_are = ap leaves way.toward.place.is ∙ leaves-plug way.ctx way.part

    root_named : root_of way.ctx name ≡ root
    root_named = ap (root_of way.ctx) (sym way.here) ∙ sym (name_of-plug way.ctx way.part) ∙ sym (ap name_of way.toward.place.is) ∙ tree.nodes.named

    module _ (leaf : ℕ) where
      -- the cells after those of the part
      abbrev following : List (Name × Cell K V)
      following = (leaf_name leaf, pair key value) ∷ (cells_after P way.ctx ++ rest)

      -- the cells around the new leaf, its own among them
      abbrev pub around : List (Name × Cell K V)
      around = cells_before P way.ctx (leaf_name leaf) ++ following

      abbrev new_leaf : LeafAt K V
      new_leaf = record { slot = leaf; key = key; value = value }

      module _ (made : Arena K V) (stored : Allocates start made (leaf_name leaf) (lone_leaf key value)) where
        holds_made : Holds (node_at made) (cells_before P way.ctx name ++ (cells P way.part ++ following))
        holds_made =
            let before = cells_before P way.ctx name in
            let after = cells_after P way.ctx ++ rest in
            let apart = unplugged P (node_at start) rest way.ctx way.part (subst (λ w. Holds (node_at start) (rest ++ cells P w)) way.toward.place.is tree.nodes.holds) in
            let was : Holds (node_at start) ((before ++ cells P way.part) ++ after) =
            subst (Holds (node_at start)) (ap (λ n. cells_before P way.ctx n ++ (cells P way.part ++ after)) way.here ∙ sym (append_assoc before (cells P way.part) after)) apart in
            subst (Holds (node_at made)) (append_assoc before (cells P way.part) following)
            (Holds-add (node_at start) (node_at made) (leaf_name leaf) (pair key value) (before ++ cells P way.part) after
            (nodes-update start made (leaf_name leaf) (Some (lone_leaf key value)) stored.updates) (ap cell_of stored.vacant) was)

        -- the leaf stands beside the list of leaves
        pub stands_beside : IsBeside (links_at made) (leaves_before way.ctx ++ (leaves way.part ++ leaves_after way.ctx)) leaf
        stands_beside =
            subst (λ ls. IsBeside (links_at made) ls leaf) leaves_are
            (new-beside bytes P (node_at start) root (links_at start) (links_at made) s leaf _ tree (ap cell_of stored.vacant) (links-update start made leaf (Some (lone_leaf key value)) stored.updates))

        -- the part can be left
        pub part_left : (linked : Arena K V) → SameCells made linked → StandsAround bytes P (node_at linked) root way.ctx name (cells P way.part ++ following) last
        part_left linked same = record {
          around = way.toward.place.around;
          holds = Holds-same (node_at made) (node_at linked) same (cells_before P way.ctx name ++ (cells P way.part ++ following)) holds_made;
          steps = way.toward.steps;
          named = root_named;
        }

      module _ (moved : Arena K V) (there : Holds (node_at moved) (cells_before P way.ctx (leaf_name leaf) ++ (cells P way.part ++ following))) where
        -- the part stands beside the tree with the new leaf
        pub part_apart : HoldsBeside P moved name way.part around
        part_apart = record { named = way.here; holds = Holds-turn (node_at moved) [] (cells_before P way.ctx (leaf_name leaf)) (cells P way.part) following there }

        under : IsUnder bytes [] (plug way.ctx (leaf_at leaf key value))
        under = IsUnder-plug bytes way.ctx (leaf_at leaf key value) way.toward.place.around way.toward.begins

        -- how often a name stands in the cells around the part
        whole : (n : Name) → copies n (cells P way.part ++ around) ≡ copies n (cells P way.part) + (copies n (cells_before P way.ctx (leaf_name leaf) ++ (leaf_name leaf, pair key value) ∷ cells_after P way.ctx) + copies n rest)
        whole n =
            let before = cells_before P way.ctx (leaf_name leaf) in
            let after = cells_after P way.ctx in
            let cell : Name × Cell K V = (leaf_name leaf, pair key value) in
            omega (arith, copies-append n (cells P way.part) around, copies-append n before following, copies-append n before (cell ∷ after), copies-append n (cell ∷ after) rest)

        -- the leaves of the tree keep their links when the part is freed
        links_stay : (new : Arena K V) → KeepsAllBut (cells P way.part) moved new → (n : ℕ) → 1 ≤ times n (leaves_before way.ctx ++ new_leaf ∷ leaves_after way.ctx) → links_at new n ≡ links_at moved n
        links_stay new kept n among =
            let all = leaves-plug way.ctx (leaf_at leaf key value) in
            let held = cells-plug P way.ctx (leaf_at leaf key value) in
            let counted = sym (ap (times n) all) ∙ times-leaves bytes P n [] (plug way.ctx (leaf_at leaf key value)) under ∙ ap (copies (leaf_name n)) held in
            let once = at_most_one (node_at moved (leaf_name n)) _ (part_apart.holds.once (leaf_name n)) in
            ap links_of (kept (leaf_name n) (omega (arith, among, counted, once, whole (leaf_name n))))

        pub overwritten : (linked new : Arena K V) (new_root : Name) (was : Option (LeafNode K V)) (count : ℕ) → root_of way.ctx (leaf_name leaf) ≡ new_root
            → AreLinked (links_at linked) None (leaves_before way.ctx ++ new_leaf ∷ leaves_after way.ctx) None → ((n : ℕ) → links_at moved n ≡ links_at linked n)
            → Holds (node_at new) around → KeepsAllBut (cells P way.part) moved new → AreRemoved (pairs_of (leaves way.part)) was count
            → IsOverwrittenBeside bytes P new rest s last key value
            (record { insert_result = record { leaf_node_ptr = leaf; existing_leaf = was; new_root = new_root; parent_node_change = NoChange }; leafs_removed = count })
        overwritten linked new new_root was count named in_order same holds kept removed = record {
          shape = plug way.ctx (leaf_at leaf key value);
          is_tree = record {
            nodes = subst (λ r. IsNodesBeside bytes P (node_at new) r rest (plug way.ctx (leaf_at leaf key value))) named
                (IsNodesBeside-plug bytes P (node_at new) rest way.ctx (leaf_at leaf key value) holds way.toward.place.around way.toward.begins);
            linked = subst (λ ls. AreLinked (links_at new) None ls None) (sym (leaves-plug way.ctx (leaf_at leaf key value)))
                (AreLinked-kept (links_at linked) (links_at new) None (leaves_before way.ctx ++ new_leaf ∷ leaves_after way.ctx) None (λ n among. links_stay new kept n among ∙ same n) in_order);
          };
          front = leaves_before way.ctx;
          block = leaves way.part;
          back = leaves_after way.ctx;
          were = leaves_are;
          are = leaves-plug way.ctx (leaf_at leaf key value);
          overlap = all_weaker _ (λ (l : LeafAt K V). overlaps (bytes key) (bytes l.key) ≡ true) (λ l c. overlaps_conflict (bytes key) (bytes l.key) c) (leaves way.part) way.conflicts;
          removed = removed;
          place = record {
            ctx = way.ctx;
            key = key;
            value = value;
            place = record { is = refl; around = way.toward.place.around; under = way.toward.begins };
            steps = way.toward.steps;
          };
        }

        -- what stands beside the tree is kept, where the leaves of the new tree alone changed their links before
        pub others_stay : (made linked new : Arena K V) → Allocates start made (leaf_name leaf) (lone_leaf key value) → KeepsLinksOutside (links_at made) (links_at linked) (leaves_before way.ctx ++ new_leaf ∷ leaves_after way.ctx)
            → ((n : ℕ) → links_at moved n ≡ links_at linked n) → Holds (node_at new) around → KeepsAllBut (cells P way.part) moved new → KeepsNodes rest start new
        others_stay made linked new stored outside same holds kept =
            let held_of = λ (c : Name × Cell K V). node_at new c.0 ≡ Some c.1 in
            let tree_holds = IsNodesBeside-plug bytes P (node_at new) rest way.ctx (leaf_at leaf key value) holds way.toward.place.around way.toward.begins in
            keeps-held start new rest (all_left (λ (c : Name × Cell K V). node_at start c.0 ≡ Some c.1) rest (cells P s) tree.nodes.holds.held)
            (all_left held_of rest (cells P (plug way.ctx (leaf_at leaf key value))) tree_holds.holds.held)
            (λ n some.
            let counted = times-leaves bytes P n [] (plug way.ctx (leaf_at leaf key value)) under ∙ ap (copies (leaf_name n)) (cells-plug P way.ctx (leaf_at leaf key value)) in
            let once = at_most_one (node_at moved (leaf_name n)) _ (part_apart.holds.once (leaf_name n)) in
            let listed = ap (times n) (leaves-plug way.ctx (leaf_at leaf key value)) in
            let absent : times n (leaves_before way.ctx ++ new_leaf ∷ leaves_after way.ctx) ≡ 0 = omega (arith, some, counted, once, listed, whole (leaf_name n)) in
            let freed = kept (leaf_name n) (omega (arith, some, once, whole (leaf_name n))) in
            ap links_of freed ∙ same n ∙ outside n absent ∙ (links-update start made leaf _ stored.updates).others n (outside-apart n (leaves_before way.ctx) new_leaf (leaves_after way.ctx) absent))

  -- an insertion in which no part gives way
  pub inserted : {rest : List (Name × Cell K V)} (new : Arena K V) (s : Shape K V) (last : List Step) (key : K) (value : V) (result : InsertResult K V) → IsInsertedBeside bytes P new rest s last key value result
      → IsOverwrittenBeside bytes P new rest s last key value (record { insert_result = result; leafs_removed = 0 })
  inserted {rest} new s last key value result is = stored result.existing_leaf is.stored
    where
      stored : (was : Option (LeafNode K V)) → IsPutOrReplaced bytes (record { slot = result.leaf_node_ptr; key = key; value = value }) was (leaves s) (leaves is.shape)
          → IsOverwrittenBeside bytes P new rest s last key value (record { insert_result = record result { existing_leaf = was }; leafs_removed = 0 })
      stored None (front, back, old_is, new_is) = record {
        shape = is.shape;
        is_tree = is.is_tree;
        front = front;
        block = [];
        back = back;
        were = old_is;
        are = new_is;
        overlap = tt;
        removed = (refl, λ e. omega arith);
        place = is.place;
      }
      stored (Some was) (same, (front, back, old_is, new_is), previous, next) = record {
        shape = is.shape;
        is_tree = is.is_tree;
        front = front;
        block = record { slot = result.leaf_node_ptr; key = was.key; value = was.value } ∷ [];
        back = back;
        were = old_is;
        are = new_is;
        overlap = (overlaps_same (bytes key) (bytes was.key) same, tt);
        removed = (refl, refl, previous, next);
        place = is.place;
      }
