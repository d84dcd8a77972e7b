-- A pair that a builder takes: its leaf is stored after the last one, and then that one is passed.
use Rattle.std.proofs.Common.{◌≡◌, ℕ, List, [], ◌∷◌, ◌++◌, Option, None, Some, IsSome, take, refl, sym, ap, subst, ◌∙◌, inl, inr, arith, append_assoc, append-nil}
use Rattle.std.specs.List.{AllByRecursion}
use Rattle.std.proofs.lemmas.Bool.Decides.{eqb_tells}
use Rattle.art_bytes.proofs.Common.{IsBefore}
use Rattle.art_nodes.specs.declared.kind.NodeType.TheVariants.{Leaf}
use Rattle.art_arena.proofs.Common.{Arena, Allocates, SameNodes, WritesLinks, cell_of, leaf_held, links_of, node_at, links_at, SameLeaves, UsesRoomOf, Cell, leaf_name, pair, copies, Holds, UpdatesAt, AreLinked, Links, first_slot, last_slot, times, LeafAt, leaves_in, cells_in, pairs_of}
use Rattle.art_arena.proofs.Common.{key_of, AscendsByKey, Holds-add, Holds-same, copies-append, same_name_tells, times-append, last_slot-append, last-apart, empty-first, end_there, relink_end, some_of, AreLinked-frame, AreLinked-join, AreLinked-same, times-leaves_in, links-update}
use Rattle.art_arena.proofs.Common.{nodes-update, all_weaker, ascending_append}
use Rattle.art_operations.proofs.Terms.{Builds, BuildsTo, BuildsUpTo, HasLeavesOf, PartAt, Parted, TreeBuilder, Spine, HasStoredLast, IsListTo, CanPass, CanPassAt, RebuildsUpTo, Level, AreOpen, open_leaves, open_cells}
use Rattle.art_operations.proofs.Building.{all_leaves, after-all, last_leaf}
use Rattle.art_operations.proofs.FreedRuns.{times-copies}
use Rattle.art_operations.proofs.InnerRooms.{beside-leaf}
use Rattle.art_operations.proofs.LeafListsParted.{at_most_one}
use Rattle.art_operations.proofs.LeafPairs.{pairs-parts}

-- a leaf that isn't held is in no list
not-linked : {K V : Type 0} (links : ℕ → Option Links) (n : ℕ) (before : Option ℕ) (ls : List (LeafAt K V)) (after : Option ℕ) → AreLinked links before ls after → links n ≡ None → times n ls ≡ 0
not-linked links n before [] after linked none = refl
not-linked links n before (l ∷ rest) after linked none = elim (eqb_tells n l.slot) [
  | inl same ↦
      let both : ◌≡◌ {A = Option Links} None (Some (record { previous = before; next = first_slot rest after })) = sym none ∙ ap links same.1 ∙ linked.0 in
      absurd (cc)
  | inr other ↦
      let more = not-linked links n (Some l.slot) rest after linked.1 none in
      rw other.0 (omega (arith, more))
]

-- a leaf is stored after the last one of a list
module _ {K V : Type 0} (old stored : Arena K V) (last : Option ℕ) (slot : ℕ) (key : K) (value : V) (ls : List (LeafAt K V)) (to : IsListTo (links_at old) last ls)
    (allocates : Allocates old stored (leaf_name slot) (leaf_held (record { key = key; value = value; previous = last; next = None }))) where
  links : UpdatesAt (links_at old) (links_at stored) slot (Some (record { previous = last; next = None }))
  links = links-update old stored slot _ allocates.updates

  absent : times slot ls ≡ 0
  absent = not-linked (links_at old) slot None ls None to.list.linked (ap links_of allocates.vacant)

  still : AreLinked (links_at stored) None ls None
  still = AreLinked-frame (links_at old) (links_at stored) slot _ links None ls None absent to.list.linked

  cells-now : UpdatesAt (node_at old) (node_at stored) (leaf_name slot) (Some (pair key value))
  cells-now = nodes-update old stored (leaf_name slot) _ allocates.updates

  -- it is the first of all
  pub stored-first : last ≡ None → HasStoredLast old stored slot key value ls
  stored-first none = record {
    vacant = ap cell_of allocates.vacant;
    cells = cells-now;
    linked = subst (λ xs. AreLinked (links_at stored) None (xs ++ record { slot = slot; key = key; value = value } ∷ []) None) (sym (empty-first ls (to.last_is ∙ none)))
        (links.changed ∙ ap (λ p. Some (record { previous = p; next = None })) none, tt);
  }

  -- or the one before it is led to it
  module _ (end : ℕ) (some : last ≡ Some end) where
    pub end-held : IsSome (links_at stored end)
    end-held = end_there (links_at stored) ls end None (to.last_is ∙ some) still

    pub stored-after : (new : Arena K V) → ((was : Links) → links_at stored end ≡ Some was → WritesLinks stored new end (record was { next = Some slot })) → HasStoredLast old new slot key value ls
    stored-after new writes =
        let was = some_of (links_at stored end) end-held in
        let write = writes was.0 was.1 in
        let here : links_at new slot ≡ Some (record { previous = last_slot None ls; next = None }) =
        write.links.others slot (λ e. last-apart ls slot absent (to.last_is ∙ some ∙ ap Some (sym e))) ∙ links.changed ∙ ap (λ p. Some (record { previous = p; next = None })) (sym to.last_is) in
        record {
          vacant = ap cell_of allocates.vacant;
          cells = record { changed = write.nodes (leaf_name slot) ∙ cells-now.changed; others = λ n other. write.nodes n ∙ cells-now.others n other };
          linked = AreLinked-join (links_at new) None ls (record { slot = slot; key = key; value = value } ∷ []) None
              (relink_end (links_at stored) (links_at new) ls end None (Some slot) to.list.once (to.last_is ∙ some) still (λ w there. (writes w there).links)) (here, tt);
        }

-- no leaf is a list
pub no-list : {K V : Type 0} (arena : Arena K V) → IsListTo {K = K} {V = V} (links_at arena) None []
no-list arena = record { list = record { linked = tt; once = λ n. omega arith }; last_is = refl }

module _ {K V : Type 0} (bytes : K → List ℕ) where
  -- which leaves stand
  pub same-leaves-names : (old new : Arena K V) → SameLeaves old new → HasLeavesOf bytes new old
  same-leaves-names old new same slot key (k, v, there, is) = (k, v, ap cell_of (same slot) ∙ there, is)

  pub stored-names : (old new : Arena K V) (slot : ℕ) (key : K) (value : V) (ls : List (LeafAt K V)) → HasStoredLast old new slot key value ls → HasLeavesOf bytes new old
  stored-names old new slot key value ls stored n k (x, y, there, is) = elim (same_name_tells (leaf_name n) (leaf_name slot)) [
    | inl e ↦
        let both : ◌≡◌ {A = Option (Cell K V)} None (Some (pair x y)) = sym stored.vacant ∙ sym (ap (node_at old) e.1) ∙ there in
        absurd (cc)
    | inr o ↦ (x, y, stored.cells.others (leaf_name n) o.1 ∙ there, is)
  ]

module _ {K V : Type 0} (bytes : K → List ℕ) (P : ℕ) where
  -- the leaves of ways nodes are those of their cells
  times-of : (n : ℕ) (key : List ℕ) (levels : List (Level K V)) → AreOpen bytes key levels → times n (open_leaves levels) ≡ copies (leaf_name n) (open_cells P levels)
  times-of n key [] ways = refl
  times-of n key (l ∷ outer) ways =
      let here = ways.0.under in
      omega (arith, times-of n key outer ways.2, times-leaves_in bytes P n (take l.depth key) 0 l.kids here, times-append n (open_leaves outer) (leaves_in l.kids), copies-append (leaf_name n) (open_cells P outer) (cells_in P l.kids))

  -- where neither a node changed nor what is open, the same pairs are built
  pub built-same : (old new : Arena K V) (was now : Spine) (last : Option ℕ) (pairs : List (K × V)) → SameNodes old new → now.stack.items ≡ was.stack.items → now.children.items ≡ was.children.items
      → BuildsTo bytes P old was last pairs → BuildsTo bytes P new now last pairs
  built-same old new was now None pairs same stack children b = (b.0, λ n. same n ∙ b.1 n, (stack ∙ b.2.0, children ∙ b.2.1))
  built-same old new was now (Some last) pairs same stack children b = record {
    key = b.key;
    value = b.value;
    levels = b.levels;
    stack_is = stack ∙ b.stack_is;
    children_are = children ∙ b.children_are;
    holds = Holds-same (node_at old) (node_at new) (λ n. ap cell_of (same n)) _ b.holds;
    ways = b.ways;
    linked = AreLinked-same (links_at old) (links_at new) (λ n. ap links_of (same (leaf_name n))) None _ None b.linked;
    ascends = b.ascends;
    pairs_are = b.pairs_are;
  }

  -- so where a leaf is refused
  pub refused-builds : (old new : Arena K V) (builder : TreeBuilder) (pairs : List (K × V)) → SameNodes old new → UsesRoomOf Leaf old new → Builds bytes P old builder pairs → Builds bytes P new builder pairs
  refused-builds old new builder pairs same uses builds = record {
    built = built-same old new builder.spine builder.spine builder.last pairs same refl refl builds.built;
    room = beside-leaf old new builder.spine builder.room uses builds.room;
    closed = builds.closed;
  }

  module _ (arena : Arena K V) (spine : Spine) (last : ℕ) (pairs : List (K × V)) (is : BuildsUpTo bytes P arena spine last pairs) where
    abbrev whole : List (LeafAt K V)
    whole = all_leaves bytes P arena spine last pairs is

    abbrev end : List (LeafAt K V)
    end = last_leaf bytes P arena spine last pairs is ∷ []

    counted : (n : ℕ) → times n whole ≡ copies (leaf_name n) (open_cells P is.levels ++ (leaf_name last, pair is.key is.value) ∷ [])
    counted n =
        let one : times n end ≡ copies (leaf_name n) ((leaf_name last, pair is.key is.value) ∷ []) = times-copies n end in
        omega (arith, times-append n (open_leaves is.levels) end, times-of n (bytes is.key) is.levels is.ways, one, copies-append (leaf_name n) (open_cells P is.levels) ((leaf_name last, pair is.key is.value) ∷ []))

    -- the leaves are a list up to the last one
    pub list-to : IsListTo (links_at arena) (Some last) whole
    list-to = record {
      list = record { linked = is.linked; once = λ n. at_most_one (node_at arena (leaf_name n)) _ (counted n ∙ is.holds.once (leaf_name n)) };
      last_is = last_slot-append None (open_leaves is.levels) end;
    }

    -- a leaf was stored after it
    module _ (new : Arena K V) (slot : ℕ) (key : K) (value : V) (stored : HasStoredLast arena new slot key value whole) (less : IsBefore (bytes is.key) (bytes key)) where
      abbrev new_leaf : LeafAt K V
      new_leaf = record { slot = slot; key = key; value = value }

      pairs-now : pairs_of (whole ++ new_leaf ∷ []) ≡ pairs ++ (key, value) ∷ []
      pairs-now = pairs-parts bytes whole new_leaf [] ∙ ap (λ ps. ps ++ (key, value) ∷ []) is.pairs_are

      ascends-now : AscendsByKey (key_of bytes) (pairs ++ (key, value) ∷ [])
      ascends-now = ascending_append (key_of bytes) pairs ((key, value) ∷ []) is.ascends (tt, tt)
          (all_weaker (λ (q : K × V). IsBefore (bytes q.0) (bytes key)) (λ (q : K × V). AllByRecursion (λ (y : K × V). IsBefore (key_of bytes q) (key_of bytes y)) ((key, value) ∷ [])) (λ q before. (before, tt)) pairs
          (after-all bytes P arena spine last pairs is (bytes key) less))

      -- so the last one can be passed
      can : CanPass bytes P new spine last slot [] (whole ++ new_leaf ∷ [])
      can =
          let cells = open_cells P is.levels ++ (leaf_name last, pair is.key is.value) ∷ [] in
          let held = Holds-add (node_at arena) (node_at new) (leaf_name slot) (pair key value) cells [] stored.cells stored.vacant (subst (Holds (node_at arena)) (sym (append-nil cells)) is.holds) in
          record {
            leaf = new_leaf;
            named = refl;
            up_to = record {
              key = is.key;
              value = is.value;
              levels = is.levels;
              stack_is = is.stack_is;
              children_are = is.children_are;
              holds = subst (Holds (node_at new)) (append_assoc (open_cells P is.levels) ((leaf_name last, pair is.key is.value) ∷ []) ((leaf_name slot, pair key value) ∷ [])) held;
              ways = is.ways;
              leaves_are = sym (append_assoc (open_leaves is.levels) end (new_leaf ∷ []));
            };
            ascends = subst (AscendsByKey (key_of bytes)) (sym pairs-now) ascends-now;
          }

      pub can-at : (p : Parted) → PartAt (bytes is.key) (bytes key) p → CanPassAt bytes P new spine last slot p [] (whole ++ new_leaf ∷ [])
      unfolding can
      can-at p part = record { can = can; parts = part }

      -- and then the pair is built
      pub passed-on : (after : Arena K V) (now : Spine) → SameLeaves new after → RebuildsUpTo bytes P after now slot [] (whole ++ new_leaf ∷ []) → BuildsUpTo bytes P after now slot (pairs ++ (key, value) ∷ [])
      passed-on after now same up = record {
        key = up.key;
        value = up.value;
        levels = up.levels;
        stack_is = up.stack_is;
        children_are = up.children_are;
        holds = up.holds;
        ways = up.ways;
        linked = subst (λ xs. AreLinked (links_at after) None xs None) (sym up.leaves_are) (AreLinked-same (links_at new) (links_at after) (λ n. ap links_of (same n)) None _ None stored.linked);
        ascends = ascends-now;
        pairs_are = ap pairs_of up.leaves_are ∙ pairs-now;
      }

  -- the first pair
  pub first-pair : (old new : Arena K V) (spine : Spine) (slot : ℕ) (key : K) (value : V) → BuildsTo bytes P old spine None [] → HasStoredLast old new slot key value [] → BuildsUpTo bytes P new spine slot ((key, value) ∷ [])
  first-pair old new spine slot key value none stored = record {
    key = key;
    value = value;
    levels = [];
    stack_is = none.2.0;
    children_are = none.2.1;
    holds = Holds-add (node_at old) (node_at new) (leaf_name slot) (pair key value) [] [] stored.cells stored.vacant (record { held = tt; once = λ n. rw (ap cell_of (none.1 n)) refl });
    ways = tt;
    linked = stored.linked;
    ascends = (tt, tt);
    pairs_are = refl;
  }
