-- Inner nodes that are made over leaves which stand: what is so after each leaf, and where the last node is made.
use Rattle.std.proofs.Common.{◌≡◌, ℕ, List, [], ◌∷◌, ◌++◌, take, drop, refl, sym, ap, subst, ◌∙◌, arith, append-nil, Some, None, IsSome}
use Rattle.std.proofs.lemmas.List.{take-append-drop}
use Rattle.art_bytes.proofs.Common.{IsBefore}
use Rattle.art_nodes.proofs.Common.{Name}
use Rattle.art_nodes.specs.declared.leaf.LeafNode.{LeafNode}
use Rattle.art_arena.proofs.Common.{Arena, leaf_held, held_at, node_at, links_at, Cell, pair, leaf_name, Holds, AreLinked, Shape, LeafAt, leaf_at, name_of, leaves, cells, pairs_of, key_of, IsUnder, AscendsByKey, HoldsPair, holds_pair, all_right}
use Rattle.art_operations.proofs.Terms.{leaf_cells, HasPairs, Spine, RebuildsUpTo, Level, begin, begin_of, open_leaves, open_cells, HasSpine}
use Rattle.art_operations.proofs.KeyedLists.{following}
use Rattle.art_operations.proofs.LeafPairs.{pairs-parts}
use Rattle.art_operations.proofs.Spines.{begin-opened}

module _ {K V : Type 0} (bytes : K → List ℕ) (P : ℕ) where
  -- what there is, by the last leaf
  module _ (arena : Arena K V) (spine : Spine) (last : ℕ) (rest ls : List (LeafAt K V)) (is : RebuildsUpTo bytes P arena spine last rest ls) where
    abbrev pub last_of : LeafAt K V
    last_of = record { slot = last; key = is.key; value = is.value }

    -- the leaves that were passed
    abbrev pub passed : List (LeafAt K V)
    passed = open_leaves is.levels ++ last_of ∷ []

    held-from : Holds (node_at arena) (open_cells P is.levels ++ (leaf_name last, pair is.key is.value) ∷ leaf_cells rest) → node_at arena (leaf_name last) ≡ Some (pair is.key is.value)
    held-from holds = (all_right (λ (c : Name × Cell K V). node_at arena c.0 ≡ Some c.1) (open_cells P is.levels) ((leaf_name last, pair is.key is.value) ∷ leaf_cells rest) holds.held).0

    pub last-there : HoldsPair (held_at arena (leaf_name last)) is.key is.value
    last-there = holds_pair (held_at arena (leaf_name last)) is.key is.value (held-from is.holds)

    pub last-is-held : IsSome (held_at arena (leaf_name last))
    last-is-held = subst IsSome (sym last-there.is) refl

    -- what was read of the last key is that key
    pub last-read : (stored : K) (read_bytes : List ℕ) → ((l : LeafNode K V) → held_at arena (leaf_name last) ≡ Some (leaf_held l) → stored ≡ l.key) → read_bytes ≡ bytes stored → read_bytes ≡ bytes is.key
    last-read stored read_bytes read e = e ∙ ap bytes (read last-there.leaf last-there.is ∙ last-there.key)

    -- the last leaf is a part of the tree, whichever nodes are made then
    pub last-stands : (low : ℕ) → HasSpine bytes P arena spine (leaf_cells rest) last low (leaf_name last) (bytes is.key) passed
    last-stands low = record {
      leaf = last-there.leaf;
      there = last-there.is;
      key_is = ap bytes last-there.key;
      stands = record {
        levels = is.levels;
        part = leaf_at last is.key is.value;
        stack_is = is.stack_is;
        children_are = is.children_are;
        named = refl;
        holds = is.holds;
        ways = is.ways;
        under = (drop (begin low is.levels) (bytes is.key), sym (take-append-drop (begin low is.levels) (bytes is.key)));
        leaves_are = refl;
      };
    }

  -- where all nodes are made, the arena has the tree
  pub whole : (arena : Arena K V) (spine : Spine) (last : ℕ) (root : Name) (key : List ℕ) (ls : List (LeafAt K V)) → HasSpine bytes P arena spine [] last 0 root key ls → begin_of 0 spine.stack.items ≡ 0
      → AreLinked (links_at arena) None ls None → HasPairs bytes P arena (Some root) (pairs_of ls)
  whole arena spine last root key ls has closed linked = of has.stands.levels has.stands.part has.stands.named has.stands.holds has.stands.under has.stands.leaves_are (sym (begin-opened 0 has.stands.levels) ∙ ap (begin_of 0) (sym has.stands.stack_is) ∙ closed)
    where
      of : (levels : List (Level K V)) (part : Shape K V) → name_of part ≡ root → Holds (node_at arena) (open_cells P levels ++ (cells P part ++ [])) → IsUnder bytes (take (begin 0 levels) key) part → open_leaves levels ++ leaves part ≡ ls
          → begin 0 levels ≡ 0 → HasPairs bytes P arena (Some root) (pairs_of ls)
      of [] part named holds under leaves_are none = (
        part,
        record {
          nodes = record { named = named; holds = subst (Holds (node_at arena)) (append-nil (cells P part)) holds; under = under };
          linked = subst (λ xs. AreLinked (links_at arena) None xs None) (sym leaves_are) linked;
        },
        ap pairs_of leaves_are,
      )
      of (l ∷ outer) part named holds under leaves_are none = absurd (omega (arith, none))

  -- the keys of leaves ascend, so the next one's goes after the last one's
  pub next-later : (front : List (LeafAt K V)) (l m : LeafAt K V) (more ls : List (LeafAt K V)) → front ++ l ∷ m ∷ more ≡ ls → AscendsByKey (key_of bytes) (pairs_of ls) → IsBefore (bytes l.key) (bytes m.key)
  next-later front l m more ls is ascends =
      (following (key_of bytes) (l.key, l.value) (pairs_of front) (pairs_of (m ∷ more)) (subst (AscendsByKey (key_of bytes)) (ap pairs_of (sym is) ∙ pairs-parts bytes front l (m ∷ more)) ascends)).0
