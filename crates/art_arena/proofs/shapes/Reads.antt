-- What is read of an inner node, and on a way down from it to a first or last leaf.
use Rattle.std.proofs.Common.{◌≡◌, ◌≢◌, ℕ, suc, ◌+◌, ◌-◌, ◌^◌, ◌<◌, ◌≤◌, ◌||◌, min, Bool, true, false, is_some, MatchOption, refl, lt-ltb, le-ltb, List, [], ◌++◌, length, drop, IfSome, None, Option, Some, IsSome, sym, ap, subst, ◌∙◌, arith}
use Rattle.art_bytes.proofs.Common.{BeginsWith, begins_append}
use Rattle.art_nodes.proofs.Common.{InnerNode, Name}
use Rattle.art_nodes.specs.declared.kind.NodeType.TheVariants.{Leaf}
use Rattle.art_nodes.specs.declared.leaf.LeafNode.{LeafNode}
use Rattle.art_arena.proofs.Terms.{Arena, cell_of, held_at, leaf_held, node_at, leaf_name, Frame, plug, leaves_before, leaves_after, ReadsPath, end_slot, end_child, first_slot, IsSubtree, prefix_of, IsReadAt, KeysWithin, ReadsAtLeast, ReadsExactly, ReadsToFirst, guide_cost, is_cut}
use Rattle.art_arena.proofs.Terms.{path_to_guide, leaf_at, inner_at, Shape, LeafAt, end_path, erase, leaves, path_of, Tree, End, First}
use Rattle.art_arena.specs.tree.Trees as tree
use Rattle.art_arena.proofs.tree.Order.{all_left, all_right}
use Rattle.art_arena.proofs.shapes.Contexts.{leaves-plug}
use Rattle.art_arena.proofs.shapes.EndWalks.{EndStep, end_step, on_end-start, same_inner}
use Rattle.art_arena.proofs.shapes.Places.{InnerThere, inner-there}
use Rattle.art_arena.proofs.shapes.Prefixes.{first_leaf}
use Rattle.art_arena.proofs.shapes.Subtrees.{subtree-leaf}

-- what holds of a value may be weaker
pub some_weaker : {X : Type 0} (r : Option X) (B C : X → Type 0) → ((x : X) → B x → C x) → IfSome r B → IfSome r C
some_weaker None B C f h = tt
some_weaker (Some x) B C f h = f x h

-- a path has a node
pub reads_some : {X : Type 0} (t : Tree X) (key : List ℕ) (old new : ℕ) → new ≡ min (old + length (path_of t key)) (2 ^ 64 - 1) → ReadsAtLeast 1 old new
reads_some (tree.leaf x) key old new reads = omega (arith, reads)
reads_some (tree.inner prefix children) key old new reads = omega (arith, reads)

-- whether a prefix isn't wholly stored
pub cut_if : {K V : Type 0} (P : ℕ) (s : Shape K V) → P < length (prefix_of s) → is_cut P (erase s) ≡ true
cut_if P (leaf_at slot k v) more = absurd (omega (arith, more))
cut_if P (inner_at n prefix kids) more = lt-ltb P (length prefix) more

pub cut_not : {K V : Type 0} (P : ℕ) (s : Shape K V) → length (prefix_of s) ≤ P → is_cut P (erase s) ≡ false
cut_not P (leaf_at slot k v) stored = refl
cut_not P (inner_at n prefix kids) stored = le-ltb P (length prefix) stored

-- a guide costs nothing where the prefix is stored, or there is one already
pub cost_none : {X Y : Type 0} (g : Option X) (P : ℕ) (t : Tree Y) (k : List ℕ) → is_cut P t ≡ false → guide_cost g P t k ≡ 0
cost_none None P t k stored = rw stored refl
cost_none (Some x) P t k stored = refl

pub cost_once : {X Y : Type 0} (g : Option X) (P : ℕ) (t : Tree Y) (k : List ℕ) (old new : ℕ) → is_cut P t ≡ true → old ≤ 2 ^ 64 - 1
    → MatchOption g (ReadsExactly (length (path_to_guide t k) - 1) old new) (λ x. new ≡ old) → ReadsExactly (guide_cost g P t k) old new
cost_once None P t k old new cut most reads = rw cut reads
cost_once (Some x) P t k old new cut most reads = omega (arith, most, reads)

pub found_if : {X : Type 0} (old new : Option X) (cut : Bool) → cut ≡ true → IsSome new → is_some new ≡ (is_some old || cut)
found_if None None cut is found = absurd (cc)
found_if None (Some y) cut is found = rw is refl
found_if (Some x) None cut is found = absurd (cc)
found_if (Some x) (Some y) cut is found = refl

pub found_not : {X : Type 0} (old : Option X) (cut : Bool) → cut ≡ false → is_some old ≡ (is_some old || cut)
found_not None cut is = rw is refl
found_not (Some x) cut is = refl

-- the keys of a part are among those of the whole
pub part_within : {K V : Type 0} (bytes : K → List ℕ) (longest : ℕ) (whole : Shape K V) (ctx : List (Frame K V)) (part : Shape K V) → whole ≡ plug ctx part → KeysWithin bytes longest (leaves whole) → KeysWithin bytes longest (leaves part)
part_within bytes longest whole ctx part is short =
    let Q = λ (l : LeafAt _ _). length (bytes l.key) ≤ longest in
    all_left Q (leaves part) (leaves_after ctx) (all_right Q (leaves_before ctx) (leaves part ++ leaves_after ctx) (subst (KeysWithin bytes longest) (ap leaves is ∙ leaves-plug ctx part) short))

module _ {K V : Type 0} (bytes : K → List ℕ) (P : ℕ) (arena : Arena K V) (node : InnerNode) (root : Name) (depth : ℕ) (path : List ℕ) (s : Shape K V) (at : IsReadAt bytes P arena node root depth path s) where
  here : InnerThere P (node_at arena) s node
  here = inner-there P (node_at arena) s node at.stands.subtree.part.held (ap (node_at arena) at.stands.subtree.part.named ∙ ap cell_of at.held)

  pub read_inner : root.kind ≢ Leaf
  read_inner kind = let e = (subtree-leaf bytes P (node_at arena) root path s at.stands.subtree kind).2 in let f = here.is in absurd (cc)

  pub read_len : node.header.prefix_len ≡ length (prefix_of s)
  read_len = ap (λ (n : InnerNode). n.header.prefix_len) here.node_is ∙ ap (λ t. length (prefix_of t)) (sym here.is)

  module _ (end : End) where
    step : EndStep bytes P arena end path s 0 root [] 0
    step = end_step bytes P arena end path s 0 root [] 0 (on_end-start bytes P arena end path s 0 root at.stands.subtree) read_inner

    same : step.node ≡ node
    same = same_inner _ _ _ step.there at.held

    pub read_some : IsSome (end_child end node.children)
    read_some = subst (λ (n : InnerNode). IsSome (end_child end n.children)) same step.some

    -- the child at its end: its own end is the same, and it stands after a longer path
    pub record ReadChild (c : ℕ × Name) : Type 0 where
      pub below : List ℕ
      pub part : Shape K V
      pub subtree : IsSubtree bytes P (node_at arena) c.1 below part
      pub same_end : end_slot end (leaves part) ≡ end_slot end (leaves s)
      pub deeper : depth + 1 ≤ length below
      pub within : (longest : ℕ) → KeysWithin bytes longest (leaves s) → KeysWithin bytes longest (leaves part)
      pub led : length (end_path end (erase s)) ≡ suc (length (end_path end (erase part)))
      pub long : (k : List ℕ) → BeginsWith below k → length (path_of (erase s) (drop (length path) k)) ≡ suc (length (path_of (erase part) (drop (length below) k)))

    pub read_child : (c : ℕ × Name) → end_child end node.children ≡ Some c → ReadChild c
    read_child c found =
        let on = (step.goes_on c (ap (λ (n : InnerNode). end_child end n.children) same ∙ found)).0 in
        record {
          below = on.below;
          part = on.part;
          subtree = on.subtree;
          same_end = on.same_end;
          deeper = omega (arith, on.deeper, on.reads, at.stands.path_len);
          within = on.within;
          led = omega (arith, on.led, on.reads);
          long = λ k begins. omega (arith, on.long k begins, on.reads);
        }

  -- the nodes of the path of the first leaf's key below the first child are those after this node
  pub read_first : (c : ℕ × Name) (child : ReadChild First c) (name : ℕ) (landed : LeafNode K V) (old new : ℕ)
      → first_slot (leaves s) None ≡ Some name → held_at arena (leaf_name name) ≡ Some (leaf_held landed)
      → ReadsPath (drop (length child.below) (bytes landed.key)) child.part old new → ReadsToFirst bytes arena path s old new
  read_first c child name landed old new first held reads slot leaf first_too held_too =
      let same_slot : slot ≡ name = cc in
      let same_leaf : landed ≡ leaf = cc in
      let found = first_leaf bytes P arena c.1 child.below child.part slot child.subtree (child.same_end ∙ first_too) in
      let same_found : found.leaf ≡ leaf = let e = found.there in cc in
      let begins = subst (λ (l : LeafNode K V). BeginsWith child.below (bytes l.key)) same_found (begins_append child.below (prefix_of child.part) (bytes found.leaf.key) found.begins) in
      let long = child.long (bytes leaf.key) begins in
      let so_many : length (path_of (erase child.part) (drop (length child.below) (bytes leaf.key))) ≡ length (path_of (erase s) (drop (length path) (bytes leaf.key))) - 1 = omega (arith, long) in
      subst (λ (l : LeafNode K V). ReadsPath (drop (length child.below) (bytes l.key)) child.part old new) same_leaf reads ∙ ap (λ m. min (old + m) (2 ^ 64 - 1)) so_many
