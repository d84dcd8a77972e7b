-- The way down to the first or the last leaf below a node.
use Rattle.std.proofs.Common.{◌≡◌, ◌≢◌, ℕ, suc, ◌+◌, ◌-◌, ◌^◌, ◌<◌, ◌≤◌, min, List, [], ◌∷◌, ◌++◌, take, drop, length, Option, Some, IsSome, refl, sym, ap, ap₂, subst, ◌∙◌, arith, append_assoc, length-append, length-drop}
use Rattle.std.proofs.lemmas.List.{drop-drop}
use Rattle.art_bytes.proofs.Common.{BeginsWith, begins_append, begins_step}
use Rattle.art_nodes.proofs.Common.{InnerNode, Name}
use Rattle.art_nodes.specs.declared.kind.NodeType.TheVariants.{Leaf}
use Rattle.art_arena.proofs.Terms.{Arena, Held, inner_held, held_at, node_at, slots_of, Shape, Branches, LeafAt, leaf_at, inner_at, name_of, branch, join, leaves, leaves_in, erase, erase_in, end_path, ReadsExactly, IsUnder, AreUnder, leaf_name, pair, ReadsPath, KeysWithin, path_of}
use Rattle.art_arena.proofs.Terms.{path_in, Frame, IsSubtree, IsPlace, Step, steps_to, end_slot, end_child, IsLeafPlace, End, First, Last}
use Rattle.art_arena.proofs.tree.Order.{all_left, all_right}
use Rattle.art_arena.proofs.tree.Sizes.{path_length}
use Rattle.art_arena.proofs.shapes.Finding.{counted_more, path_in-step}
use Rattle.art_arena.proofs.shapes.Prefixes.{drop-front}
use Rattle.art_arena.proofs.shapes.LastSteps.{last_two}
use Rattle.art_arena.proofs.shapes.Contexts.{leaves_in-join}
use Rattle.art_arena.proofs.shapes.Places.{around, at-root, leaf-there}
pub use Rattle.art_arena.proofs.shapes.Places.{place_below}
use Rattle.art_arena.proofs.shapes.Measures.{nodes_below}
use Rattle.art_arena.proofs.shapes.Subtrees.{subtree-inner, subtree-branch, root_held, measure_is}
use Rattle.art_arena.proofs.shapes.EndBranches.{EndBranch, end_branch}

-- one inner node stands under a name
pub same_inner : {K V : Type 0} (held : Option (Held K V)) (a b : InnerNode) → held ≡ Some (inner_held a) → held ≡ Some (inner_held b) → a ≡ b
same_inner held a b e f = cc

module _ {K V : Type 0} (bytes : K → List ℕ) where
  -- the path of a key goes on from an inner node to the child under the key's byte there
  path_goes_on : (below prefix : List ℕ) (n : Name) (kids before : Branches K V) (b : ℕ) (t : Shape K V) (after : Branches K V)
      → AreUnder bytes (below ++ prefix) 0 kids → kids ≡ join before (branch b t after) → (k : List ℕ) → BeginsWith ((below ++ prefix) ++ b ∷ []) k
      → length (path_of (erase (inner_at n prefix kids)) (drop (length below) k)) ≡ suc (length (path_of (erase t) (drop (length ((below ++ prefix) ++ b ∷ [])) k)))
  path_goes_on below prefix n kids before b t after under whole k begins =
      let st = begins_step (below ++ prefix) b k begins in
      let a = around bytes (below ++ prefix) 0 before b t after (subst (AreUnder bytes (below ++ prefix) 0) whole under) in
      let here : drop (length prefix) (drop (length below) k) ≡ b ∷ st.0 =
      drop-drop (length prefix) (length below) k ∙ ap (λ d. drop d k) (sym (length-append below prefix)) ∙ ap (drop (length (below ++ prefix))) st.1 ∙ drop-front (below ++ prefix) (b ∷ st.0) in
      let there : drop (length ((below ++ prefix) ++ b ∷ [])) k ≡ st.0 =
      ap (drop (length ((below ++ prefix) ++ b ∷ []))) (st.1 ∙ sym (append_assoc (below ++ prefix) (b ∷ []) st.0)) ∙ drop-front ((below ++ prefix) ++ b ∷ []) st.0 in
      ap suc (ap length (ap₂ (λ f l. path_in (erase_in f) l) whole here ∙ path_in-step bytes k before b t after st.0 a.below ∙ ap (path_of (erase t)) (sym there)))

  -- the keys below a branch are among those of all branches
  pub within_branch : (longest : ℕ) (kids before : Branches K V) (b : ℕ) (t : Shape K V) (after : Branches K V) → kids ≡ join before (branch b t after) → KeysWithin bytes longest (leaves_in kids) → KeysWithin bytes longest (leaves t)
  within_branch longest kids before b t after whole short =
      let Q = λ (l : LeafAt K V). length (bytes l.key) ≤ longest in
      all_left Q (leaves t) (leaves_in after) (all_right Q (leaves_in before) (leaves t ++ leaves_in after) (subst (KeysWithin bytes longest) (ap leaves_in whole ∙ leaves_in-join before (branch b t after)) short))

module _ {K V : Type 0} (bytes : K → List ℕ) (P : ℕ) (arena : Arena K V) (end : End) (path : List ℕ) (s : Shape K V) (start : ℕ) where
  -- Below this name, to which these last steps lead, stands a part with the same end; below the root of a whole tree it has a place. Each node above it was
  -- read, and one more makes this count.
  pub record OnEnd (current : Name) (last : List Step) (count : ℕ) : Type 0 where
    pub ctx : List (Frame K V)
    pub below : List ℕ
    pub part : Shape K V
    pub place : path ≡ [] → IsPlace bytes s ctx part
    pub subtree : IsSubtree bytes P (node_at arena) current below part
    pub steps : take 2 (steps_to ctx) ≡ last
    pub same_end : end_slot end (leaves part) ≡ end_slot end (leaves s)
    pub deeper : length path + length ctx ≤ length below
    pub within : (longest : ℕ) → KeysWithin bytes longest (leaves s) → KeysWithin bytes longest (leaves part)
    pub long : (k : List ℕ) → BeginsWith below k → length (path_of (erase s) (drop (length path) k)) ≡ length ctx + length (path_of (erase part) (drop (length below) k))
    pub led : length (end_path end (erase s)) ≡ length ctx + length (end_path end (erase part))
    pub reads : min (count + 1) (2 ^ 64 - 1) ≡ min (start + suc (length ctx)) (2 ^ 64 - 1)

  pub on_end-start : (root : Name) → IsSubtree bytes P (node_at arena) root path s → OnEnd root [] start
  on_end-start root tree = record {
    ctx = [];
    below = path;
    part = s;
    place = λ e. at-root bytes s (subst (λ p. IsUnder bytes p s) e tree.under);
    subtree = tree;
    steps = refl;
    same_end = refl;
    deeper = omega arith;
    within = λ longest short. short;
    long = λ k begins. omega arith;
    led = omega arith;
    reads = refl;
  }

  -- at an inner node: it is held, has a child at its end, and the walk goes on there, to fewer nodes
  pub record EndStep (n : Name) (last : List Step) (count : ℕ) : Type 0 where
    pub node : InnerNode
    pub there : held_at arena n ≡ Some (inner_held node)
    pub some : IsSome (end_child end node.children)
    pub goes_on : (c : ℕ × Name) → end_child end node.children ≡ Some c
        → OnEnd c.1 (take 2 (record { node = n; byte = c.0 } ∷ last)) (min (count + 1) (2 ^ 64 - 1)) × (nodes_below (slots_of arena) (node_at arena) c.1 < nodes_below (slots_of arena) (node_at arena) n)

  pub end_step : (n : Name) (last : List Step) (count : ℕ) → OnEnd n last count → n.kind ≢ Leaf → EndStep n last count
  end_step n last count on other = at_inner inner.0 inner.1 inner.2
    where
      ends : EndBranch K V bytes end
      ends = end_branch bytes end

      inner : (prefix : List ℕ) × (kids : Branches K V) × (on.part ≡ inner_at n prefix kids)
      inner = subtree-inner bytes P (node_at arena) n on.below on.part on.subtree other

      at_inner : (prefix : List ℕ) (kids : Branches K V) → on.part ≡ inner_at n prefix kids → EndStep n last count
      at_inner prefix kids is =
          let subtree = subst (IsSubtree bytes P (node_at arena) n on.below) is on.subtree in
          record {
            node = _;
            there = root_held bytes P arena n on.below prefix kids subtree;
            some = (let two = subtree.under.0.two in ends.has kids two);
            goes_on = λ c found.
                let b = ends.child (on.below ++ prefix) kids subtree.under.1 c found in
                let below = subtree-branch bytes P (node_at arena) n on.below prefix kids b.before c.0 b.here b.after subtree b.whole in
                let child = subst (λ m. IsSubtree bytes P (node_at arena) m ((on.below ++ prefix) ++ c.0 ∷ []) b.here) b.named below.subtree in
                let fewer = below.fewer in (
                  record {
                    ctx = record { name = n; prefix = prefix; before = b.before; byte = c.0; after = b.after } ∷ on.ctx;
                    below = (on.below ++ prefix) ++ c.0 ∷ [];
                    part = b.here;
                    place = λ e. place_below bytes s on.ctx n prefix kids b.before c.0 b.here b.after (subst (IsPlace bytes s on.ctx) is (on.place e)) b.whole;
                    subtree = child;
                    steps = last_two (record { node = n; byte = c.0 }) (steps_to on.ctx) ∙ ap (λ xs. take 2 (record { node = n; byte = c.0 } ∷ xs)) on.steps;
                    same_end = b.same_end ∙ ap (λ t. end_slot end (leaves t)) (sym is) ∙ on.same_end;
                    deeper = omega (arith, on.deeper, length-append (on.below ++ prefix) (c.0 ∷ []), length-append on.below prefix);
                    within = λ longest short. within_branch bytes longest kids b.before c.0 b.here b.after b.whole (subst (λ t. KeysWithin bytes longest (leaves t)) is (on.within longest short));
                    long = λ k begins.
                        let above = on.long k (begins_append on.below prefix k (begins_append (on.below ++ prefix) (c.0 ∷ []) k begins)) in
                        let goes = path_goes_on bytes on.below prefix n kids b.before c.0 b.here b.after subtree.under.1 b.whole k begins in
                        omega (arith, above, ap (λ t. length (path_of (erase t) (drop (length on.below) k))) is, goes);
                    led = omega (arith, on.led, ap (λ t. length (end_path end (erase t))) is, ap length b.same_path);
                    reads = ap (λ m. min (m + 1) (2 ^ 64 - 1)) on.reads ∙ counted_more start (suc (length on.ctx)) (2 ^ 64 - 1);
                  },
                  omega (arith, fewer, measure_is bytes P arena n on.below (inner_at n prefix kids) subtree, measure_is bytes P arena c.1 ((on.below ++ prefix) ++ c.0 ∷ []) b.here child),
                );
          }

  end_lone : (end : End) (l : LeafAt K V) → end_slot end (l ∷ []) ≡ Some l.slot
  end_lone First l = refl
  end_lone Last l = refl

  -- at a leaf
  pub record EndsAtLeaf (n : Name) (last : List Step) (count : ℕ) (k : K) : Type 0 where
    pub named : n ≡ leaf_name n.slot
    pub slot_is : end_slot end (leaves s) ≡ Some n.slot
    pub place : path ≡ [] → IsLeafPlace bytes s n.slot last
    pub reads : ReadsPath (drop (length path) (bytes k)) s start (min (count + 1) (2 ^ 64 - 1))
    pub exact : ReadsExactly (length (end_path end (erase s))) start (min (count + 1) (2 ^ 64 - 1))
    pub few : (longest : ℕ) → KeysWithin bytes longest (leaves s) → min (count + 1) (2 ^ 64 - 1) + length path ≤ start + (longest + 1)

  pub end_at : (n : Name) (last : List Step) (count : ℕ) → OnEnd n last count → (k : K) (v : V) → node_at arena n ≡ Some (pair k v) → EndsAtLeaf n last count k
  end_at n last count on k v there =
      let is : on.part ≡ leaf_at n.slot k v =
      leaf-there P (node_at arena) on.part k v on.subtree.part.held (ap (node_at arena) on.subtree.part.named ∙ there) ∙ ap (λ (m : Name). leaf_at m.slot k v) on.subtree.part.named in
      let begins : BeginsWith on.below (bytes k) = subst (IsUnder bytes on.below) is on.subtree.under in
      let long : length (path_of (erase s) (drop (length path) (bytes k))) ≡ length on.ctx + 1 = on.long (bytes k) begins ∙ ap (λ t. length on.ctx + length (path_of (erase t) (drop (length on.below) (bytes k)))) is in
      let reads : ReadsPath (drop (length path) (bytes k)) s start (min (count + 1) (2 ^ 64 - 1)) = on.reads ∙ ap (λ m. min (start + m) (2 ^ 64 - 1)) (omega (arith, long)) in
      record {
        named = sym on.subtree.part.named ∙ ap name_of is;
        slot_is = sym on.same_end ∙ ap (λ t. end_slot end (leaves t)) is ∙ end_lone end (record { slot = n.slot; key = k; value = v });
        place = λ e. record { ctx = on.ctx; key = k; value = v; place = subst (IsPlace bytes s on.ctx) is (on.place e); steps = on.steps };
        reads = reads;
        exact = on.reads ∙ ap (λ m. min (start + m) (2 ^ 64 - 1)) (omega (arith, on.led, ap (λ t. length (end_path end (erase t))) is));
        few = λ longest short.
            let own : length (bytes k) ≤ longest = (subst (λ t. KeysWithin bytes longest (leaves t)) is (on.within longest short)).0 in
            let front : length on.below ≤ length (bytes k) = omega (arith, ap length begins.1, length-append on.below begins.0) in
            omega (arith, reads, path_length (erase s) (drop (length path) (bytes k)), length-drop (length path) (bytes k), own, front, on.deeper);
      }
