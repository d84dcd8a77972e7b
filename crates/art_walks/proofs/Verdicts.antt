-- What a check may say: with the names that it met, each once, as a skeleton; of nodes that fit or not; of leaves that are linked or not.
use Rattle.std.proofs.Common.{◌≡◌, ◌≢◌, ℕ, suc, ◌+◌, List, [], ◌∷◌, ◌++◌, length, Option, Some, None, IsSome, Result, Ok, Err, IfErr, refl, sym, ap, subst, ◌∙◌, arith}
use Rattle.std.specs.List.{AllByRecursion}
use Rattle.std.specs.Result.{IsErrAnd}
use Rattle.art_walks.proofs.Terms.{MalformedTreeError, child_in, led_to, HasOtherKeys, HasOtherLinks, meets, AreOnce, HasKinds, HaveKinds, cell_names, IsSkeleton, Fits, AreLinkedSlots, leaf_slots, in_range, count_kind}
use Rattle.art_arena.proofs.Common.{Arena, held_at, node_at, Cell, pair, AreHeld, IsKindOf, Tree, items, nodes_with, LeafAt, pairs_of, Shape, Branches, leaf_at, inner_at, no_branch, branch, name_of, children_at, join, leaves, erase, cells, cells_in, node_of, Links, AreLinked, IsPart}
use Rattle.art_arena.proofs.Common.{Means, cells_in-join, items-erase, all_left, all_right, cell_held, slot_list}
use Rattle.art_nodes.proofs.Common.{Name, child_at}
use Rattle.art_nodes.specs.declared.kind.NodeType.{NodeType}
use Rattle.art_nodes.specs.declared.kind.NodeType.TheVariants.{Leaf}
use Rattle.art_walks.proofs.NameWalks.{copies-named}
use Rattle.art_walks.proofs.Ways.{onward-some, branch_of, kinds-under, right_count}
use Rattle.art_walks.proofs.Skeletons.{same_cells}
use Rattle.art_walks.proofs.Fillings.{fill, fill_in, width-fill, cells-fill, filled-subtree, unfit-none}
use Rattle.art_walks.proofs.LeafSlots.{slots-named, linked-slots, slots-linked, leaves-fill}
use Rattle.art_walks.proofs.KindCounts.{count-leaves, count-nodes}

-- a fault that is passed on stands as it did
pub passed : {T : Type 0} (r : Result T MalformedTreeError) (e : MalformedTreeError) (Q : MalformedTreeError → Type 0) → IsErrAnd r (λ x. x ≡ e) → Q e → IfErr r Q
passed (Ok x) e Q h q = absurd h
passed (Err x) e Q h q = subst Q (sym h) q

module _ {K V : Type 0} where
  -- the names of a skeleton are held
  pub names-held : (arena : Arena K V) (P : ℕ) (root : Name) (names : List Name) → IsSkeleton P (node_at arena) root names → AllByRecursion (λ n. IsSome (held_at arena n)) names
  names-held arena P root names s = subst (AllByRecursion (λ n. IsSome (held_at arena n))) s.names_are (all (cells P s.shape) s.held)
    where
      all : (cs : List (Name × Cell K V)) → AreHeld (node_at arena) cs → AllByRecursion (λ n. IsSome (held_at arena n)) (cell_names cs)
      all [] h = tt
      all (c ∷ cs) h = (cell_held (held_at arena c.0) c.1 h.0, all cs h.1)

  kind_of-branch : (before : Branches K V) (b : ℕ) (t : Shape K V) (after : Branches K V) → HaveKinds (join before (branch b t after)) → HasKinds t
  kind_of-branch no_branch b t after kinds = kinds.0
  kind_of-branch (branch x s before) b t after kinds = kind_of-branch before b t after kinds.1

  module _ (bytes : K → List ℕ) where
    mutual
      kinds-fill : (d : ℕ) (s : Shape K V) → HasKinds s → HasKinds (fill bytes d s)
      kinds-fill d (leaf_at slot k v) kinds = tt
      kinds-fill d (inner_at n prefix kids) kinds = (subst (IsKindOf n.kind) (sym (width-fill bytes (d + length prefix + 1) kids)) kinds.0, kinds-fill_in (d + length prefix + 1) kids kinds.1)

      kinds-fill_in : (d : ℕ) (kids : Branches K V) → HaveKinds kids → HaveKinds (fill_in bytes d kids)
      kinds-fill_in d no_branch kinds = tt
      kinds-fill_in d (branch b s rest) kinds = (kinds-fill d s kinds.0, kinds-fill_in d rest kinds.1)

  module _ (P : ℕ) (at : Name → Option (Cell K V)) where
    abbrev held_cell : Name × Cell K V → Type 0
    held_cell c = at c.0 ≡ Some c.1

    -- what a way leads to below a shape whose nodes have as many children as their kinds is such a shape
    kinds_led : (way : List ℕ) (n m : Name) (s : Shape K V) → name_of s ≡ n → AreHeld at (cells P s) → HasKinds s → led_to at n way ≡ Some m
        → (t : Shape K V) × (name_of t ≡ m) × AreHeld at (cells P t) × HasKinds t
    kinds_led [] n m s is held kinds e = (s, (cc), held, kinds)
    kinds_led (byte ∷ way) n m (leaf_at slot k v) is held kinds e =
        let next = onward-some (λ child. led_to at child way) (child_in (at n) byte) m e in
        let there : at n ≡ Some (pair k v) = ap at (sym is) ∙ held.0 in
        let none : None ≡ Some next.0 = sym (ap (λ o. child_in o byte) there) ∙ next.1 in absurd (cc)
    kinds_led (byte ∷ way) n m (inner_at name prefix kids) is held kinds e =
        let next = onward-some (λ child. led_to at child way) (child_in (at n) byte) m e in
        let there : at n ≡ Some (node_of P prefix (children_at kids)) = ap at (sym is) ∙ held.0 in
        let found : child_at (children_at kids) byte ≡ Some next.0 = sym (ap (λ o. child_in o byte) there) ∙ next.1 in
        let has = branch_of kids byte next.0 found in
        let parts : cells_in P kids ≡ cells_in P has.before ++ (cells P has.child ++ cells_in P has.after) = ap (cells_in P) has.whole ∙ cells_in-join P has.before (branch byte has.child has.after) in
        let there_held : AreHeld at (cells_in P has.before ++ (cells P has.child ++ cells_in P has.after)) = subst (AreHeld at) parts held.1 in
        kinds_led way next.0 m has.child has.named
        (all_left held_cell (cells P has.child) (cells_in P has.after) (all_right held_cell (cells_in P has.before) (cells P has.child ++ cells_in P has.after) there_held))
        (kind_of-branch has.before byte has.child has.after (subst HaveKinds has.whole kinds.1)) next.2

  module _ (bytes : K → List ℕ) (P : ℕ) (at : Name → Option (Cell K V)) (links : ℕ → Option Links) (root : Name) (names : List Name) (s : IsSkeleton P at root names) (once : AreOnce names) where
    -- the names that were met make a shape in which none stands twice
    pub skeleton-part : IsPart P at root s.shape
    skeleton-part = record {
      named = s.root_is;
      held = s.held;
      once = λ n. let o = once n in let e = copies-named n (cells P s.shape) ∙ ap (meets n) s.names_are in omega (arith, o, e);
    }

    slots-are : slot_list (leaves s.shape) ≡ leaf_slots names
    slots-are = slots-named P s.shape s.kinds ∙ ap leaf_slots s.names_are

    -- some node doesn't fit: a fault of keys
    pub keys-fault : (Fits bytes P 0 s.shape → ⊥) → HasOtherKeys bytes P at links root
    keys-fault unfit = record {
      shape = s.shape;
      part = skeleton-part;
      counted = λ w.
          let t = kinds_led P at w.way root w.name s.shape s.root_is s.held s.kinds w.leads in
          w.wrong (right_count bytes P at w.name t.0 t.1 t.2 t.3 w.node w.held);
      none = λ t sub. unfit-none bytes P at root s.shape skeleton-part unfit t sub;
    }

    module _ (fits : Fits bytes P 0 s.shape) where
      -- the leaves aren't linked: a fault of links
      pub links-fault : (AreLinkedSlots links None (leaf_slots names) None → ⊥) → HasOtherLinks bytes P at links root
      links-fault unlinked = record {
        shape = fill bytes 0 s.shape;
        subtree = filled-subtree bytes P at root s.shape skeleton-part fits;
        none = λ t sub linked.
            let same : cells P t ≡ cells P s.shape = same_cells P at t s.shape sub.part.held s.held (sub.part.named ∙ sym s.root_is) in
            let slots : slot_list (leaves t) ≡ leaf_slots names = slots-named P t (kinds-under bytes P at [] t sub.under) ∙ ap (λ cs. leaf_slots (cell_names cs)) same ∙ ap leaf_slots s.names_are in
            unlinked (subst (λ ss. AreLinkedSlots links None ss None) slots (slots-linked links None (leaves t) None linked));
      }

      -- they are: the root means a tree, and the kinds of names are those of its nodes
      pub record IsCanonicalTree : Type 0 where
        pub tree : Tree (K × V)
        pub means : Means bytes P at root links tree
        pub inner_nodes : (kind : NodeType) → kind ≢ Leaf → count_kind kind names ≡ nodes_with (in_range kind) tree
        pub all_leaves : count_kind Leaf names ≡ length (items tree)

      length-pairs : (ls : List (LeafAt K V)) → length (pairs_of ls) ≡ length ls
      length-pairs [] = refl
      length-pairs (l ∷ ls) = ap suc (length-pairs ls)

      pub canonical : AreLinkedSlots links None (leaf_slots names) None → IsCanonicalTree
      canonical linked =
          let sub = filled-subtree bytes P at root s.shape skeleton-part fits in
          let kinds = kinds-fill bytes 0 s.shape s.kinds in
          let met : names ≡ cell_names (cells P (fill bytes 0 s.shape)) = sym s.names_are ∙ ap cell_names (sym (cells-fill bytes P 0 s.shape fits)) in
          let along : AreLinked links None (leaves s.shape) None = linked-slots links None (leaves s.shape) None (subst (λ ss. AreLinkedSlots links None ss None) (sym slots-are) linked) in
          record {
            tree = erase (fill bytes 0 s.shape);
            means = record {
              shape = fill bytes 0 s.shape;
              part = sub.part;
              under = sub.under;
              linked = subst (λ ls. AreLinked links None ls None) (sym (leaves-fill bytes 0 s.shape)) along;
              erased = refl;
            };
            inner_nodes = λ kind inner. ap (count_kind kind) met ∙ count-nodes P kind inner (fill bytes 0 s.shape) kinds;
            all_leaves = ap (count_kind Leaf) met ∙ count-leaves P (fill bytes 0 s.shape) kinds ∙ sym (length-pairs (leaves (fill bytes 0 s.shape))) ∙ sym (ap length (items-erase (fill bytes 0 s.shape)));
          }
