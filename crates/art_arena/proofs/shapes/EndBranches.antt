-- The child at the end of the branches: the first or the last leaf stands there.
use Rattle.std.proofs.Common.{◌≡◌, ℕ, List, [], ◌∷◌, ◌++◌, Some, None, IsSome, refl, sym, ap, subst, ◌∙◌, arith, ◌≤◌}
use Rattle.art_nodes.proofs.Common.{Name}
use Rattle.art_arena.proofs.Terms.{Tree, Shape, erase, erase_in, end_path, end_path_in, last_path_in, Branches, no_branch, branch, LeafAt, leaves, leaves_in, join, width, IsUnder, AreUnder, children_at, name_of, end_slot, end_child, End, First, Last}
use Rattle.art_arena.proofs.shapes.Contexts.{leaves_in-join}
use Rattle.art_arena.proofs.shapes.LinkedLists.{last_slot-append}
use Rattle.std.proofs.lemmas.List.{append-nil}
use Rattle.art_arena.proofs.shapes.Subtrees.{branch-first, branch-last, has_first, has_last, some_leaf, AreUnder-here}

module _ {K V : Type 0} where
  first-more : (xs ys : List (LeafAt K V)) → (l : LeafAt K V) × (ls : List (LeafAt K V)) × (xs ≡ l ∷ ls) → end_slot First (xs ++ ys) ≡ end_slot First xs
  first-more xs ys (l, ls, e) = rw e refl

  last-more : (xs ys : List (LeafAt K V)) → (l : LeafAt K V) × (ls : List (LeafAt K V)) × (ys ≡ l ∷ ls) → end_slot Last (xs ++ ys) ≡ end_slot Last ys
  last-more xs ys (l, ls, e) = last_slot-append None xs ys ∙ rw e refl

module _ {K V : Type 0} where
  last-path-in : (path : List (Tree (K × V))) (before : Branches K V) (b : ℕ) (t : Shape K V) → last_path_in path (erase_in (join before (branch b t no_branch))) ≡ end_path Last (erase t)
  last-path-in path no_branch b t = refl
  last-path-in path (branch c s before) b t = last-path-in (end_path Last (erase s)) before b t

  -- the path to the last leaf goes by the last branch
  last-path : (before : Branches K V) (b : ℕ) (t : Shape K V) → end_path_in Last (erase_in (join before (branch b t no_branch))) ≡ end_path Last (erase t)
  last-path no_branch b t = refl
  last-path (branch c s before) b t = last-path-in (end_path Last (erase s)) before b t

module _ (K V : Type 0) (bytes : K → List ℕ) (end : End) where
  -- a branch, and the end of all branches, which is its end
  pub record ChildAtEnd (kids : Branches K V) (c : ℕ × Name) : Type 0 where
    pub before : Branches K V
    pub here : Shape K V
    pub after : Branches K V
    pub whole : kids ≡ join before (branch c.0 here after)
    pub named : name_of here ≡ c.1
    pub same_end : end_slot end (leaves here) ≡ end_slot end (leaves_in kids)
    pub same_path : end_path_in end (erase_in kids) ≡ end_path end (erase here)

  -- the end of the branches stands in the child at their end
  pub record EndBranch : Type 0 where
    pub has : (kids : Branches K V) → 2 ≤ width kids → IsSome (end_child end (children_at kids))
    pub child : (path : List ℕ) (kids : Branches K V) → AreUnder bytes path 0 kids → (c : ℕ × Name) → end_child end (children_at kids) ≡ Some c → ChildAtEnd kids c

module _ {K V : Type 0} (bytes : K → List ℕ) where
  first_end : EndBranch K V bytes First
  first_end = record {
    has = has_first;
    child = λ path kids under c found.
        let b = branch-first kids c found in
        let here : IsUnder bytes (path ++ c.0 ∷ []) b.0 = (subst (AreUnder bytes path 0) b.2 under).1 in
        record {
          before = no_branch;
          here = b.0;
          after = b.1;
          whole = b.2;
          named = b.3;
          same_end = sym (first-more (leaves b.0) (leaves_in b.1) (some_leaf bytes (path ++ c.0 ∷ []) b.0 here)) ∙ ap (λ f. end_slot First (leaves_in f)) (sym b.2);
          same_path = ap (λ f. end_path_in First (erase_in f)) b.2;
        };
  }

  last_end : EndBranch K V bytes Last
  last_end = record {
    has = λ kids wide. has_last kids (omega (arith, wide));
    child = λ path kids under c found.
        let b = branch-last kids c found in
        let here = AreUnder-here bytes path 0 b.0 c.0 b.1 no_branch (subst (AreUnder bytes path 0) b.2 under) in
        let parts : leaves_in kids ≡ leaves_in b.0 ++ leaves b.1 = ap leaves_in b.2 ∙ leaves_in-join b.0 (branch c.0 b.1 no_branch) ∙ ap (λ xs. leaves_in b.0 ++ xs) (append-nil (leaves b.1)) in
        record {
          before = b.0;
          here = b.1;
          after = no_branch;
          whole = b.2;
          named = b.3;
          same_end = sym (last-more (leaves_in b.0) (leaves b.1) (some_leaf bytes (path ++ c.0 ∷ []) b.1 here)) ∙ ap (end_slot Last) (sym parts);
          same_path = ap (λ f. end_path_in Last (erase_in f)) b.2 ∙ last-path b.0 c.0 b.1;
        };
  }

  pub end_branch : (end : End) → EndBranch K V bytes end
  end_branch First = first_end
  end_branch Last = last_end
