-- An edit below one child leaves every other child as it was.
use Rattle.std.proofs.Common.{◌≡◌, ◌≢◌, ◌⊎◌, ℕ, ◌+◌, ◌≤◌, true, List, [], ◌∷◌, ◌++◌, Option, Some, IsSome, refl, ap, subst, inl, inr, arith}
use Rattle.art_nodes.proofs.Common.{Name}
use Rattle.art_arena.proofs.Terms.{Cell, same_name, copies, AreHeld, Shape, Branches, no_branch, branch, name_of, cells, cells_in, IsBranch, frame_cell, EditKeepsOthers}
use Rattle.art_arena.proofs.tree.Order.{all_left, all_right}
use Rattle.art_arena.proofs.shapes.CellLists.{same_name_tells, same_name-self, copies-append, AreHeld-kept}
use Rattle.art_arena.proofs.shapes.Contexts.{cells-fill}

-- what is named is held
held_there : {C : Type 0} (at : Name → Option C) (n : Name) (cs : List (Name × C)) → AreHeld at cs → 1 ≤ copies n cs → IsSome (at n)
held_there at n [] held here = absurd (omega (arith, here))
held_there at n (c ∷ cs) held here = elim (same_name_tells n c.0) [
  | inl same ↦ rw (same.1, held.0) refl
  | inr other ↦ held_there at n cs held.1 (omega (arith, rw other.0 at here))
]

module _ {K V : Type 0} (P : ℕ) where
  -- a branch's cells are among those of all
  branch_held : (at : Name → Option (Cell K V)) (t : Shape K V) (f : Branches K V) → IsBranch t f → AreHeld at (cells_in P f) → AreHeld at (cells P t)
  branch_held at t no_branch i held = absurd i
  branch_held at t (branch b s rest) (inl e) held = subst (λ u. AreHeld at (cells P u)) e (all_left (λ c. at c.0 ≡ Some c.1) (cells P s) (cells_in P rest) held)
  branch_held at t (branch b s rest) (inr i) held = branch_held at t rest i (all_right (λ c. at c.0 ≡ Some c.1) (cells P s) (cells_in P rest) held)

  branch_copies : (n : Name) (t : Shape K V) (f : Branches K V) → IsBranch t f → copies n (cells P t) ≤ copies n (cells_in P f)
  branch_copies n t no_branch i = absurd i
  branch_copies n t (branch b s rest) (inl e) =
      let same : copies n (cells P s) ≡ copies n (cells P t) = ap (λ u. copies n (cells P u)) e in
      omega (arith, same, copies-append n (cells P s) (cells_in P rest))
  branch_copies n t (branch b s rest) (inr i) = omega (arith, branch_copies n t rest i, copies-append n (cells P s) (cells_in P rest))

pub others_kept : (K V : Type 0) → EditKeepsOthers K V
others_kept K V bytes P at now f s part kept t i path sub = record {
  part = record {
    named = refl;
    held = AreHeld-kept at now (cells P t) unchanged (held_of i);
    once = λ n. omega (arith, few n i, whole n);
  };
  under = sub.under;
}
  where
    all : AreHeld at (frame_cell P f (name_of s) ∷ (cells_in P f.before ++ (cells P s ++ cells_in P f.after)))
    all = subst (AreHeld at) (cells-fill P f s) part.held

    held_of : IsBranch t f.before ⊎ IsBranch t f.after → AreHeld at (cells P t)
    held_of (inl b) = branch_held P at t f.before b (all_left (λ c. at c.0 ≡ Some c.1) (cells_in P f.before) (cells P s ++ cells_in P f.after) all.1)
    held_of (inr a) = branch_held P at t f.after a (all_right (λ c. at c.0 ≡ Some c.1) (cells P s) (cells_in P f.after)
        (all_right (λ c. at c.0 ≡ Some c.1) (cells_in P f.before) (cells P s ++ cells_in P f.after) all.1))

    -- how often a name stands in the whole
    whole : (n : Name) → (copies n (frame_cell P f (name_of s) ∷ []) + copies n (cells_in P f.before)) + (copies n (cells P s) + copies n (cells_in P f.after)) ≤ 1
    whole n =
        let once : copies n (frame_cell P f (name_of s) ∷ (cells_in P f.before ++ (cells P s ++ cells_in P f.after))) ≤ 1 = subst (λ cs. copies n cs ≤ 1) (cells-fill P f s) (part.once n) in
        omega (arith, once, copies-append n (cells_in P f.before) (cells P s ++ cells_in P f.after), copies-append n (cells P s) (cells_in P f.after))

    few : (n : Name) → IsBranch t f.before ⊎ IsBranch t f.after → copies n (cells P t) ≤ copies n (cells_in P f.before) + copies n (cells_in P f.after)
    few n (inl b) = omega (arith, branch_copies P n t f.before b)
    few n (inr a) = omega (arith, branch_copies P n t f.after a)

    unchanged : (n : Name) → 1 ≤ copies n (cells P t) → now n ≡ at n
    unchanged n here =
        let apart : n ≢ f.name = λ e.
        let same : same_name n f.name ≡ true = rw e (same_name-self f.name) in
        let top : copies n (frame_cell P f (name_of s) ∷ []) ≡ 1 = rw same refl in
        absurd (omega (arith, top, whole n, few n i, here)) in
        kept n (held_there at n (cells P t) (held_of i) here) apart (omega (arith, whole n, few n i, here))
