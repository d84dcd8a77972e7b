-- That a run stays one where a step is made at either end and the value of the leaf is written. The records alone are
-- definitions.
use Rattle.std.proofs.Common.{◌≡◌, ℕ, suc, ◌≤◌, Bool, true, false, cond, eqb, List, [], ◌∷◌, ◌++◌, length, Option, Some}
use Rattle.std.proofs.Common.{None, IsSome, refl, sym, ap, subst, ◌∙◌, arith, inl, inr, eqb-true, length-append, ◌-◌}
use Rattle.std.proofs.Math.Logic.{∥∥₁_elim, ∥∥₁_map}
use Rattle.std.specs.Coded.{coded_ℕ}
use base.Stored.{Coded-set}
use Rattle.std.proofs.lemmas.Bool.Decides.{eqb_tells}
use Rattle.art_nodes.specs.Name.{Name}
use Rattle.art_arena.specs.arena.Arena.{cell_of, held_at, node_at, links_of, links_at}
use Rattle.art_arena.specs.arena.Cells.{leaf_name, pair}
use Rattle.art_arena.specs.arena.Lends.{with_leaf_value}
use Rattle.art_arena.specs.arena.Linked.{Links, first_slot, last_slot, times}
use Rattle.art_arena.specs.arena.Shapes.{LeafAt}
use Rattle.art_arena.specs.declared.ends.End.{End}
use Rattle.art_arena.specs.declared.ends.End.TheVariants.{First, Last}
use Rattle.art_arena.proofs.shapes.LeafValues.{LeafThere, leaf-there}
use Rattle.art_arena.proofs.shapes.LinkedLists.{eqb-self, last_slot-append, times-append}
use Rattle.art_arena.proofs.shapes.Subtrees.{cell_held}
use Rattle.art_arena.proofs.tree.Order.{all_left, all_right}
use Rattle.art_operations.specs.Pairs.{IsAtEnd}
use Rattle.art_walks.specs.Runs.{Ends, HasEnds, IsWalk}
use Rattle.art_walks.specs.Walked.{AreStored, IsCounted, ends_after, leaves_left}
use Rattle.art_walks.proofs.RunLengths.{measured, recounted}
use Rattle.art_walks.proofs.RunSteps.{eqb-apart, front-alone, front-step, back-alone, back-step, once_in}
use Rattle.art_map.specs.Contents.{Contents}
use Rattle.art_map.specs.Lends.{with_value_at}
use Rattle.art_map.specs.LentRuns.{before_last, after_first, ends_before, left_at, slot_at, IsRunIn, with_lent_value}

module _ {X : Type 0} where
  -- the item at an end of a list, and the others
  pub record AtEnd (end : End) (xs : List X) : Type 0 where
    pub item : X
    pub rest : List X
    pub is : IsAtEnd end item rest xs

  pub at-end : (end : End) (x : X) (xs : List X) → AtEnd end (x ∷ xs)
  at-end First x xs = record { item = x; rest = xs; is = refl }
  at-end Last x [] = record { item = x; rest = []; is = refl }
  at-end Last x (y ∷ ys) =
      let later = at-end Last y ys in
      record { item = later.item; rest = x ∷ later.rest; is = ap (λ zs. x ∷ zs) later.is }

  -- with it they are one more
  pub end-long : (end : End) (x : X) (rest xs : List X) → IsAtEnd end x rest xs → length xs ≡ suc (length rest)
  end-long First x rest xs e = ap length e
  end-long Last x rest xs e = omega (arith, ap length e, length-append rest (x ∷ []))

module _ {K V : Type 0} where
  -- a leaf stands in all leaves once more than in those beside it
  times-end : (end : End) (l : LeafAt K V) (rest ls : List (LeafAt K V)) → IsAtEnd end l rest ls
      → times l.slot ls ≡ suc (times l.slot rest)
  times-end First l rest ls e =
      omega (arith, ap (times l.slot) e, ap {B = ℕ} (λ b. cond b 1 0) (eqb-self l.slot))
  times-end Last l rest ls e =
      let one = ap {B = ℕ} (λ b. cond b 1 0) (eqb-self l.slot) in
      omega (arith, ap (times l.slot) e, times-append l.slot rest (l ∷ []), one)

  -- between two ends there is a leaf at either, and its slab key is the end
  module _ (end : End) (a b : ℕ) (ls : List (LeafAt K V)) (has : HasEnds ls (Some (a, b))) where
    pub run-end : AtEnd end ls
    run-end = go ls has.0
      where
        go : (ls : List (LeafAt K V)) → first_slot ls None ≡ Some a → AtEnd end ls
        go [] e = absurd (cc)
        go (y ∷ ys) e = at-end end y ys

    pub slot-end : (l : LeafAt K V) (rest : List (LeafAt K V)) → IsAtEnd end l rest ls
        → slot_at end (Some (a, b)) ≡ Some l.slot
    slot-end l rest at = go end at
      where
        go : (e : End) → IsAtEnd e l rest ls → slot_at e (Some (a, b)) ≡ Some l.slot
        go First is = sym has.0 ∙ ap (λ xs. first_slot xs None) is
        go Last is = sym has.1 ∙ ap (last_slot None) is ∙ last_slot-append None rest (l ∷ [])

module _ {K V : Type 0} (links : ℕ → Option Links) (a b : ℕ) (l : LeafAt K V) (ys : List (LeafAt K V)) where
  -- what is left of a walk, told by the links
  front-walk : IsWalk links (Some (a, b)) (l ∷ ys) → IsWalk links (after_first links (Some (a, b))) ys
  front-walk walk = here (eqb a b) refl
    where
      here : (t : Bool) → eqb a b ≡ t → IsWalk links (cond t None (ends_after (links a) b)) ys
      here true e = front-alone links a b l ys walk (eqb-true a b e)
      here false e = let step = front-step links a b l ys walk (eqb-apart a b e) in rw step.2 step.3

  back-walk : IsWalk links (Some (a, b)) (ys ++ l ∷ []) → IsWalk links (before_last links (Some (a, b))) ys
  back-walk walk = here (eqb a b) refl
    where
      here : (t : Bool) → eqb a b ≡ t → IsWalk links (cond t None (ends_before (links b) a)) ys
      here true e = back-alone links a b l ys walk (eqb-true a b e)
      here false e = let step = back-step links a b l ys walk (eqb-apart a b e) in rw step.2 step.3

module _ {K V : Type 0} (m : Contents K V) where
  -- where all leaves are stored, it is, and so are the others
  pub stored-end : (end : End) (l : LeafAt K V) (rest ls : List (LeafAt K V)) → IsAtEnd end l rest ls
      → AreStored m.nodes ls → AreStored m.nodes (l ∷ rest)
  stored-end First l rest ls e stored = subst (AreStored m.nodes) e stored
  stored-end Last l rest ls e stored =
      let Q = λ (x : LeafAt K V). node_at m.nodes (leaf_name x.slot) ≡ Some (pair x.key x.value) in
      let all = subst (AreStored m.nodes) e stored in
      ((all_right Q rest (l ∷ []) all).0, all_left Q rest (l ∷ []) all)

  -- and what is left of a walk is one
  end-walk : (end : End) (a b : ℕ) (l : LeafAt K V) (rest ls : List (LeafAt K V)) → IsAtEnd end l rest ls
      → IsWalk (links_at m.nodes) (Some (a, b)) ls → IsWalk (links_at m.nodes) (left_at end m (Some (a, b))) rest
  end-walk First a b l rest ls e all =
      front-walk (links_at m.nodes) a b l rest (subst (IsWalk (links_at m.nodes) (Some (a, b))) e all)
  end-walk Last a b l rest ls e all =
      back-walk (links_at m.nodes) a b l rest (subst (IsWalk (links_at m.nodes) (Some (a, b))) e all)

  -- a run of these leaves is one at this end, and what is left of it
  pub record RunParted (end : End) (ends : Ends) (ls : List (LeafAt K V)) : Type 0 where
    pub leaf : LeafAt K V
    pub rest : List (LeafAt K V)
    pub parts : IsAtEnd end leaf rest ls
    pub slot_is : slot_at end ends ≡ Some leaf.slot
    pub walk : IsWalk (links_at m.nodes) (left_at end m ends) rest
    pub stored : AreStored m.nodes (leaf ∷ rest)
    pub apart : times leaf.slot rest ≤ 0

  pub parted : (end : End) (a b : ℕ) (run : IsRunIn m (Some (a, b))) → RunParted end (Some (a, b)) run.leaves
  parted end a b run =
      let at = run-end end a b run.leaves run.walk.ends_are in
      let once = once_in (links_at m.nodes) run.walk.xs run.leaves run.walk.zs run.walk.list at.item.slot in
      record {
        leaf = at.item;
        rest = at.rest;
        parts = at.is;
        slot_is = slot-end end a b run.leaves run.walk.ends_are at.item at.rest at.is;
        walk = end-walk end a b at.item at.rest run.leaves at.is run.walk;
        stored = stored-end end at.item at.rest run.leaves at.is run.stored;
        apart = omega (arith, once, times-end end at.item at.rest run.leaves at.is);
      }

  -- n has the links that m has, and each leaf but that with this slab key
  pub record Keeps (n : Contents K V) (slot : ℕ) : Type 0 where
    pub links : links_at n.nodes ≡ links_at m.nodes
    pub stored : (ls : List (LeafAt K V)) → times slot ls ≤ 0 → AreStored m.nodes ls → AreStored n.nodes ls

  keeps-self : (slot : ℕ) → Keeps m slot
  keeps-self slot = record { links = refl; stored = λ ls none stored. stored }

  module _ (slot : ℕ) (there : IsSome (held_at m.nodes (leaf_name slot))) (w : V) where
    abbrev is : LeafThere m.nodes slot
    is = leaf-there m.nodes slot there

    -- a value that is written moves no link
    links-same : (n : ℕ) → links_at (with_leaf_value m.nodes slot w) n ≡ links_at m.nodes n
    links-same n = elim (eqb_tells n slot) [
      | inl same ↦
          let here = ap links_of (is.written w).changed ∙ sym (ap links_of is.held) in
          subst (λ k. links_at (with_leaf_value m.nodes slot w) k ≡ links_at m.nodes k) (sym same.1) here
      | inr other ↦ ap links_of ((is.written w).others (leaf_name n) (λ e. other.1 (ap (λ (x : Name). x.slot) e)))
    ]

    -- and leaves each other leaf as it is
    stored-same : (ls : List (LeafAt K V)) → times slot ls ≤ 0 → AreStored m.nodes ls
        → AreStored (with_leaf_value m.nodes slot w) ls
    stored-same [] none stored = tt
    stored-same (l ∷ ls) none stored = (
      elim (eqb_tells slot l.slot) [
        | inl same ↦ absurd (omega (arith, none, ap {B = ℕ} (λ b. cond b 1 0) same.0))
        | inr other ↦ ap cell_of ((is.written w).others (leaf_name l.slot) (λ e. other.1 (sym (ap (λ
            (x : Name). x.slot) e)))) ∙ stored.0
      ],
      stored-same ls (omega (arith, none)) stored.1,
    )

    pub keeps-others : Keeps (with_value_at m slot w) slot
    keeps-others = record { links = λ i n. links-same n i; stored = stored-same }

-- no leaf is a run of any map
pub no-run : {K V : Type 0} (m : Contents K V) → IsCounted m.nodes None 0
no-run m = record {
  leaves = [];
  walk = record { xs = []; zs = []; list = record { linked = tt; once = λ n. omega arith }; ends_are = refl };
  stored = tt;
  len_is = refl;
}

module _ {K V : Type 0} (m n : Contents K V) where
  -- what is left where the other leaves are kept
  abbrev pub left-counted : (end : End) (ends : Ends) (ls : List (LeafAt K V)) (p : RunParted m end ends ls)
      → Keeps m n p.leaf.slot → IsCounted n.nodes (left_at end m ends) (length p.rest)
  left-counted end ends ls p keeps = record {
    leaves = p.rest;
    walk = subst (λ links. IsWalk links (left_at end m ends) p.rest) (sym keeps.links) p.walk;
    stored = keeps.stored p.rest p.apart p.stored.1;
    len_is = refl;
  }

  -- a step leaves a run, which has one leaf fewer
  record Left (end : End) (ends : Ends) : Type 0 where
    pub run : IsRunIn n (left_at end m ends)
    pub fewer : leaves_left n.nodes (left_at end m ends) ≡ leaves_left m.nodes ends - 1

  none-fewer : leaves_left n.nodes None ≡ leaves_left m.nodes None - 1
  none-fewer = measured n.nodes None 0 (no-run n) ∙ sym (ap (λ k. k - 1) (measured m.nodes None 0 (no-run m)))

  left : (end : End) (ends : Ends) → IsRunIn m ends
      → ((slot : ℕ) → IsSome (held_at m.nodes (leaf_name slot)) → slot_at end ends ≡ Some slot → Keeps m n slot)
      → Left end ends
  left First None run keeps = record { run = recounted n.nodes None 0 (no-run n); fewer = none-fewer }
  left Last None run keeps = record { run = recounted n.nodes None 0 (no-run n); fewer = none-fewer }
  left end (Some (a, b)) run keeps =
      let p = parted m end a b run in
      let held = cell_held (held_at m.nodes (leaf_name p.leaf.slot)) _ p.stored.0 in
      let rest = left-counted end (Some (a, b)) run.leaves p (keeps p.leaf.slot held p.slot_is) in
      let now = measured n.nodes (left_at end m (Some (a, b))) (length p.rest) rest in
      let was = run.len_is ∙ end-long end p.leaf p.rest run.leaves p.parts in
      record {
        run = recounted n.nodes (left_at end m (Some (a, b))) (length p.rest) rest;
        fewer = omega (arith, now, was);
      }

module _ {K V : Type 0} (m : Contents K V) (end : End) (ends : Ends) (run : ∥ IsRunIn m ends ∥₁) where
  module _ (n : Contents K V)
      (keeps : (slot : ℕ) → IsSome (held_at m.nodes (leaf_name slot)) → slot_at end ends ≡ Some slot
      → Keeps m n slot) where
    still : ∥ IsRunIn n (left_at end m ends) ∥₁
    still = ∥∥₁_map run (λ r. (left m n end ends r keeps).run)

    counted : (len : ℕ) → len ≡ leaves_left m.nodes ends → len - 1 ≡ leaves_left n.nodes (left_at end m ends)
    counted len is =
        ∥∥₁_elim run (Coded-set coded_ℕ _ _) (λ r. ap (λ k. k - 1) is ∙ sym (left m n end ends r keeps).fewer)

  -- where the value of the leaf is written
  module _ (w : V) where
    lent-keeps : (slot : ℕ) → IsSome (held_at m.nodes (leaf_name slot)) → slot_at end ends ≡ Some slot
        → Keeps m (with_lent_value m (slot_at end ends) w) slot
    lent-keeps slot there e = subst (λ o. Keeps m (with_lent_value m o w) slot) (sym e) (keeps-others m slot there w)

    pub still_left : ∥ IsRunIn (with_lent_value m (slot_at end ends) w) (left_at end m ends) ∥₁
    still_left = still (with_lent_value m (slot_at end ends) w) lent-keeps

    pub counted_left : (len : ℕ) → len ≡ leaves_left m.nodes ends
        → len - 1 ≡ leaves_left (with_lent_value m (slot_at end ends) w).nodes (left_at end m ends)
    counted_left = counted (with_lent_value m (slot_at end ends) w) lent-keeps

  -- and where nothing is
  pub still_unwritten : ∥ IsRunIn m (left_at end m ends) ∥₁
  still_unwritten = still m (λ slot there e. keeps-self m slot)

  pub counted_unwritten : (len : ℕ) → len ≡ leaves_left m.nodes ends
      → len - 1 ≡ leaves_left m.nodes (left_at end m ends)
  counted_unwritten = counted m (λ slot there e. keeps-self m slot)
