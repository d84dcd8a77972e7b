-- The runs that the lending walks remember, among the leaves of their map, and a step at either end.
use Rattle.std.proofs.Common.{◌≡◌, ℕ, Bool, true, false, cond, eqb, eqb-true, List, [], ◌∷◌, ◌++◌, length, Option, Some, None, IsSome, IfSome, refl, sym, ap, ap₂, subst, ◌∙◌}
use Rattle.std.proofs.Math.Bool.{Bool-set}
use Rattle.std.proofs.Math.Logic.{∥∥₁_elim, ∥∥₁_map}
use Rattle.std.specs.List.{AllByRecursion}
use Rattle.art_nodes.proofs.Common.{Name}
use Rattle.art_arena.proofs.Common.{Arena, held_at, node_at, links_at, leaf_name, pair, Links, AreLinked, IsList, first_slot, last_slot, LeafAt, cell-some, leaf-there, AreLinked-right, eqb-self, nodes-subtree, leaves_are_held, cell_held, tree-list, all_left, all_right}
use Rattle.art_arena.specs.declared.ends.End.{End}
use Rattle.art_arena.specs.declared.ends.End.TheVariants.{First, Last}
use Rattle.art_operations.proofs.Common.{IsAtEnd, leaf_pair, written}
use Rattle.art_walks.proofs.Common.{Ends, HasEnds, IsWalk, IsCounted, leaves_left, recounted, run-pairs}
use Rattle.art_walks.proofs.Counted.{EndsWalk}
use Rattle.art_walks.proofs.RunSteps.{first-held, front-is}
use Rattle.art_map.proofs.Terms.{Contents, IsMap, HasLeafAt, contents, HasPairAt, slot_at, left_at, run_pairs, IsRunIn, with_value_at, RunParted, keeps-others, left-counted, no-run, parted}
use Rattle.art_map.proofs.Written.{same-pair-at}
use Rattle.art_map.proofs.AtEnds.{pairs-end}

module _ {K V : Type 0} where
  -- the test that a slab key stands in the list
  abbrev has_slot : ℕ → List (LeafAt K V) → Bool
  has_slot n [] = false
  has_slot n (l ∷ ls) = cond (eqb l.slot n) true (has_slot n ls)

  -- of two linked lists that begin with one leaf, the second has the leaf that ends a front of the first
  follow : (links : ℕ → Option Links) (b : ℕ) (y : LeafAt K V) (ys zs : List (LeafAt K V)) (before : Option ℕ) → AreLinked links before (y ∷ ys ++ zs) None → last_slot None (y ∷ ys) ≡ Some b
      → (r : LeafAt K V) (rs : List (LeafAt K V)) (other : Option ℕ) → AreLinked links other (r ∷ rs) None → y.slot ≡ r.slot → has_slot b (r ∷ rs) ≡ true
  follow links b y [] zs before linked last r rs other along same =
      let e : y.slot ≡ b = cc in
      let f : eqb r.slot b ≡ true = subst (λ n. eqb r.slot n ≡ true) (sym same ∙ e) (eqb-self r.slot) in
      rw f refl
  follow links b y (x ∷ ys) zs before linked last r rs other along same =
      let there : Some (record { previous = before; next = Some x.slot }) ≡ Some (record { previous = other; next = first_slot rs None }) = sym linked.0 ∙ ap links same ∙ along.0 in
      next (λ q qs. follow links b x ys zs (Some y.slot) linked.1 last q qs (Some r.slot)) rs (let e : ◌≡◌ {A = Links} (record { previous = before; next = Some x.slot }) (record { previous = other; next = first_slot rs None }) = cc in ap (λ (l : Links). l.next) e) along.1
    where
      next : ((q : LeafAt K V) (qs : List (LeafAt K V)) → AreLinked links (Some r.slot) (q ∷ qs) None → x.slot ≡ q.slot → has_slot b (q ∷ qs) ≡ true) → (rs : List (LeafAt K V)) → Some x.slot ≡ first_slot rs None
          → AreLinked links (Some r.slot) rs None → has_slot b (r ∷ rs) ≡ true
      next each [] e along = absurd (cc)
      next each (q ∷ qs) e along =
          let later = each q qs along (cc) in
          elim (eqb r.slot b) as (λ t. cond t true (has_slot b (q ∷ qs)) ≡ true) [
            | true ↦ refl
            | false ↦ later
          ]

  -- a list, cut after a leaf
  record Cut (b : ℕ) (ls : List (LeafAt K V)) : Type 0 where
    pub front : List (LeafAt K V)
    pub back : List (LeafAt K V)
    pub is : ls ≡ front ++ back
    pub first : first_slot front None ≡ first_slot ls None
    pub last : (before : Option ℕ) → last_slot before front ≡ Some b

  cut : (b : ℕ) (ls : List (LeafAt K V)) → has_slot b ls ≡ true → Cut b ls
  cut b [] has = absurd (cc)
  cut b (l ∷ ls) has = here (eqb l.slot b) refl has (cut b ls)
    where
      here : (t : Bool) → eqb l.slot b ≡ t → cond t true (has_slot b ls) ≡ true → (has_slot b ls ≡ true → Cut b ls) → Cut b (l ∷ ls)
      here true e has rest = record { front = l ∷ []; back = ls; is = refl; first = refl; last = λ before. ap Some (eqb-true l.slot b e) }
      here false e has rest =
          let later = rest has in
          record { front = l ∷ later.front; back = later.back; is = ap (λ xs. l ∷ xs) later.is; first = refl; last = λ before. later.last (Some l.slot) }

  -- a run has one pair of ends
  same-ends : (ys : List (LeafAt K V)) (old new : Ends) → HasEnds ys old → HasEnds ys new → old ≡ new
  same-ends ys None None e f = refl
  same-ends [] None (Some new) e f = let g = f.0 in absurd (cc)
  same-ends (y ∷ ys) None (Some new) e f = absurd (cc)
  same-ends [] (Some old) None e f = let g = e.0 in absurd (cc)
  same-ends (y ∷ ys) (Some old) None e f = absurd (cc)
  same-ends ys (Some old) (Some new) e f =
      let first : Some old.0 ≡ Some new.0 = sym e.0 ∙ f.0 in
      let last : Some old.1 ≡ Some new.1 = sym e.1 ∙ f.1 in
      let one : old.0 ≡ new.0 = cc in
      let two : old.1 ≡ new.1 = cc in
      ap₂ (λ a b. Some (a, b)) one two

module _ {K V : Type 0} (bytes : K → List ℕ) (is_key : K → Type 0) (P : ℕ) (arena : Arena K V) where
  -- a run that is remembered between two leaves of a map stands among its leaves
  between : (root : Option Name) → IsMap bytes is_key P arena root → (a b n : ℕ) → ∥ IsCounted arena (Some (a, b)) n ∥₁ → IsSome (held_at arena (leaf_name a)) → IsCounted arena (Some (a, b)) (leaves_left arena (Some (a, b)))
  between None map a b n run there = let none = map.has.1 (leaf_name a) in let some = cell-some (held_at arena (leaf_name a)) there in absurd (cc)
  between (Some top) map a b n run there =
      let Q = λ (x : LeafAt K V). node_at arena (leaf_name x.slot) ≡ Some (pair x.key x.value) in
      let links = links_at arena in
      let s = map.has.0 in
      let tree = map.has.1 in
      let is = written bytes P arena top s tree a there (leaf-there arena a there).leaf.value in
      let l : LeafAt K V = record { slot = a; key = is.key; value = is.value } in
      let list = subst (IsList links) is.had (tree-list bytes P (node_at arena) top links s tree) in
      let along = AreLinked-right links None is.front (l ∷ is.back) None list.linked in
      let has = ∥∥₁_elim run (Bool-set _ _) (λ r. begins l is.back (last_slot None is.front) along refl r.leaves r.walk) in
      let parts = cut b (l ∷ is.back) has in
      let stored = subst (AllByRecursion Q) is.had (leaves_are_held bytes P arena s (nodes-subtree bytes P (node_at arena) top s tree.nodes).part.held) in
      recounted arena (Some (a, b)) (length parts.front)
      (record {
        leaves = parts.front;
        walk = record { xs = is.front; zs = parts.back; list = subst (λ xs. IsList links (is.front ++ xs)) parts.is list; ends_are = (parts.first, parts.last None) };
        stored = all_left Q parts.front parts.back (subst (AllByRecursion Q) parts.is (all_right Q is.front (l ∷ is.back) stored));
        len_is = refl;
      })
    where
      begins : (l : LeafAt K V) (back : List (LeafAt K V)) (before : Option ℕ) → AreLinked (links_at arena) before (l ∷ back) None → l.slot ≡ a → (ys : List (LeafAt K V)) → IsWalk (links_at arena) (Some (a, b)) ys → has_slot b (l ∷ back) ≡ true
      begins l back before along is [] walk = let e = walk.ends_are.0 in absurd (cc)
      begins l back before along is (y ∷ ys) walk =
          follow (links_at arena) b y ys walk.zs (last_slot None walk.xs) (AreLinked-right (links_at arena) None walk.xs ((y ∷ ys) ++ walk.zs) None walk.list.linked) walk.ends_are.1 l back before along
          (front-is (links_at arena) a b y ys walk ∙ sym is)

  -- so a run that a walk remembers is one
  pub remembered : (root : Option Name) → IsMap bytes is_key P arena root → (ends : Ends) → ∥ IsRunIn (contents arena root) ends ∥₁ → IsRunIn (contents arena root) ends
  remembered root map None run =
      recounted arena None 0 (no-run (contents arena root))
  remembered root map (Some (a, b)) run =
      between root map a b (leaves_left arena (Some (a, b))) run (first-held arena (Some (a, b)) a b refl (∥∥₁_map run (λ r. (r.leaves, r.walk))))

module _ {K V : Type 0} (m : Contents K V) where
  -- a step at an end answers the leaf there, and leaves the others
  pub step : (end : End) (ends : Ends) → IsRunIn m ends → (result : Option ℕ) (new : Ends)
      → ((l : LeafAt K V) (ys zs : List (LeafAt K V)) → IsAtEnd end l ys zs → IsWalk (links_at m.nodes) ends zs → (result ≡ Some l.slot) × IsWalk (links_at m.nodes) new ys)
      → EndsWalk m.nodes ends new result → (result ≡ slot_at end ends) × (new ≡ left_at end m ends)
  step First None run result new answer none = none refl
  step Last None run result new answer none = none refl
  step end (Some (a, b)) run result new answer none =
      let p = parted m end a b run in
      let is = answer p.leaf p.rest run.leaves p.parts run.walk in
      (is.0 ∙ sym p.slot_is, same-ends p.rest new (left_at end m (Some (a, b))) is.1.ends_are p.walk.ends_are)

  -- the pair of the leaf is at the end of the pairs of the run, and those that are left are the others, whatever is written
  abbrev Tells : End → Ends → Ends → ℕ → Type 0
  Tells end ends after slot = HasLeafAt m slot × ((p : K × V) → HasPairAt m slot p → (w : V) → IsAtEnd end p (run_pairs (with_value_at m slot w) after) (run_pairs m ends))

  parted-tells : (end : End) (ends : Ends) (run : IsRunIn m ends) (p : RunParted m end ends run.leaves) → Tells end ends (left_at end m ends) p.leaf.slot
  parted-tells end ends run p =
      let there = cell_held (held_at m.nodes (leaf_name p.leaf.slot)) _ p.stored.0 in (
        there,
        λ q has w.
            let n = with_value_at m p.leaf.slot w in
            let left = run-pairs n.nodes (left_at end m ends) (length p.rest) (left-counted m n end ends run.leaves p (keeps-others m p.leaf.slot there w)) in
            rw (run-pairs m.nodes ends (leaves_left m.nodes ends) run, left, same-pair-at m p.leaf.slot q (leaf_pair p.leaf) has p.stored.0) (pairs-end end p.leaf p.rest run.leaves p.parts),
      )

  pub told : (end : End) (ends : Ends) → IsRunIn m ends → (result : Option ℕ) (new : Ends) → (result ≡ slot_at end ends) × (new ≡ left_at end m ends) → IfSome result (Tells end ends new)
  told end ends run None new is = tt
  told First None run (Some slot) new is = let e = is.0 in absurd (cc)
  told Last None run (Some slot) new is = let e = is.0 in absurd (cc)
  told end (Some (a, b)) run (Some slot) new is =
      let p = parted m end a b run in
      let same : p.leaf.slot ≡ slot = let e = sym p.slot_is ∙ sym is.0 in cc in
      subst (Tells end (Some (a, b)) new) same (subst (λ e. Tells end (Some (a, b)) e p.leaf.slot) (sym is.1) (parted-tells end (Some (a, b)) run p))
