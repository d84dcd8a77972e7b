-- A leaf that a hint names, and the leaves between two bounds that are found by it.
use Rattle.std.proofs.Common.{◌≡◌, ◌==◌, ℕ, suc, arith, inl, inr, Bool, true, false, not, length, is_some, List, [], ◌∷◌, ◌++◌, Option, Some, None, IsSome, refl, sym, ap, subst, ◌∙◌}
use Rattle.std.specs.Prelude.{IfSome}
use Rattle.std.specs.List.{AllByRecursion}
use Rattle.std.specs.BTreeMap.Range.{is_from_start, is_past_end}
use Rattle.std.specs.declared.ops.Bound.{Bound}
use Rattle.std.proofs.lemmas.Bool.Decides.{eqb_tells}
use Rattle.std.proofs.lemmas.List.Elements.{filter-append}
use Rattle.art_bytes.proofs.Common.{bytes_cmp}
use Rattle.art_nodes.proofs.Common.{Name}
use Rattle.art_nodes.specs.declared.leaf.LeafNode.{LeafNode}
use Rattle.art_arena.proofs.Common.{Arena, leaf_held, held_at, node_at, cell_of, links_of, links_at, pair, leaf_name, passing, Links, AreLinked, first_slot, last_slot, Shape, LeafAt, leaves, pairs_of, Stores}
use Rattle.art_arena.proofs.Common.{AscendsByKey, AreLinked-right, last_slot-append, leaves_are_held, holds_pair, nodes-subtree, all_at, all_weaker}
use Rattle.art_operations.proofs.Common.{HasLeaves, tree_ascends, written}
use Rattle.art_operations.proofs.KeyedLists.{none-pass}
use Rattle.art_operations.proofs.RangeEnds.{StartsAt, starts-at}
use Rattle.art_operations.proofs.Stretches.{from_later, past_later}
use Rattle.art_operations.proofs.Terms.{slot_inside}
use Rattle.art_walks.proofs.Terms.{Ends, HasEnds, IsCounted, IsWalk, leaves_left, pairs_left}
use Rattle.art_walks.proofs.RunLengths.{Stepped, put_at, run-pairs, stepped}
use Rattle.art_arena.specs.declared.ends.End.{End}
use Rattle.art_map.proofs.Terms.{contents, AreLeaves, IsMap}
use Rattle.art_map.proofs.MapLeaves.{map-leaves}
use Rattle.art_map.specs.LeafRuns.{beside, is_inside}

pub not-false : (b : Bool) → not b ≡ false → b ≡ true
not-false true e = refl
not-false false e = absurd (cc)

pub not-true : (b : Bool) → not b ≡ true → b ≡ false
not-true true e = absurd (cc)
not-true false e = refl

-- what is so of an option's value
pub some-of : (Q : ℕ → Type 0) (o : Option ℕ) → IfSome o Q → (n : ℕ) → o ≡ Some n → Q n
some-of Q None i n e = absurd (cc)
some-of Q (Some m) i n e = let same : m ≡ n = cc in subst Q same i

abbrev previous_of : Option Links → Option ℕ
previous_of None = None
previous_of (Some links) = links.previous

abbrev next_of : Option Links → Option ℕ
next_of None = None
next_of (Some links) = links.next

module _ {K V : Type 0} (bytes : K → List ℕ) (arena : Arena K V) where
  abbrev key_at : LeafAt K V → List ℕ
  key_at l = bytes l.key

  abbrev IsHeld : LeafAt K V → Type 0
  IsHeld l = node_at arena (leaf_name l.slot) ≡ Some (pair l.key l.value)

  -- the test fails at the leaf with this slab key
  abbrev pub FailsAt : (List ℕ → Bool) → ℕ → Type 0
  FailsAt test slot = (l : LeafNode K V) → held_at arena (leaf_name slot) ≡ Some (leaf_held l) → test (bytes l.key) ≡ false

  fails : (test : List ℕ → Bool) (l : LeafAt K V) → IsHeld l → FailsAt test l.slot → test (bytes l.key) ≡ false
  fails test l held off = let h = holds_pair (held_at arena (leaf_name l.slot)) l.key l.value held in ap (λ k. test (bytes k)) (sym h.key) ∙ off h.leaf h.is

  later-up : (front back : List (LeafAt K V)) → AscendsByKey key_at (front ++ back) → AscendsByKey key_at back
  later-up [] back up = up
  later-up (x ∷ front) back up = later-up front back up.1

  later-held : (front back : List (LeafAt K V)) → AllByRecursion IsHeld (front ++ back) → AllByRecursion IsHeld back
  later-held [] back held = held
  later-held (x ∷ front) back held = later-held front back held.1

  module _ (bound : Bound (List ℕ)) where
    abbrev from : List ℕ → Bool
    from k = is_from_start bytes_cmp bound k

    abbrev up_to : List ℕ → Bool
    up_to k = not (is_past_end bytes_cmp bound k)

    -- where the last of some leaves is not from a start on, none is
    none-before : (front rest : List (LeafAt K V)) → AscendsByKey key_at (front ++ rest) → AllByRecursion IsHeld (front ++ rest) → ((slot : ℕ) → last_slot None front ≡ Some slot → FailsAt from slot) → passing bytes from front ≡ []
    none-before [] rest up held off = refl
    none-before (x ∷ []) rest up held off = rw (fails from x held.0 (off x.slot refl)) refl
    none-before (x ∷ y ∷ ys) rest up held off = here (from (bytes x.key)) refl (none-before (y ∷ ys) rest up.1 held.1 off)
      where
        here : (b : Bool) → from (bytes x.key) ≡ b → passing bytes from (y ∷ ys) ≡ [] → passing bytes from (x ∷ y ∷ ys) ≡ []
        here true t none = let e = rw (from_later bound (bytes x.key) (bytes y.key) up.0.0 t) at none in absurd (cc)
        here false t none = rw t none

    -- and where the first of some is past an end, all are
    none-after : (back : List (LeafAt K V)) → AscendsByKey key_at back → AllByRecursion IsHeld back → ((slot : ℕ) → first_slot back None ≡ Some slot → FailsAt up_to slot) → passing bytes up_to back ≡ []
    none-after [] up held off = refl
    none-after (x ∷ xs) up held off =
        let past = not-false (is_past_end bytes_cmp bound (bytes x.key)) (fails up_to x held.0 (off x.slot refl)) in
        none-pass (λ l. up_to (bytes l.key)) (x ∷ xs) (ap not past, all_weaker _ _ (λ r b. ap not (past_later bound (bytes x.key) (bytes r.key) b past)) xs up.0)

    first-is : (front : List (LeafAt K V)) (l : LeafAt K V) (back : List (LeafAt K V)) → from (bytes l.key) ≡ true → passing bytes from front ≡ [] → slot_inside bytes true bound (front ++ l ∷ back) ≡ Some l.slot
    first-is front l back on none =
        ap (λ xs. first_slot xs None) (filter-append (λ (m : LeafAt K V). from (bytes m.key)) front (l ∷ back) ∙ ap (λ xs. xs ++ passing bytes from (l ∷ back)) none) ∙ rw on refl

    last-is : (front : List (LeafAt K V)) (l : LeafAt K V) (back : List (LeafAt K V)) → up_to (bytes l.key) ≡ true → passing bytes up_to back ≡ [] → slot_inside bytes false bound (front ++ l ∷ back) ≡ Some l.slot
    last-is front l back on none =
        ap (last_slot None) (filter-append (λ (m : LeafAt K V). up_to (bytes m.key)) front (l ∷ back)) ∙ rw (on, none) (last_slot-append None (passing bytes up_to front) (l ∷ []))

    -- a leaf that is inside, where the one beside it is not, is the first or the last
    at-bound : (is_start : Bool) (front : List (LeafAt K V)) (l : LeafAt K V) (back : List (LeafAt K V)) → AscendsByKey key_at (front ++ l ∷ back) → AllByRecursion IsHeld (front ++ l ∷ back) → (leaf : LeafNode K V)
        → leaf.previous ≡ last_slot None front → leaf.next ≡ first_slot back None → is_inside is_start bound (bytes l.key) ≡ true → ((slot : ℕ) → beside is_start leaf ≡ Some slot → FailsAt (is_inside is_start bound) slot)
        → slot_inside bytes is_start bound (front ++ l ∷ back) ≡ Some l.slot
    at-bound true front l back up held leaf previous next on off = first-is front l back on (none-before front (l ∷ back) up held (λ slot e. off slot (previous ∙ e)))
    at-bound false front l back up held leaf previous next on off =
        last-is front l back on (none-after back (later-up front (l ∷ back) up).1 (later-held front (l ∷ back) held).1 (λ slot e. off slot (next ∙ e)))

  module _ (P : ℕ) where
    pub leaves-up : (root : Option Name) (ls : List (LeafAt K V)) → HasLeaves bytes P arena root ls → AscendsByKey key_at ls
    leaves-up None ls are = subst (AscendsByKey key_at) (sym are.0) tt
    leaves-up (Some top) ls are =
        subst (AscendsByKey key_at) are.2 (tree_ascends bytes P arena top are.0 (nodes-subtree bytes P (node_at arena) top are.0 are.1.nodes))

    pub leaves-held : (root : Option Name) (ls : List (LeafAt K V)) → HasLeaves bytes P arena root ls → AllByRecursion IsHeld ls
    leaves-held None ls are = subst (AllByRecursion IsHeld) (sym are.0) tt
    leaves-held (Some top) ls are =
        subst (AllByRecursion IsHeld) are.2 (leaves_are_held bytes P arena are.0 (nodes-subtree bytes P (node_at arena) top are.0 are.1.nodes).part.held)

    -- a map has leaves
    pub some-leaves : (is_key : K → Type 0) (root : Option Name) → IsMap bytes is_key P arena root → (ls : List (LeafAt K V)) × AreLeaves bytes P (contents arena root) ls
    some-leaves is_key None map = ([], map-leaves bytes P arena None [] (refl, map.has.1))
    some-leaves is_key (Some top) map = (leaves map.has.0, map-leaves bytes P arena (Some top) (leaves map.has.0) (map.has.0, map.has.1, refl))

    -- the leaf under a name, where it is inside a bound and the one beside it is not
    pub named-at-bound : (root : Option Name) (slot : ℕ) (leaf : LeafNode K V) → held_at arena (leaf_name slot) ≡ Some (leaf_held leaf) → (is_start : Bool) (bound : Bound (List ℕ)) → is_inside is_start bound (bytes leaf.key) ≡ true
        → ((other : ℕ) → beside is_start leaf ≡ Some other → FailsAt (is_inside is_start bound) other) → (ls : List (LeafAt K V)) → HasLeaves bytes P arena root ls → slot_inside bytes is_start bound ls ≡ Some slot
    named-at-bound None slot leaf held is_start bound on off ls are = let e = sym (ap cell_of held) ∙ are.1 (leaf_name slot) in absurd (cc)
    named-at-bound (Some top) slot leaf held is_start bound on off ls are =
        let s = are.0 in
        let tree = are.1 in
        let at = written bytes P arena top s tree slot (subst IsSome (sym held) refl) leaf.value in
        let l : LeafAt K V = record { slot = slot; key = at.key; value = at.value } in
        let is : ls ≡ at.front ++ l ∷ at.back = sym are.2 ∙ at.had in
        let e = sym (ap cell_of held) ∙ at.held in
        let key : leaf.key ≡ at.key = cc in
        let linked = subst (λ xs. AreLinked (links_at arena) None xs None) at.had tree.linked in
        let here = sym (ap links_of held) ∙ (AreLinked-right (links_at arena) None at.front (l ∷ at.back) None linked).0 in
        subst (λ xs. slot_inside bytes is_start bound xs ≡ Some slot) (sym is)
        (at-bound bound is_start at.front l at.back (subst (AscendsByKey key_at) is (leaves-up (Some top) ls are)) (subst (AllByRecursion IsHeld) is (leaves-held (Some top) ls are)) leaf (ap previous_of here) (ap next_of here)
        (ap (λ k. is_inside is_start bound (bytes k)) (sym key) ∙ on) off)

    -- the one that is found in the tree
    pub found-at-bound : (root : Option Name) (top : Name) → root ≡ Some top → (result : Option ℕ) (is_start : Bool) (bound : Bound (List ℕ))
        → ((s : Shape K V) → Stores bytes P arena top s → AreLinked (links_at arena) None (leaves s) None → result ≡ slot_inside bytes is_start bound (leaves s)) → (ls : List (LeafAt K V)) → HasLeaves bytes P arena root ls
        → result ≡ slot_inside bytes is_start bound ls
    found-at-bound root top is result is_start bound answer ls are =
        let has : HasLeaves bytes P arena (Some top) ls = subst (λ r. HasLeaves bytes P arena r ls) is are in
        answer has.0 (nodes-subtree bytes P (node_at arena) top has.0 has.1.nodes) has.1.linked ∙ ap (slot_inside bytes is_start bound) has.2

    pub none-at-bound : (root : Option Name) → root ≡ None → (is_start : Bool) (bound : Bound (List ℕ)) (ls : List (LeafAt K V)) → HasLeaves bytes P arena root ls → None ≡ slot_inside bytes is_start bound ls
    none-at-bound root is is_start bound ls are =
        let has : HasLeaves bytes P arena None ls = subst (λ r. HasLeaves bytes P arena r ls) is are in
        subst (λ xs. None ≡ slot_inside bytes is_start bound xs) (sym has.0) (empty is_start)
      where
        empty : (b : Bool) → None ≡ slot_inside {V = V} bytes b bound []
        empty true = refl
        empty false = refl

    -- the first leaf from a start on
    module _ (start end : Bound (List ℕ)) (root : Option Name) (ls : List (LeafAt K V)) (are : HasLeaves bytes P arena root ls) (first : ℕ) (found : Some first ≡ slot_inside bytes true start ls) where
      pub starts : StartsAt bytes start end ls first
      starts = starts-at bytes start end ls first (leaves-up root ls are) (sym found)

      pub start-held : node_at arena (leaf_name first) ≡ Some (pair starts.leaf.key starts.leaf.value)
      start-held = subst (λ n. node_at arena (leaf_name n) ≡ Some (pair starts.leaf.key starts.leaf.value)) starts.is (all_at IsHeld starts.leaf ls (leaves-held root ls are) starts.among)

      -- whose key is read
      pub start-read : (p : K × V) → node_at arena (leaf_name first) ≡ Some (pair p.0 p.1) → p.0 ≡ starts.leaf.key
      start-read p told = let e = sym told ∙ start-held in cc

-- a step of a run whose ends are known
module _ {K V : Type 0} (arena : Arena K V) (end : End) (old new : Ends) (first last : ℕ) (is : old ≡ Some (first, last)) (run : IsCounted arena old (leaves_left arena old)) (slot : ℕ)
    (answer : (l : LeafAt K V) (ys : List (LeafAt K V)) → IsWalk (links_at arena) (Some (first, last)) (put_at end l ys) → (Some slot ≡ Some l.slot) × IsWalk (links_at arena) new ys) where
  pub run-step : Stepped arena end old new slot
  run-step = stepped arena end old new run slot (λ l ys walk. answer l ys (subst (λ e. IsWalk (links_at arena) e (put_at end l ys)) is walk)) (λ none. absurd (cc))

  pub run-reads : (leaf : LeafNode K V) → held_at arena (leaf_name slot) ≡ Some (leaf_held leaf) → (k : K) (v : V) → k ≡ leaf.key → v ≡ leaf.value → pairs_left arena old ≡ put_at end (k, v) (pairs_left arena new)
  run-reads leaf held k v key value =
      run-step.read k v (λ l e. let f = sym held ∙ e in let same : leaf ≡ l = cc in key ∙ ap (λ (m : LeafNode K V). m.key) same) (λ l e. let f = sym held ∙ e in let same : leaf ≡ l = cc in value ∙ ap (λ (m : LeafNode K V). m.value) same)

not-zero : (n : ℕ) → (suc n == 0) ≡ false
not-zero n = elim (eqb_tells (suc n) 0) [ inl same ↦ absurd (omega (arith, same.1)) | inr other ↦ other.0 ]

-- a run has no end where no pair is left of it
module _ {K V : Type 0} (arena : Arena K V) where
  pub none-left : (ends : Ends) (r : Bool) → is_some ends ≡ not r → IsCounted arena ends (leaves_left arena ends) → r ≡ (length (pairs_left arena ends) == 0)
  none-left None true e run = sym (ap (λ (ps : List (K × V)). length ps == 0) (run-pairs arena None (leaves_left arena None) run ∙ ap pairs_of run.walk.ends_are))
  none-left None false e run = absurd (cc)
  none-left (Some ends) true e run = absurd (cc)
  none-left (Some ends) false e run = here run.leaves run.walk.ends_are (run-pairs arena (Some ends) (leaves_left arena (Some ends)) run)
    where
      here : (ls : List (LeafAt K V)) → HasEnds {K = K} {V = V} ls (Some ends) → pairs_left arena (Some ends) ≡ pairs_of ls → false ≡ (length (pairs_left arena (Some ends)) == 0)
      here [] is pairs = let none = is.0 in absurd (cc)
      here (l ∷ ls) is pairs = sym (ap (λ (ps : List (K × V)). length ps == 0) pairs ∙ not-zero (length (pairs_of ls)))
