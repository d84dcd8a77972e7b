-- The leaves of a linked run are freed from its first to its last.
use Rattle.std.proofs.Common.{◌≡◌, ◌≢◌, ℕ, ◌+◌, ◌<◌, ◌≤◌, List, [], ◌∷◌, ◌++◌, length, Some, None, IsSome, nat_eq, if◌then◌else◌, refl, sym, ap, subst, ◌∙◌, arith}
use Rattle.art_nodes.proofs.Common.{Name}
use Rattle.art_nodes.specs.declared.kind.NodeType.TheVariants.{Leaf}
use Rattle.art_nodes.specs.declared.leaf.LeafNode.{LeafNode}
use Rattle.art_arena.proofs.Common.{Arena, leaf_held, held_at, node_at, links_at, cell_of, leaves_held, Cell, pair, leaf_name, copies, UpdatesAt, Holds, Links, AreLinked, first_slot, last_slot, times, LeafAt, same_name-self, copies-append, copies-vacant, Holds-remove, leaves_counted}
use Rattle.art_arena.proofs.Common.{AreLinked-frame, slots_as, nodes-update, links-update, cell_held}
use Rattle.art_operations.proofs.Terms.{leaf_cells, HoldsRun, KeepsAllBut}
use Rattle.art_operations.proofs.NodesRead.{links-are}
use Rattle.art_operations.proofs.Freeing.{apart-from}

module _ {K V : Type 0} where
  -- these leaves of the run are left
  pub record IsRunLeft (old now : Arena K V) (ls : List (LeafAt K V)) (first last : ℕ) (rest : List (Name × Cell K V)) : Type 0 where
    pub left : List (LeafAt K V)
    pub run : HoldsRun now first last left rest
    pub names : (n : Name) → copies n (leaf_cells left) ≤ copies n (leaf_cells ls)
    pub kept : KeepsAllBut (leaf_cells ls) old now

  -- a run begins with a leaf that is held
  pub record IsRunOf (now : Arena K V) (first last : ℕ) (ls : List (LeafAt K V)) (rest : List (Name × Cell K V)) : Type 0 where
    pub key : K
    pub value : V
    pub more : List (LeafAt K V)
    pub is : ls ≡ record { slot = first; key = key; value = value } ∷ more
    pub there : node_at now (leaf_name first) ≡ Some (pair key value)

  pub run-first : (now : Arena K V) (first last : ℕ) (ls : List (LeafAt K V)) (rest : List (Name × Cell K V)) → HoldsRun now first last ls rest → IsRunOf now first last ls rest
  run-first now first last [] rest run = absurd (let e = run.first_is in cc)
  run-first now first last (l ∷ more) rest run =
      let e = run.first_is in
      let same : l.slot ≡ first = cc in
      record {
        key = l.key;
        value = l.value;
        more = more;
        is = ap (λ n. record { slot = n; key = l.key; value = l.value } ∷ more) same;
        there = ap (λ n. node_at now (leaf_name n)) (sym same) ∙ run.holds.held.0;
      }

  pub run-held : (now : Arena K V) (first last : ℕ) (ls : List (LeafAt K V)) (rest : List (Name × Cell K V)) → HoldsRun now first last ls rest → IsSome (held_at now (leaf_name first))
  run-held now first last ls rest run = let of = run-first now first last ls rest run in cell_held (held_at now (leaf_name first)) (pair of.key of.value) of.there

  -- the last leaf of a list stands in it
  last-in : (f m : ℕ) (l : LeafAt K V) (ls : List (LeafAt K V)) → last_slot (Some m) (l ∷ ls) ≡ Some f → 1 ≤ copies (leaf_name f) (leaf_cells (l ∷ ls))
  last-in f m l [] e = let same : l.slot ≡ f = cc in rw (same, same_name-self (leaf_name f)) (omega arith)
  last-in f m l (x ∷ ls) e = omega (arith, last-in f l.slot x ls e)

  pub times-copies : (n : ℕ) (ls : List (LeafAt K V)) → times n ls ≡ copies (leaf_name n) (leaf_cells ls)
  times-copies n [] = refl
  times-copies n (l ∷ ls) = ap (λ k. (if nat_eq n l.slot then 1 else 0) + k) (times-copies n ls)

  slots-of-leaves : (ls : List (LeafAt K V)) (rest : List (Name × Cell K V)) → length (slots_as Leaf (leaf_cells ls ++ rest)) ≡ length ls + length (slots_as Leaf rest)
  slots-of-leaves [] rest = omega arith
  slots-of-leaves (l ∷ ls) rest = omega (arith, slots-of-leaves ls rest)

  -- the leaves that are gone were those of the run
  pub run-gone : (old new : Arena K V) (first last : ℕ) (ls : List (LeafAt K V)) (rest : List (Name × Cell K V)) → HoldsRun old first last ls rest → Holds (node_at new) rest → leaves_held old ≡ length ls + leaves_held new
  run-gone old new first last ls rest run left = omega (arith, leaves_counted old (leaf_cells ls ++ rest) run.holds, leaves_counted new rest left, slots-of-leaves ls rest)

  module _ (now new : Arena K V) (first last : ℕ) (ls : List (LeafAt K V)) (rest : List (Name × Cell K V)) (run : HoldsRun now first last ls rest)
      (leaf : LeafNode K V) (value : held_at now (leaf_name first) ≡ Some (leaf_held leaf))
      (updates : UpdatesAt (held_at now) (held_at new) (leaf_name first) None) where
    abbrev of : IsRunOf now first last ls rest
    of = run-first now first last ls rest run

    -- the cells of the run without its first leaf
    cells_are : leaf_cells ls ≡ (leaf_name first, pair of.key of.value) ∷ leaf_cells of.more
    cells_are = ap leaf_cells of.is

    holds_more : Holds (node_at new) (leaf_cells of.more ++ rest)
    holds_more =
        Holds-remove (node_at now) (node_at new) (leaf_name first) (pair of.key of.value) [] (leaf_cells of.more ++ rest) (nodes-update now new (leaf_name first) None updates)
        (subst (λ xs. Holds (node_at now) (xs ++ rest)) cells_are run.holds)

    -- one leaf less is left
    pub run-less : leaves_held new < leaves_held now
    run-less =
        let was = leaves_counted now (leaf_cells ls ++ rest) run.holds in
        let is = leaves_counted new (leaf_cells of.more ++ rest) holds_more in
        omega (arith, was, is, ap (λ xs. length (slots_as Leaf (xs ++ rest))) cells_are)

    pub run-kept : KeepsAllBut (leaf_cells ls) now new
    run-kept n none = updates.others n (apart-from n (leaf_name first) (pair of.key of.value) (leaf_cells of.more) (ap (copies n) (sym cells_are) ∙ none))

    -- the leaf isn't among the others
    apart : copies (leaf_name first) (leaf_cells of.more) ≡ 0
    apart = omega (arith, copies-vacant (node_at new) (leaf_cells of.more ++ rest) (leaf_name first) holds_more (ap cell_of updates.changed), copies-append (leaf_name first) (leaf_cells of.more) rest)

    last_of_more : last_slot (Some first) of.more ≡ Some last
    last_of_more = ap (last_slot None) (sym of.is) ∙ run.last_is

    links_of_first : AreLinked (links_at now) run.before (record { slot = first; key = of.key; value = of.value } ∷ of.more) run.after
    links_of_first = subst (λ xs. AreLinked (links_at now) run.before xs run.after) of.is run.linked

    next_is : leaf.next ≡ first_slot of.more run.after
    next_is = sym (ap (λ (l : Links). l.next) (links-are (held_at now (leaf_name first)) leaf _ value links_of_first.0))

    -- where the leaf was the last one nothing of the run is left
    pub run-over : first ≡ last → Holds (node_at new) rest
    run-over same = subst (λ xs. Holds (node_at new) (leaf_cells xs ++ rest)) (none of.more apart last_of_more) holds_more
      where
        none : (more : List (LeafAt K V)) → copies (leaf_name first) (leaf_cells more) ≡ 0 → last_slot (Some first) more ≡ Some last → more ≡ []
        none [] absent e = refl
        none (l ∷ more) absent e = absurd (let here = last-in first first l more (e ∙ ap Some (sym same)) in omega (arith, here, absent))

    -- else its next one is the first of what is left
    pub run-next : (ls0 : List (LeafAt K V)) (old : Arena K V) → first ≢ last → ((n : Name) → copies n (leaf_cells ls) ≤ copies n (leaf_cells ls0)) → KeepsAllBut (leaf_cells ls0) old now
        → (next : ℕ) → leaf.next ≡ Some next → IsRunLeft old new ls0 next last rest
    run-next ls0 old other names kept next is = with_more of.more refl
      where
        with_more : (more : List (LeafAt K V)) → of.more ≡ more → IsRunLeft old new ls0 next last rest
        with_more [] e = absurd (other (let f = ap (last_slot (Some first)) (sym e) ∙ last_of_more in cc))
        with_more (l ∷ more) e = record {
          left = l ∷ more;
          run = record {
            before = Some first;
            after = run.after;
            linked = AreLinked-frame (links_at now) (links_at new) first None (links-update now new first None updates) (Some first) (l ∷ more) run.after
                (times-copies first (l ∷ more) ∙ ap (λ xs. copies (leaf_name first) (leaf_cells xs)) (sym e) ∙ apart)
                (subst (λ xs. AreLinked (links_at now) (Some first) xs run.after) e links_of_first.1);
            first_is = sym (ap (λ xs. first_slot xs run.after) e) ∙ sym next_is ∙ is;
            last_is = ap (last_slot (Some first)) (sym e) ∙ last_of_more;
            holds = subst (λ xs. Holds (node_at new) (leaf_cells xs ++ rest)) e holds_more;
          };
          names = λ n. omega (arith, names n, ap (copies n) cells_are, ap (λ xs. copies n (leaf_cells xs)) e);
          kept = λ n absent. run-kept n (omega (arith, names n, absent)) ∙ kept n absent;
        }

    -- there is a next one
    pub run-goes-on : first ≢ last → leaf.next ≡ None → ⊥
    run-goes-on other none = with_more of.more refl
      where
        with_more : (more : List (LeafAt K V)) → of.more ≡ more → ⊥
        with_more [] e = other (let f = ap (last_slot (Some first)) (sym e) ∙ last_of_more in cc)
        with_more (l ∷ more) e = let f = sym none ∙ next_is ∙ ap (λ xs. first_slot xs run.after) e in cc

    pub run-end : (ls0 : List (LeafAt K V)) (old : Arena K V) → ((n : Name) → copies n (leaf_cells ls) ≤ copies n (leaf_cells ls0)) → KeepsAllBut (leaf_cells ls0) old now → KeepsAllBut (leaf_cells ls0) old new
    run-end ls0 old names kept n absent = run-kept n (omega (arith, names n, absent)) ∙ kept n absent
