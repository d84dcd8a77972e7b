-- The walk over the pairs of a map whose keys pass a test: their leaves are a run of neighbours.
use Rattle.std.proofs.Common.{◌≡◌, ℕ, Bool, filter, List, [], ◌∷◌, Option, Some, None, refl, sym, ap, subst}
use Rattle.art_nodes.proofs.Common.{Name}
use Rattle.art_arena.proofs.Common.{Arena, node_at, links_at, passing, AreLinked, Shape, LeafAt, leaves, pairs_of, Stores, StoresOnly, nodes-subtree}
use Rattle.art_operations.proofs.Common.{AreEndsWhere, HasPairs, tree_ascends, IsConvex, stretch}
use Rattle.art_map.proofs.Terms.{contents, AreLeaves, IsMap, pairs_from, IsRun, pairs_between, IsWalkOf}
use Rattle.std.specs.declared.ops.Bound.TheVariants.{Unbounded}
use Rattle.art_walks.proofs.Common.{Ends, ends-walk, span-in}
use Rattle.art_walks.proofs.MapReads.{no-span}
use Rattle.art_map.proofs.MapLeaves.{map-leaves}

module _ {K V : Type 0} (bytes : K → List ℕ) (is_key : K → Type 0) (P : ℕ) (arena : Arena K V) where
  walk-in : (top : Name) (s : Shape K V) (pairs : List (K × V)) → StoresOnly bytes P arena top s → pairs_of (leaves s) ≡ pairs → (test : List ℕ → Bool) → IsConvex test → (ends : Ends) → AreEndsWhere bytes test (leaves s) ends
      → IsWalkOf arena ends (filter (λ p. test (bytes p.0)) pairs)
  walk-in top s pairs tree seen test convex ends answer =
      let span = span-in bytes P arena top s tree test convex pairs seen ends answer in record { run = span.run; pairs_are = span.pairs_are }

  -- and they are neighbours among the leaves of the map
  run-in : (top : Name) (s : Shape K V) → StoresOnly bytes P arena top s → (test : List ℕ → Bool) → IsConvex test → (ends : Ends) → AreEndsWhere bytes test (leaves s) ends → IsRun bytes P (contents arena (Some top)) ends
  run-in top s tree test convex ends answer =
      let run = stretch bytes test convex (leaves s) (tree_ascends bytes P arena top s (nodes-subtree bytes P (node_at arena) top s tree.nodes)) in
      record {
        front = run.front;
        run = passing bytes test (leaves s);
        back = run.back;
        leaves = map-leaves bytes P arena (Some top) _ (s, tree, run.parts);
        ends_are = ends-walk bytes test (leaves s) ends answer;
      }

  module _ (root : Option Name) (top : Name) (is : root ≡ Some top) (map : IsMap bytes is_key P arena root) where
    has_top : HasPairs bytes P arena (Some top) (pairs_from arena root)
    has_top = subst (λ r. HasPairs bytes P arena r (pairs_from arena root)) is map.has

    -- the tree of the root, whose leaves are linked
    pub top-tree : (s : Shape K V) × Stores bytes P arena top s × AreLinked (links_at arena) None (leaves s) None
    top-tree = (has_top.0, nodes-subtree bytes P (node_at arena) top has_top.0 has_top.1.nodes, has_top.1.linked)

    pub top-stores : (s : Shape K V) × Stores bytes P arena top s
    top-stores = (top-tree.0, top-tree.1)

    pub walk-where : (test : List ℕ → Bool) → IsConvex test → (ends : Ends) → ((s : Shape K V) → Stores bytes P arena top s → AreLinked (links_at arena) None (leaves s) None → AreEndsWhere bytes test (leaves s) ends)
        → IsWalkOf arena ends (filter (λ p. test (bytes p.0)) (pairs_from arena root))
    walk-where test convex ends answer =
        walk-in top has_top.0 (pairs_from arena root) has_top.1 has_top.2 test convex ends (answer has_top.0 (nodes-subtree bytes P (node_at arena) top has_top.0 has_top.1.nodes) has_top.1.linked)

    pub run-where : (test : List ℕ → Bool) → IsConvex test → (ends : Ends) → ((s : Shape K V) → Stores bytes P arena top s → AreLinked (links_at arena) None (leaves s) None → AreEndsWhere bytes test (leaves s) ends)
        → IsRun bytes P (contents arena root) ends
    run-where test convex ends answer =
        subst (λ r. IsRun bytes P (contents arena r) ends) (sym is)
        (run-in top has_top.0 has_top.1 test convex ends (answer has_top.0 (nodes-subtree bytes P (node_at arena) top has_top.0 has_top.1.nodes) has_top.1.linked))

  -- of an empty map
  pub run-nowhere : (root : Option Name) → root ≡ None → IsMap bytes is_key P arena root → IsRun bytes P (contents arena root) None
  run-nowhere root is map =
      let none : HasPairs bytes P arena None (pairs_from arena root) = subst (λ r. HasPairs bytes P arena r (pairs_from arena root)) is map.has in
      subst (λ r. IsRun bytes P (contents arena r) None) (sym is) (record { front = []; run = []; back = []; leaves = map-leaves bytes P arena None [] (refl, none.1); ends_are = refl })

  pub walk-nowhere : (root : Option Name) (keep : K × V → Bool) → root ≡ None → IsMap bytes is_key P arena root → IsWalkOf arena None (filter keep (pairs_from arena root))
  walk-nowhere root keep is map =
      let span = no-span arena [] refl keep in
      subst (λ r. IsWalkOf arena None (filter keep (pairs_from arena r))) (sym is) (record { run = span.run; pairs_are = span.pairs_are })

  -- by whatever leaves the map has
  pub walk-by-leaves : (root : Option Name) → IsMap bytes is_key P arena root → (test : List ℕ → Bool) → IsConvex test → (ends : Ends) → ((ls : List (LeafAt K V)) → AreLeaves bytes P (contents arena root) ls → AreEndsWhere bytes test ls ends)
      → IsWalkOf arena ends (filter (λ p. test (bytes p.0)) (pairs_from arena root))
  walk-by-leaves None map test convex ends answer = here ends (answer [] (map-leaves bytes P arena None [] (refl, map.has.1)))
    where
      here : (e : Ends) → AreEndsWhere {K = K} {V = V} bytes test [] e → IsWalkOf arena e (filter (λ p. test (bytes p.0)) (pairs_from arena None))
      here None is = walk-nowhere None (λ p. test (bytes p.0)) refl map
      here (Some e) is = let none = is.0 in absurd (cc)
  walk-by-leaves (Some top) map test convex ends answer =
      let s = map.has.0 in walk-in top s (pairs_from arena (Some top)) map.has.1 map.has.2 test convex ends (answer (leaves s) (map-leaves bytes P arena (Some top) (leaves s) (s, map.has.1, refl)))

-- where neither bound is named, all are between
pub all-between : {K V : Type 0} (bytes : K → List ℕ) (pairs : List (K × V)) → pairs_between bytes Unbounded Unbounded pairs ≡ pairs
all-between bytes [] = refl
all-between bytes (p ∷ pairs) = ap (λ ps. p ∷ ps) (all-between bytes pairs)
