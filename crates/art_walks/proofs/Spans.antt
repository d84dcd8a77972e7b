-- The pairs whose keys pass a test stand together where the test takes a stretch of keys: their leaves are a span.
use Rattle.std.proofs.Common.{◌≡◌, ℕ, Bool, true, false, cond, filter, List, [], ◌∷◌, ◌++◌, length, Some, None, refl, sym, ap, subst, ◌∙◌}
use Rattle.std.specs.List.{AllByRecursion}
use Rattle.std.proofs.lemmas.List.{length-map, map-append}
use Rattle.art_nodes.proofs.Common.{Name}
use Rattle.art_arena.proofs.Common.{Arena, links_at, node_at, Cell, leaf_name, pair, passing, IsList, Shape, LeafAt, leaves, pairs_of, StoresBeside, nodes-subtree, leaves_are_held, tree-list}
use Rattle.art_operations.proofs.Common.{AreEndsWhere, leaf_pair, tree_ascends, IsConvex, stretch}
use Rattle.art_walks.proofs.Terms.{IsSpanOf, Ends, HasEnds}

-- what holds of all items holds of those that pass
pub all-filter : {X : Type 0} (P : X → Type 0) (test : X → Bool) (xs : List X) → AllByRecursion P xs → AllByRecursion P (filter test xs)
all-filter P test [] all = tt
all-filter P test (x ∷ xs) all = elim (test x) as (λ b. AllByRecursion P (cond b (x ∷ filter test xs) (filter test xs))) [
  | true ↦ (all.0, all-filter P test xs all.1)
  | false ↦ all-filter P test xs all.1
]

module _ {K V : Type 0} (bytes : K → List ℕ) (test : List ℕ → Bool) where
  -- the pairs that pass are those of the leaves that pass
  pub passing-pairs : (ls : List (LeafAt K V)) → pairs_of (passing bytes test ls) ≡ filter (λ p. test (bytes p.0)) (pairs_of ls)
  passing-pairs [] = refl
  passing-pairs (l ∷ ls) = here (test (bytes l.key)) refl (passing-pairs ls)
    where
      here : (b : Bool) → test (bytes l.key) ≡ b → pairs_of (passing bytes test ls) ≡ filter (λ p. test (bytes p.0)) (pairs_of ls) → pairs_of (passing bytes test (l ∷ ls)) ≡ filter (λ p. test (bytes p.0)) (pairs_of (l ∷ ls))
      here true t rest = rw t (ap (λ ps. (l.key, l.value) ∷ ps) rest)
      here false t rest = rw t rest

  -- the ends of those that pass are the ends of their walk
  pub ends-walk : (ls : List (LeafAt K V)) (ends : Ends) → AreEndsWhere bytes test ls ends → HasEnds (passing bytes test ls) ends
  ends-walk ls None h = h
  ends-walk ls (Some ends) h = h

module _ {K V : Type 0} (bytes : K → List ℕ) (P : ℕ) (arena : Arena K V) (root : Name) {rest : List (Name × Cell K V)} (s : Shape K V) (tree : StoresBeside bytes P arena root rest s) (test : List ℕ → Bool) (convex : IsConvex test) where
  -- the pairs that pass stand together, between the ends of their leaves
  pub span-in : (pairs : List (K × V)) → pairs_of (leaves s) ≡ pairs → (ends : Ends) → AreEndsWhere bytes test (leaves s) ends → IsSpanOf arena pairs ends (filter (λ p. test (bytes p.0)) pairs)
  span-in pairs seen ends answer =
      let stores = nodes-subtree bytes P (node_at arena) root s tree.nodes in
      let run = stretch bytes test convex (leaves s) (tree_ascends bytes P arena root s stores) in
      let pairs_are : pairs_of (passing bytes test (leaves s)) ≡ filter (λ p. test (bytes p.0)) pairs = passing-pairs bytes test (leaves s) ∙ ap (filter (λ p. test (bytes p.0))) seen in
      record {
        front = pairs_of run.front;
        back = pairs_of run.back;
        parts = sym seen ∙ ap pairs_of run.parts ∙ map-append leaf_pair run.front (passing bytes test (leaves s) ++ run.back)
            ∙ ap (λ ps. pairs_of run.front ++ ps) (map-append leaf_pair (passing bytes test (leaves s)) run.back ∙ ap (λ ps. ps ++ pairs_of run.back) pairs_are);
        run = record {
          leaves = passing bytes test (leaves s);
          walk = record {
            xs = run.front;
            zs = run.back;
            list = subst (IsList (links_at arena)) run.parts (tree-list bytes P (node_at arena) root (links_at arena) s tree);
            ends_are = ends-walk bytes test (leaves s) ends answer;
          };
          stored = all-filter (λ l. node_at arena (leaf_name l.slot) ≡ Some (pair l.key l.value)) (λ l. test (bytes l.key)) (leaves s) (leaves_are_held bytes P arena s stores.part.held);
          len_is = ap length (sym pairs_are) ∙ length-map (passing bytes test (leaves s)) leaf_pair;
        };
        pairs_are = pairs_are;
      }
