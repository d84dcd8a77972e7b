-- The counted runs of the leaves of a tree: of all, and of those whose keys pass a test.
use Rattle.std.proofs.Common.{◌≡◌, ℕ, Bool, List, [], length, Some, None, refl, sym, subst, ◌∙◌}
use Rattle.std.proofs.lemmas.List.{append-nil}
use Rattle.art_nodes.proofs.Common.{Name}
use Rattle.art_arena.proofs.Common.{Arena, node_at, links_at, passing, pairs_of, IsList, first_slot, last_slot, Shape, leaves, Stores, StoresOnly, nodes-subtree, leaves_are_held, tree-list}
use Rattle.art_operations.proofs.Common.{AreEndsWhere, IsConvex}
use Rattle.art_walks.proofs.Common.{Ends, HasEnds, IsCounted, span-in}
use Rattle.art_walks.proofs.Spans.{passing-pairs}

module _ {K V : Type 0} (bytes : K → List ℕ) (P : ℕ) (arena : Arena K V) (top : Name) (s : Shape K V) (tree : StoresOnly bytes P arena top s) where
  pub stores : Stores bytes P arena top s
  stores = nodes-subtree bytes P (node_at arena) top s tree.nodes

  pub all-run : (ends : Ends) (first last len : ℕ) → first_slot (leaves s) None ≡ Some first → last_slot None (leaves s) ≡ Some last → ends ≡ Some (first, last) → len ≡ length (leaves s)
      → (run : IsCounted arena ends len) × (run.leaves ≡ leaves s)
  all-run ends first last len front back is counted = (
    record {
      leaves = leaves s;
      walk = record { xs = []; zs = []; list = subst (IsList (links_at arena)) (sym (append-nil (leaves s))) (tree-list bytes P (node_at arena) top (links_at arena) s tree); ends_are = subst (HasEnds (leaves s)) (sym is) (front, back) };
      stored = leaves_are_held bytes P arena s stores.part.held;
      len_is = counted;
    },
    refl,
  )

  -- of those whose keys pass a test that takes a stretch of keys
  pub passing-run : (test : List ℕ → Bool) → IsConvex test → (ends : Ends) → AreEndsWhere bytes test (leaves s) ends
      → (n : ℕ) × (run : IsCounted arena ends n) × (pairs_of run.leaves ≡ pairs_of (passing bytes test (leaves s)))
  passing-run test convex ends answer =
      let span = span-in bytes P arena top s tree test convex (pairs_of (leaves s)) refl ends answer in
      (_, span.run, span.pairs_are ∙ sym (passing-pairs bytes test (leaves s)))
