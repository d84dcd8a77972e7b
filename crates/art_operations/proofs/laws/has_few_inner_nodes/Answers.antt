use Rattle.std.proofs.Common.{◌≡◌, ℕ, ◌-◌, ◌≤◌, Bool, List, [], ◌∷◌, length, Option, Some, ap, arith}
use Rattle.art_arena.proofs.Common.{Tree, items, IsCanonical, tree_of_ascending}
use Rattle.art_arena.proofs.tree.Sizes.{few_nodes}
use Rattle.art_operations.specs.Laws.{HasFewInnerNodes, inner_count}
use Rattle.art_operations.proofs.laws.has_few_inner_nodes.Goals as goal

-- the inner nodes of a canonical tree of these pairs
few_of : {X : Type 0} (key : X → List ℕ) (pairs : List X) (tree : Option (Tree X)) (t : Tree X) → tree ≡ Some t → IsCanonical key [] t → items t ≡ pairs
    → (test : ℕ → Bool) → inner_count test tree ≤ length pairs - 1
few_of key pairs tree t is canonical same test = let n = few_nodes key test [] t canonical in rw is (omega (arith, n, ap length same))

few : (X : Type 0) → HasFewInnerNodes X
few X key [] ascends test = omega arith
few X key (x ∷ xs) ascends test = let e = tree_of_ascending key x xs ascends in few_of key (x ∷ xs) _ e.0 e.1 e.2 e.3 test

pub returns : goal.returns
returns g c = few _
