use Rattle.std.proofs.Common.{◌≡◌, ℕ, Bool, List, [], ◌∷◌, length, Option, Some, refl, ap, ◌∙◌}
use Rattle.art_arena.proofs.Common.{fronts_with, Tree, items, IsCanonical, tree_of_ascending, kinds_are_fronts}
use Rattle.art_operations.specs.Laws.{CountsAreFrontsOfPairs, inner_count, leaf_count}
use Rattle.art_operations.proofs.laws.counts_are_fronts_of_pairs.Goals as goal

-- the counts of a canonical tree of these pairs
counts_of : {X : Type 0} (key : X → List ℕ) (pairs : List X) (tree : Option (Tree X)) (t : Tree X) → tree ≡ Some t → IsCanonical key [] t → items t ≡ pairs
    → (leaf_count tree ≡ length pairs) × ((test : ℕ → Bool) → inner_count test tree ≡ fronts_with test key pairs)
counts_of key pairs tree t is canonical same =
    rw is (ap length same, λ test. kinds_are_fronts key test t canonical ∙ ap (fronts_with test key) same)

counts : (X : Type 0) → CountsAreFrontsOfPairs X
counts X key [] ascends = (refl, λ test. refl)
counts X key (x ∷ xs) ascends = let e = tree_of_ascending key x xs ascends in counts_of key (x ∷ xs) _ e.0 e.1 e.2 e.3

pub returns : goal.returns
returns g c = counts _
