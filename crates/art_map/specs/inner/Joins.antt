-- A tree of which the last leaves have moved into another arena.
use Rattle.std.specs.Prelude.{◌≡◌, ℕ, ◌+◌, List, ◌++◌, length, Option}
use Rattle.art_nodes.specs.Name.{Name}
use Rattle.art_arena.specs.arena.Arena.{Arena}
use Rattle.art_operations.specs.Pairs.{HasPairs}

-- of these pairs the one arena has the tree of the first, and the other that of the last, so many
pub record IsCutLast {K V : Type 0} (bytes : K → List ℕ) (P : ℕ) (arena : Arena K V) (root : Option Name)
    (to : Arena K V)
    (to_root : Option Name) (count : ℕ) (had : List (K × V)) : Type 0 where
  pub left : List (K × V)
  pub moved : List (K × V)
  pub has : HasPairs bytes P arena root left
  pub to_has : HasPairs bytes P to to_root moved
  pub joined : left ++ moved ≡ had
  pub long : length left + count ≡ length had
