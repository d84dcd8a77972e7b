-- The steps of a run, told by the pairs that an arena has.
use Rattle.std.specs.Prelude.{ℕ, List, Option}
use Rattle.art_nodes.specs.Name.{Name}
use Rattle.art_arena.specs.arena.Arena.{Arena}
use Rattle.art_operations.specs.Commands.{IsAnswered, after}
use Rattle.art_operations.specs.Pairs.{HasPairs}
use Rattle.art_operations.specs.Runs.{AreClones}
use Rattle.art_operations.specs.declared.running.Change.{Change}
use Rattle.art_operations.specs.declared.running.Command.{Command}

module _ {K V : Type 0} (bytes : K → List ℕ) (P : ℕ) (arena : Arena K V) where
  -- a command is answered, and the arena has the pairs that it leaves
  abbrev pub IsDone : List (K × V) → Command K V → Change → Type 0
  IsDone pairs command change =
      IsAnswered bytes pairs command change.answer
      × HasPairs bytes P arena change.root (after bytes command change.answer pairs)

  module _ (KeyClone : K → K → Type 0) (ValueClone : V → V → Type 0) where
    -- the arena has clones of these pairs
    abbrev pub HasClones : Option Name → List (K × V) → Type 0
    HasClones root pairs =
        (clones : List (K × V)) × AreClones KeyClone ValueClone pairs clones × HasPairs bytes P arena root clones

    -- a command is answered, and the arena has clones of the pairs that it leaves
    abbrev pub IsExecuted : List (K × V) → Command K V → Change → Type 0
    IsExecuted pairs command change =
        IsAnswered bytes pairs command change.answer
        × HasClones change.root (after bytes command change.answer pairs)
