-- The walk along the leaves that were met: they are linked if those that are left are, after the last one.
use Rattle.std.proofs.Common.{◌≡◌, ℕ, List, [], ◌∷◌, Option, Some, None}
use Rattle.art_arena.proofs.Common.{Links}
use Rattle.art_walks.specs.declared.checker.links.Last.{Last}
use Rattle.art_walks.proofs.Terms.{AreLinkedSlots}

abbrev pub first_number : List ℕ → Option ℕ
first_number [] = None
first_number (slot ∷ rest) = Some slot

-- these leaves are linked after the last one, to whose link they answer
abbrev pub IsLinkedFrom : (ℕ → Option Links) → Option Last → List ℕ → Type 0
IsLinkedFrom links None slots = AreLinkedSlots links None slots None
IsLinkedFrom links (Some last) slots = (last.next ≡ first_number slots) × AreLinkedSlots links (Some last.leaf) slots None
