-- The leaves among the names that a check met, by their slab keys, and how they are linked.
use Rattle.std.specs.Prelude.{◌≡◌, ℕ, List, [], ◌∷◌, Option, Some, None}
use Rattle.art_nodes.specs.declared.kind.NodeType.{NodeType}
use Rattle.art_nodes.specs.declared.kind.NodeType.TheVariants.{Leaf}
use Rattle.art_nodes.specs.Name.{Name}
use Rattle.art_arena.specs.arena.Linked.{Links}
use Rattle.art_walks.specs.declared.checker.links.Last.{Last}

-- the slab key of a leaf, before those of others
abbrev pub with_slot : NodeType → ℕ → List ℕ → List ℕ
with_slot Leaf slot slots = slot ∷ slots
with_slot kind slot slots = slots

-- the slab keys of the leaves among some names
abbrev pub leaf_slots : List Name → List ℕ
leaf_slots [] = []
leaf_slots (n ∷ rest) = with_slot n.kind n.slot (leaf_slots rest)

-- these slab keys are linked: each leaf's links name those beside it
abbrev pub AreLinkedSlots : (ℕ → Option Links) → Option ℕ → List ℕ → Option ℕ → Type 0
AreLinkedSlots links before [] after = Unit {0}
AreLinkedSlots links before (slot ∷ rest) after =
    (links slot ≡ Some (record { previous = before; next = first_of rest }))
    × AreLinkedSlots links (Some slot) rest after
  where
    first_of : List ℕ → Option ℕ
    first_of [] = after
    first_of (next ∷ more) = Some next

-- a leaf with this slab key and this link back stands after the last one that was seen, if there is one
abbrev pub IsAfter : Option Last → ℕ → Option ℕ → Type 0
IsAfter None leaf previous = previous ≡ None
IsAfter (Some last) leaf previous = (previous ≡ Some last.leaf) × (last.next ≡ Some leaf)
