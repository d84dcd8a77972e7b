-- How many nodes the tree of some keys has, told by the keys alone.
use Rattle.std.specs.Prelude.{ℕ, ◌+◌, ◌-◌, ◌^◌, min, List, length}
use Rattle.art_arena.specs.tree.Fronts.{fronts_of}

-- a leaf for each item, and an inner node for each of the different longest common fronts of neighbours
abbrev pub node_count : {X : Type 0} → (X → List ℕ) → List X → ℕ
node_count key xs = length xs + length (fronts_of key xs)

-- the same as a machine counts it: the greatest count stays
abbrev pub nodes_counted : {X : Type 0} → (X → List ℕ) → List X → ℕ
nodes_counted key xs = min (node_count key xs) (2 ^ 64 - 1)
