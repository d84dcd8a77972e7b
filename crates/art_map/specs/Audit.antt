-- How many nodes of each kind a map's tree has, from its keys alone.
use Rattle.std.specs.Prelude.{ℕ, List, length}
use Rattle.art_nodes.specs.declared.kind.NodeType.TheVariants.{Node4, Node16, Node32, Node48, Node256}
use Rattle.art_arena.specs.tree.Fronts.{fronts_with}
use Rattle.art_walks.specs.Stats.{in_range}
use Rattle.art_walks.specs.declared.stats.WellFormedTreeStats.{WellFormedTreeStats}

-- A leaf for each item, and an inner node for each of the different longest common fronts of neighbours: of the kind
-- that has as many children as different bytes follow the front.
abbrev pub audit_of : {X : Type 0} → (X → List ℕ) → List X → WellFormedTreeStats
audit_of key xs = record {
  num_node4 = fronts_with (in_range Node4) key xs;
  num_node16 = fronts_with (in_range Node16) key xs;
  num_node32 = fronts_with (in_range Node32) key xs;
  num_node48 = fronts_with (in_range Node48) key xs;
  num_node256 = fronts_with (in_range Node256) key xs;
  num_leaf = length xs;
}
