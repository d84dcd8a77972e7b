-- How many nodes of each kind a tree has, and in sum.
use Rattle.std.specs.Prelude.{◌≡◌, ℕ, ◌+◌, ◌-◌, ◌^◌, ◌&&◌, nat_le, Bool, length, min}
use Rattle.art_nodes.specs.declared.kind.NodeType.{NodeType}
use Rattle.art_nodes.specs.declared.kind.NodeType.TheVariants.{Node4, Node16, Node32, Node48, Node256}
use Rattle.art_nodes.specs.Kind.{row_of}
use Rattle.art_arena.specs.tree.Trees.{Tree, items, nodes_with}
use Rattle.art_walks.specs.declared.stats.WellFormedTreeStats.{WellFormedTreeStats}

-- the sum of two counts, where it fits in a `usize`, and else the greatest
abbrev pub count_sum : ℕ → ℕ → ℕ
count_sum a b = min (a + b) (2 ^ 64 - 1)

-- kind by kind
abbrev pub stats_sum : WellFormedTreeStats → WellFormedTreeStats → WellFormedTreeStats
stats_sum a b = record {
  num_node4 = count_sum a.num_node4 b.num_node4;
  num_node16 = count_sum a.num_node16 b.num_node16;
  num_node32 = count_sum a.num_node32 b.num_node32;
  num_node48 = count_sum a.num_node48 b.num_node48;
  num_node256 = count_sum a.num_node256 b.num_node256;
  num_leaf = count_sum a.num_leaf b.num_leaf;
}

-- so many children are of this kind, by the table
abbrev pub in_range : NodeType → ℕ → Bool
in_range kind children = nat_le (row_of kind).fewest children && nat_le children (row_of kind).most

-- these are the counts of the tree: the inner nodes with as many children as each kind has, and the leaves
pub record AreCounts {X : Type 0} (stats : WellFormedTreeStats) (tree : Tree X) : Type 0 where
  pub nodes4 : stats.num_node4 ≡ nodes_with (in_range Node4) tree
  pub nodes16 : stats.num_node16 ≡ nodes_with (in_range Node16) tree
  pub nodes32 : stats.num_node32 ≡ nodes_with (in_range Node32) tree
  pub nodes48 : stats.num_node48 ≡ nodes_with (in_range Node48) tree
  pub nodes256 : stats.num_node256 ≡ nodes_with (in_range Node256) tree
  pub leaves : stats.num_leaf ≡ length (items tree)

-- no node
abbrev pub no_nodes : WellFormedTreeStats
no_nodes = record { num_node4 = 0; num_node16 = 0; num_node32 = 0; num_node48 = 0; num_node256 = 0; num_leaf = 0 }
