-- How much memory is asked for at a time.
use Rattle.std.specs.Prelude.{ℕ, ◌/◌, nat_lt, if◌then◌else◌}
use Rattle.art_nodes.specs.Kind.{row_of}
use Rattle.art_nodes.specs.declared.kind.NodeType.{NodeType}

-- how many more nodes of a kind, where there are so many: a quarter where one has room for more than 32 children
abbrev pub growth_of : NodeType → ℕ → ℕ
growth_of kind len = if nat_lt 32 (row_of kind).most then len / 4 else len
