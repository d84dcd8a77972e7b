-- What a contract sees of the children that an iterator has left.
use Rattle.std.specs.Prelude.{ℕ, List}
use Rattle.art_nodes.specs.Name.{Name}
use Rattle.art_nodes.specs.declared.child_iter.Arm.{Arm}
use Rattle.art_nodes.specs.declared.child_iter.Arm.TheVariants.{Sorted, Indirect, Direct}

-- what each representation has left
abbrev pub left_in : Arm → List (ℕ × Name)
left_in (Sorted children) = children
left_in (Indirect children) = children
left_in (Direct children) = children
