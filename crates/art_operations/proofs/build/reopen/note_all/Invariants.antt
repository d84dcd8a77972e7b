use Rattle.std.proofs.Common.{◌≡◌, ◌≤◌, ◌++◌, length}
use Rattle.std.specs.Prelude.{vec_capacity}
use Rattle.art_operations.proofs.build.reopen.note_all.Given as goal

abbrev pub invariant-loop-child : goal.invariant-loop-child
invariant-loop-child l = record {
  all : l.noted.items ++ l.left ≡ l.fn.noted.items ++ l.fn.children;
  capacity : vec_capacity l.fn.noted ≤ vec_capacity l.noted;
}

abbrev pub decreases-loop-child : goal.decreases-loop-child
decreases-loop-child l = length l.left
