use Rattle.std.proofs.Common.{◌≡◌, ◌-◌, ◌≤◌}
use Rattle.art_arena.proofs.nodes.grow.Given as goal

abbrev pub invariant-halves : goal.invariant-halves
invariant-halves g l = record {
  kept : l.slab ≡ l.fn.slab;
  few : l.more ≤ l.fn.wanted;
}

abbrev pub decreases-halves : goal.decreases-halves
decreases-halves g l = l.more - l.additional
