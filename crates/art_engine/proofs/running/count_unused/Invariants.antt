use Rattle.std.proofs.Common.{◌≡◌, ℕ, ◌+◌, List, ◌++◌, length}
use Rattle.art_engine.proofs.Terms.{read_of, to_come, total}
use Rattle.art_engine.proofs.running.count_unused.Given as goal

-- what was read ahead of those that were passed by is told
abbrev pub invariant-lines : goal.invariant-lines
invariant-lines g l = record {
  told : (unused : List ℕ) × (l.index.ahead ≡ l.fn.index.ahead ++ unused)
      × (total unused + read_of (to_come l.read_ahead) ≡ read_of (to_come l.fn.read_ahead));
  kept : (l.index.records ≡ l.fn.index.records) × (l.index.reads ≡ l.fn.index.reads) × (l.index.prefetched ≡ l.fn.index.prefetched);
}

abbrev pub decreases-lines : goal.decreases-lines
decreases-lines g l = length (to_come l.read_ahead)
