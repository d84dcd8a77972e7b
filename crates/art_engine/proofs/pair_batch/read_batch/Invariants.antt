use Rattle.std.proofs.Common.{◌≡◌, ◌+◌, ◌-◌, ◌≤◌, ◌<◌, ℕ, [], length, take}
use Rattle.std.specs.Map.Iter.{deref_pair}
use Rattle.art_engine.proofs.Terms.{pending_all, IsClosed}
use Rattle.art_engine.proofs.pair_batch.read_batch.Given as goal

-- those read so far stand before what is left
abbrev pub invariant-pairs : goal.invariant-pairs
invariant-pairs g l = record {
  long : length l.pairs ≡ length l.fn.pairs;
  few : l.len ≤ l.end;
  end : l.end ≤ length l.pairs;
  some : 0 < l.end;
  gives : g.R.PairSource.left l.fn.records l.fn.place ≡ pending_all deref_pair (take l.len l.pairs) (g.R.PairSource.left l.records l.place);
  place : g.R.PairSource.is_place l.records l.place;
  closed : IsClosed deref_pair (take l.len l.pairs) (g.R.PairSource.left l.records l.place);
  kept : (first : g.row.R.Denot) → g.R.PairSource.is_same first l.fn.records → g.R.PairSource.is_same first l.records;
  counts : (given first : ℕ) → g.R.PairSource.has_grown given first l.fn.records
      → g.R.PairSource.has_grown (given + length (pending_all deref_pair (take l.len l.pairs) [])) first l.records;
}

abbrev pub decreases-pairs : goal.decreases-pairs
decreases-pairs g l = l.end - l.len
