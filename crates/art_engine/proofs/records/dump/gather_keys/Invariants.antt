use Rattle.std.proofs.Common.{◌≡◌, ◌≤◌, ◌++◌, drop, length, take, map, false}
use Rattle.std.specs.List.{AllByRecursion}
use Rattle.std.specs.Map.Iter.{deref_pair}
use Rattle.art_engine.proofs.Terms.{KeyFits, pending_all, IsClosed, record_of, IsFull}
use Rattle.art_lines.proofs.Common.{IsPartTaken}
use Rattle.art_engine.proofs.Dumping.{dumped, words_put}
use Rattle.art_engine.proofs.records.dump.gather_keys.Given as goal

-- the pairs so far are told, or gathered, and some are read
abbrev pub invariant-pairs : goal.invariant-pairs
invariant-pairs g l =
    let read = drop l.batch.at (take l.batch.len l.batch.pairs) in let left = pending_all deref_pair read l.pairs in record {
      taken : IsPartTaken (g.W.Sink.taken l.fn.sink) (g.W.Sink.taken l.sink) (take l.held l.room ++ dumped record_of words_put left) (dumped record_of words_put l.records.pairs);
      fine : g.W.Sink.has_failed l.sink ≡ false;
      full : AllByRecursion IsFull left;
      fit : AllByRecursion KeyFits (map record_of left);
      held : l.held ≤ 8192;
      whole : length l.room ≡ 8192;
      within : l.batch.len ≤ 8;
      closed : IsClosed deref_pair read l.pairs;
    }

abbrev pub decreases-pairs : goal.decreases-pairs
decreases-pairs g l = length (pending_all deref_pair (drop l.batch.at (take l.batch.len l.batch.pairs)) l.pairs)
