use Rattle.std.proofs.Common.{◌≡◌, ◌+◌, ◌≤◌, ◌++◌, [], drop, length, take, false}
use Rattle.std.specs.Map.Iter.{deref_pair}
use Rattle.std.specs.List.{AllByRecursion}
use Rattle.art_walks.proofs.Common.{IsSameMap, IsSpan}
use Rattle.art_engine.proofs.Terms.{GrewBy, pending_all, IsClosed, span_pairs}
use Rattle.art_lines.proofs.Common.{IsPartTaken}
use Rattle.art_engine.proofs.ListedLines.{lines_from, list_end}
use Rattle.art_engine.proofs.listing.write_pairs.Given as goal

-- the pairs so far are told, or gathered, and counted, and so are those that were read with them
abbrev pub invariant-pairs : goal.invariant-pairs
invariant-pairs g l =
    let read = drop l.batch.at (take l.batch.len l.batch.pairs) in
    let left = pending_all deref_pair read (span_pairs l.records.nodes l.span) in
    let all = span_pairs l.fn.records.nodes l.fn.span in
    record {
      taken : IsPartTaken (g.W.Sink.taken l.fn.sink) (g.W.Sink.taken l.sink)
          (take l.held l.room ++ lines_from g.K.ListedKey.words (list_end (l.count + length left)) left)
          (lines_from g.K.ListedKey.words (list_end (length all)) all);
      fine : g.W.Sink.has_failed l.sink ≡ false;
      listed : AllByRecursion g.K.ListedKey.is_listed left;
      held : l.held ≤ 1023;
      within : l.batch.len ≤ 8;
      span : IsSpan l.records.nodes l.span;
      closed : IsClosed deref_pair read (span_pairs l.records.nodes l.span);
      counted : l.count + length left ≡ length all;
      same : IsSameMap l.fn.records l.records;
      visits : GrewBy (l.count + length (pending_all deref_pair read [])) l.fn.records.count l.records.count;
    }

abbrev pub decreases-pairs : goal.decreases-pairs
decreases-pairs g l = length (pending_all deref_pair (drop l.batch.at (take l.batch.len l.batch.pairs)) (span_pairs l.records.nodes l.span))
