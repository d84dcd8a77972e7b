use Rattle.std.specs.Map.Iter.{deref_pair}
use Rattle.art_engine.proofs.SpanLemmas.{span_counts, span_next, span_ended}
use Rattle.art_engine.proofs.pair_batch.MapReaderVecU8PairSourceReadSpan.next_pair.Goals as goal

pub returns-clause-gives : goal.returns-clause-gives
returns-clause-gives g c = span_next deref_pair _ _ _ _ _ c.next.ensures.first c.next.ensures.end c.requires.place

pub returns-clause-ended : goal.returns-clause-ended
returns-clause-ended g c = span_ended deref_pair _ _ _ _ _ c.next.ensures.first c.next.ensures.end c.requires.place

pub returns-clause-counts : goal.returns-clause-counts
returns-clause-counts g c = λ given first grew. span_counts deref_pair c.next.result given first _ _ c.next.ensures.counts grew
