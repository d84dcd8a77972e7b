use Rattle.std.proofs.Common.{◌≡◌, ℕ, List, [], ◌++◌, false}
use Rattle.art_engine.proofs.Terms.{Carried, Tells, to_come}
use Rattle.art_engine.proofs.running.run_held.Given as goal

-- what is given so far is carried
abbrev pub invariant-reads : goal.invariant-reads
invariant-reads g l = record {
  carried : (text : List ℕ) × (g.S.Source.given l.source ≡ g.S.Source.given l.fn.source ++ text)
      × Carried l.fn.index l.index text l.held.items (g.W.Sink.taken l.fn.sink) (g.W.Sink.taken l.sink) [];
  used_up : to_come l.read_ahead ≡ [];
  counted : Tells l.fn.index 0 l.index 0;
  source_open : g.S.Source.has_failed l.source ≡ false;
  source_goes_on : g.S.Source.has_ended l.source ≡ false;
  sink_open : g.W.Sink.has_failed l.sink ≡ false;
}

abbrev pub decreases-reads : goal.decreases-reads
decreases-reads g l = g.S.Source.reads_left l.source
