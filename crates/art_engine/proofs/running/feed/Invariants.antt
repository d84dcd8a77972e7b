use Rattle.std.proofs.Common.{◌≡◌, ℕ, List, [], ◌++◌, length, false}
use Rattle.std.specs.Prelude.{◌⊎◌}
use Rattle.art_engine.proofs.Terms.{State, Carried, AreNext, Tells, to_come, read_of, texts_of}
use Rattle.art_engine.specs.ReadAhead.{AreLanded}
use Rattle.art_engine.proofs.running.feed.Given as goal

-- the part of the piece before the rest is carried
abbrev pub invariant-lines : goal.invariant-lines
invariant-lines g l = record {
  carried : (done : List ℕ) × (l.piece ≡ done ++ l.rest) × ((start : State g.row.PREFIX_LEN) (text before : List ℕ)
      → Carried start l.fn.index text l.fn.held.items before (g.W.Sink.taken l.fn.sink) []
      → Carried start l.index (text ++ done) l.held.items before (g.W.Sink.taken l.sink) (to_come l.read_ahead));
  comes : AreNext (texts_of (to_come l.read_ahead)) l.rest;
  landed : AreLanded g.row.PREFIX_LEN l.index.records l.read_ahead;
  cut : (l.held.items ≡ []) ⊎ (to_come l.read_ahead ≡ []);
  counted : Tells l.fn.index 0 l.index (read_of (to_come l.read_ahead));
  fine : g.W.Sink.has_failed l.sink ≡ false;
}

abbrev pub decreases-lines : goal.decreases-lines
decreases-lines g l = length l.rest
