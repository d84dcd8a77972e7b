use Rattle.std.proofs.Common.{◌≡◌, ◌≤◌, ◌-◌, ◌++◌, length, take, true, false}
use Rattle.art_lines.proofs.buffered.write_to.Given as goal

-- what is written so far is taken; where a write failed before, nothing is
abbrev pub invariant-loop-at : goal.invariant-loop-at
invariant-loop-at g l = record {
  bound : l.at ≤ length l.fn.bytes;
  output : g.S.Sink.taken l.sink ≡ g.S.Sink.taken l.fn.sink ++ take l.at l.fn.bytes;
  stays : g.S.Sink.has_failed l.fn.sink ≡ true → g.S.Sink.has_failed l.sink ≡ true;
  none : g.S.Sink.has_failed l.fn.sink ≡ true → l.at ≡ 0;
  fine : g.S.Sink.has_failed l.fn.sink ≡ false → g.S.Sink.has_failed l.sink ≡ false;
}

abbrev pub decreases-loop-at : goal.decreases-loop-at
decreases-loop-at g l = length l.fn.bytes - l.at
