use Rattle.std.proofs.Common.{◌≡◌, length, false}
use Rattle.art_lines.proofs.Terms.{IsPartTaken}
use Rattle.art_lines.proofs.reply.write_piece.Given as goal

-- what is taken so far, and the rest
abbrev pub invariant-loop-rest : goal.invariant-loop-rest
invariant-loop-rest g l = record {
  taken : IsPartTaken (g.W.Sink.taken l.fn.sink) (g.W.Sink.taken l.sink) l.rest l.fn.piece;
  fine : g.W.Sink.has_failed l.sink ≡ false;
}

abbrev pub decreases-loop-rest : goal.decreases-loop-rest
decreases-loop-rest g l = length l.rest
