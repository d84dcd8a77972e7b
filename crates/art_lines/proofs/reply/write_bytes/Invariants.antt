use Rattle.std.proofs.Common.{◌≡◌, length, false}
use Rattle.hex.specs.Hex.{encode_lower}
use Rattle.art_lines.proofs.Terms.{shown, bytes, IsPartTaken}
use Rattle.art_lines.proofs.reply.write_bytes.Given as goal

-- what is taken so far, and the digits of the rest
abbrev pub invariant-loop-rest : goal.invariant-loop-rest
invariant-loop-rest g l = record {
  taken : IsPartTaken (g.W.Sink.taken l.fn.sink) (g.W.Sink.taken l.sink) (encode_lower l.rest) (shown (bytes l.fn.value));
  fine : g.W.Sink.has_failed l.sink ≡ false;
}

abbrev pub decreases-loop-rest : goal.decreases-loop-rest
decreases-loop-rest g l = length l.rest
