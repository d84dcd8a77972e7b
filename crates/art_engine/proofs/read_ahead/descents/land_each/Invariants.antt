use Rattle.std.proofs.Common.{◌≡◌, ◌≤◌, ℕ, length}
use Rattle.std.specs.Global.{Vec}
use Rattle.std.specs.List.{AllZip}
use Rattle.art_arena.proofs.Common.{Arena}
use Rattle.art_engine.specs.ReadAhead.{AreReadEarly, IsDescended}
use Rattle.art_engine.proofs.Terms.{read_of, texts_of}
use Rattle.art_engine.proofs.read_ahead.descents.land_each.Given as goal

-- what was read early stands beside each line, and those so far are told
abbrev pub invariant-lines : goal.invariant-lines
invariant-lines g l = record {
  long : length l.lines ≡ length l.fn.lines;
  within : l.at-end ≤ length l.fn.lines;
  counted : read_of l.lines ≡ read_of l.fn.lines;
  texts : texts_of l.lines ≡ texts_of l.fn.lines;
  reached : (arena : Arena g.row.K.Denot (Vec ℕ)) → AreReadEarly arena l.fn._of_number l.fn.lines l.fn.leaves → AreReadEarly arena l.fn._of_number l.lines l.fn.leaves;
  descended : (arena : Arena g.row.K.Denot (Vec ℕ)) → AreReadEarly arena l.fn._of_number l.fn.lines l.fn.leaves → AllZip (IsDescended g.K.AsBytes.bytes arena l.fn._of_number) l.fn.lines l.lines;
}
