use Rattle.std.proofs.Common.{◌≡◌, ◌+◌, length}
use Rattle.std.specs.List.{AllZip}
use Rattle.art_arena.proofs.Common.{count_of}
use Rattle.art_engine.specs.ReadAhead.{AreReadEarly, IsDescended}
use Rattle.art_engine.proofs.Terms.{read_of, texts_of}
use Rattle.art_engine.proofs.read_ahead.descents.step_all.Given as goal

-- what the lines count is what was counted so far
abbrev pub invariant-steps : goal.invariant-steps
invariant-steps g l = record {
  long : length l.lines ≡ length l.fn.lines;
  counted : read_of l.lines + count_of l.fn.reader.reader ≡ read_of l.fn.lines + count_of l.reader.reader;
  texts : texts_of l.lines ≡ texts_of l.fn.lines;
  descended : AllZip (IsDescended g.K.AsBytes.bytes l.fn.reader.arena.now l.fn.of_number) l.fn.lines l.lines;
  reached : AreReadEarly l.fn.reader.arena.now l.fn.of_number l.fn.lines l.fn.leaves → AreReadEarly l.fn.reader.arena.now l.fn.of_number l.lines l.leaves;
  same_tree : (l.reader.arena.now ≡ l.fn.reader.arena.now) × (l.reader.root ≡ l.fn.reader.root);
}
