use Rattle.std.proofs.Common.{◌≡◌, ◌-◌, ◌≤◌, ◌++◌, length, take}
use Rattle.art_lines.specs.Lines.{whole_lines_of}
use Rattle.std.specs.List.{AllByRecursion}
use Rattle.art_engine.specs.ReadAhead.{IsAtStart}
use Rattle.art_engine.proofs.Terms.{read_of, texts_of}
use Rattle.art_engine.proofs.read_ahead.read_lines.Given as goal

-- of the lines that were read so far no node is counted, and they are the first of the text
abbrev pub invariant-lines : goal.invariant-lines
invariant-lines l = record {
  long : length l.lines ≡ length l.fn.lines;
  within : l.len ≤ length l.fn.lines;
  start : AllByRecursion (IsAtStart l.roots.keys l.roots.numbers) (take l.len l.lines);
  none : read_of (take l.len l.lines) ≡ 0;
  next : whole_lines_of l.text ≡ texts_of (take l.len l.lines) ++ whole_lines_of l.rest;
}

abbrev pub decreases-lines : goal.decreases-lines
decreases-lines l = length l.fn.lines - l.len
