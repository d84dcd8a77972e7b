use Rattle.std.proofs.Common.{rules, ◌≡◌, sym}
use Rattle.std.specs.Prelude.{Some}
use Rattle.art_lines.specs.Reading.{command_of}
use Rattle.art_lines.proofs.Common.{changes, spells}
use Rattle.art_engine.proofs.records.Records.execute.Goals as goal

pub execute_change-requires : goal.execute_change-requires
execute_change-requires g c =
    let F = c.args.line.now.fields.now in let w = c.in-Some-Change.word in let line = c.requires.read.0 in
    let read : Some (changes w F) ≡ command_of line = search (rules, c.requires.read.1) in
    (search rules, (c.requires.open, (line, spells line (changes w F) (sym read))))
