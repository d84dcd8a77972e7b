use Rattle.std.proofs.Common.{arith}
use Rattle.art_lines.proofs.Decimals.{not_whole, whole_natural}
use Rattle.art_lines.proofs.command.decimals.parse_natural.Goals as goal

pub returns-then-len-field : goal.returns-then-len-field
returns-then-len-field c = not_whole c.args.field.now c.read_all-number.result.1 c.read_all-number.ensures.end c.if-len-field.true

pub returns : goal.returns
returns c = let all = c.if-len-field.false in whole_natural _ c.args.field.now c.read_all-number.result.1 c.natural_of.ensures.value (omega arith)
