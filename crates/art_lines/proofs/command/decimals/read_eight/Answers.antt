use Rattle.std.proofs.Common.{arith}
use Rattle.art_lines.proofs.Decimals.{shown_few, eight_digits}
use Rattle.art_lines.proofs.command.decimals.read_eight.Goals as goal

pub overflow_mul-result : goal.overflow_mul-result
overflow_mul-result c = let few = shown_few 8 c.args.text.now c.args.len c.args.number c.requires.read c.requires.few in omega arith

pub overflow_add-result : goal.overflow_add-result
overflow_add-result c =
    let few = shown_few 8 c.args.text.now c.args.len c.args.number c.requires.read c.requires.few in
    let less = shown_few 8 _ 8 c.in-Some.eight c.in-Some.ensures (omega arith) in
    omega arith

pub returns-in-Some-clause-read : goal.returns-in-Some-clause-read
returns-in-Some-clause-read c =
    let within = c.requires.read.within in let more = c.if-text-len-lt8.false in
    eight_digits c.args.text.now c.args.len c.args.number c.in-Some.eight c.requires.read (omega arith) c.in-Some.ensures
