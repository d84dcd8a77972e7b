use Rattle.std.proofs.Common.{arith}
use Rattle.art_lines.proofs.Gathering.{found-about}
use Rattle.art_lines.proofs.gather.length_of_found.Goals as goal

pub overflow_add-result : goal.overflow_add-result
overflow_add-result c = omega (arith, (found-about c.args.word.now c.args.value.now).least)

pub overflow_add-result-2 : goal.overflow_add-result-2
overflow_add-result-2 c = omega (arith, (found-about c.args.word.now c.args.value.now).least)

pub returns-clause-most : goal.returns-clause-most
returns-clause-most c = omega (arith, (found-about c.args.word.now c.args.value.now).most)

pub returns-clause-few : goal.returns-clause-few
returns-clause-few c = omega (arith, (found-about c.args.word.now c.args.value.now).least)
