use Rattle.std.proofs.Common.{arith}
use Rattle.art_lines.proofs.Gathering.{length-about}
use Rattle.art_lines.proofs.gather.length_of_pair.Goals as goal

pub overflow_mul-result : goal.overflow_mul-result
overflow_mul-result c = omega (arith, (length-about c.args.key.now c.args.value.now).least)

pub overflow_add-result-2 : goal.overflow_add-result-2
overflow_add-result-2 c = omega (arith, (length-about c.args.key.now c.args.value.now).least)

pub returns-clause-most : goal.returns-clause-most
returns-clause-most c = omega (arith, (length-about c.args.key.now c.args.value.now).most)

pub returns-clause-few : goal.returns-clause-few
returns-clause-few c = omega (arith, (length-about c.args.key.now c.args.value.now).least)
