use Rattle.std.proofs.Common.{◌+◌, ◌*◌, sym, subst, arith}
use Rattle.art_lines.proofs.Terms.{AreFirstDigits}
use Rattle.art_lines.proofs.Decimals.{shown_few, one_more}
use Rattle.art_lines.proofs.command.decimals.read_on.Goals as goal

pub overflow_mul-number : goal.overflow_mul-number
overflow_mul-number c =
    let within = c.digits-test.ensures.0 in let short = c.requires.few in
    let few = shown_few 18 c.args.text.now c.digits.len c.digits.number c.digits.invariant (omega arith) in
    omega arith

pub overflow_add-number : goal.overflow_add-number
overflow_add-number c =
    let within = c.digits-test.ensures.0 in let short = c.requires.few in let high = c.digits-test.ensures.1.1 in let is = c.from.ensures in
    let few = shown_few 18 c.args.text.now c.digits.len c.digits.number c.digits.invariant (omega arith) in
    omega arith

pub digits-preserved : goal.digits-preserved
digits-preserved c =
    subst (λ v. AreFirstDigits c.args.text.now (c.digits.len + 1) (c.digits.number * 10 + v)) (sym c.from.ensures)
    (one_more c.args.text.now c.digits.len c.digits.number c.digits.invariant c.digits-test.ensures)
