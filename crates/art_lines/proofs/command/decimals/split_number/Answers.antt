use Rattle.art_lines.proofs.Decimals.{if_none, no_number_first, number_not_first, number_first_packed}
use Rattle.art_lines.proofs.command.decimals.split_number.Goals as goal

pub returns-in_err-natural-clause-none : goal.returns-in_err-natural-clause-none
returns-in_err-natural-clause-none c =
    if_none c.from_residual-in_err-natural.result
    (no_number_first c.args.text.now c.in_ok-first.first.now c.in_ok-first.rest.now c.in_ok-first.ensures.cases.0 c.if-first-eq45.false c.in_err-natural.ensures.none)

pub returns-in_err-number-clause-none : goal.returns-in_err-number-clause-none
returns-in_err-number-clause-none c =
    if_none c.from_residual-in_err-number.result
    (number_not_first c.args.text.now c.in_ok-natural.after.now c.in_ok-natural.natural c.try_from.result c.in_ok-first.first.now c.in_ok-first.rest.now c.in_ok-first.ensures.cases.0
    c.if-first-eq45.false c.in_ok-natural.ensures.some c.try_from.ensures c.in_err-number.ensures.value)

pub returns-clause-some : goal.returns-clause-some
returns-clause-some c =
    number_first_packed c.args.text.now c.in_ok-natural.after.now c.in_ok-natural.natural c.try_from.result c.in_ok-first.first.now c.in_ok-first.rest.now c.in_ok-first.ensures.cases.0
    c.if-first-eq45.false c.in_ok-natural.ensures.some c.try_from.ensures _ c.in_ok-number.ensures.value
