use Rattle.art_lines.proofs.Decimals.{if_none, no_number_below, natural_low, below_not_first, below_first_packed}
use Rattle.art_lines.proofs.command.decimals.split_below.Goals as goal

pub returns-in_err-natural-clause-none : goal.returns-in_err-natural-clause-none
returns-in_err-natural-clause-none c = if_none c.from_residual.result (no_number_below c.args.digits.now c.in_err-natural.ensures.none)

pub negated-requires : goal.negated-requires
negated-requires c = natural_low c.args.digits.now c.in_ok-natural.rest.now c.in_ok-natural.natural c.in_ok-natural.ensures.some

pub returns-in_err-less-clause-none : goal.returns-in_err-less-clause-none
returns-in_err-less-clause-none c =
    if_none c.from_residual-in_err-less.result (below_not_first c.args.digits.now c.in_ok-natural.rest.now c.in_ok-natural.natural c.in_ok-natural.ensures.some c.in_err-less.ensures)

pub returns-clause-some : goal.returns-clause-some
returns-clause-some c = below_first_packed c.args.digits.now c.in_ok-natural.rest.now c.in_ok-natural.natural c.in_ok-natural.ensures.some _ c.in_ok-less.ensures
