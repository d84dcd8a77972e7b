use Rattle.std.proofs.Common.{◌+◌, ◌^◌, ◌∷◌, Some, ap, sym, ◌∙◌, arith}
use Rattle.std.proofs.lemmas.Bool.{ne_eqb}
use Rattle.art_lines.proofs.Parsing.{number_empty, number_below, number_above, number_none, number_result, natural_is}
use Rattle.art_lines.proofs.command.decimals.parse_number.Goals as goal

pub returns-in_err-first : goal.returns-in_err-first
returns-in_err-first c = c.from_residual.ensures ∙ number_empty c.args.field.now c.in_err-first.ensures.cases

pub returns-in_err-parse_natural : goal.returns-in_err-parse_natural
returns-in_err-parse_natural c =
    number_below c.args.field.now c.in_ok-first.rest.now _ _ (c.in_ok-first.ensures.cases.0 ∙ ap (λ b. b ∷ c.in_ok-first.rest.now) c.if-first-eq45.true)
    c.in_err-parse_natural.ensures c.from_residual-in_err-parse_natural.ensures

pub negated-requires : goal.negated-requires
negated-requires c = let is = natural_is (2 ^ 63 + 1) c.in_ok-first.rest.now c.in_ok-parse_natural.field-0 (sym c.in_ok-parse_natural.ensures) in let small = is.1 in omega arith

pub returns-then-first-eq45 : goal.returns-then-first-eq45
returns-then-first-eq45 c =
    number_below c.args.field.now c.in_ok-first.rest.now (Some c.in_ok-parse_natural.field-0) c.negated.result
    (c.in_ok-first.ensures.cases.0 ∙ ap (λ b. b ∷ c.in_ok-first.rest.now) c.if-first-eq45.true) c.in_ok-parse_natural.ensures c.negated.ensures

pub returns-in_err-parse_natural-2 : goal.returns-in_err-parse_natural-2
returns-in_err-parse_natural-2 c =
    number_above c.args.field.now c.in_ok-first.first.now c.in_ok-first.rest.now _ c.in_ok-first.ensures.cases.0 (ne_eqb _ 45 c.if-first-eq45.false)
    (c.from_residual-in_err-parse_natural-2.ensures ∙ number_none c.args.field.now c.in_err-parse_natural-2.ensures)

pub returns : goal.returns
returns c =
    number_above c.args.field.now c.in_ok-first.first.now c.in_ok-first.rest.now c.ok.result c.in_ok-first.ensures.cases.0 (ne_eqb _ 45 c.if-first-eq45.false)
    (number_result c.args.field.now c.in_ok-parse_natural-2.field-0 c.try_from.result c.ok.result c.in_ok-parse_natural-2.ensures c.try_from.ensures c.ok.ensures.value)
