use Rattle.std.proofs.Common.{◌∙◌}
use Rattle.art_lines.proofs.Parsing.{tenant_none, tenant_result}
use Rattle.art_lines.proofs.Decimals.{natural_some}
use Rattle.art_lines.proofs.command.decimals.parse_tenant.Goals as goal

pub returns-in_err-natural-clause-tenant : goal.returns-in_err-natural-clause-tenant
returns-in_err-natural-clause-tenant c = c.from_residual.ensures ∙ tenant_none c.args.field.now c.in_err-natural.ensures

pub returns-clause-tenant : goal.returns-clause-tenant
returns-clause-tenant c =
    tenant_result c.args.field.now c.in_ok-natural.natural c.try_from.result c.ok.result c.in_ok-natural.ensures c.try_from.ensures c.ok.ensures.value

pub returns-clause-some : goal.returns-clause-some
returns-clause-some c = λ some. natural_some c.args.field.now c.in_ok-natural.natural c.in_ok-natural.ensures
