use Rattle.art_lines.proofs.Decimals.{if_none, no_tenant_first, tenant_not_first, tenant_first}
use Rattle.art_lines.proofs.command.decimals.split_tenant.Goals as goal

pub returns-in_err-natural-clause-none : goal.returns-in_err-natural-clause-none
returns-in_err-natural-clause-none c = if_none c.from_residual.result (no_tenant_first c.args.text.now c.in_err-natural.ensures.none)

pub returns-in_err-tenant-clause-none : goal.returns-in_err-tenant-clause-none
returns-in_err-tenant-clause-none c =
    if_none c.from_residual-in_err-tenant.result
    (tenant_not_first c.args.text.now c.in_ok-natural.rest.now c.in_ok-natural.natural c.try_from.result c.in_ok-natural.ensures.some c.try_from.ensures c.in_err-tenant.ensures.value)

pub returns-clause-some : goal.returns-clause-some
returns-clause-some c =
    tenant_first c.args.text.now c.in_ok-natural.rest.now c.in_ok-natural.natural c.try_from.result c.in_ok-natural.ensures.some c.try_from.ensures c.in_ok-tenant.tenant c.in_ok-tenant.ensures.value
