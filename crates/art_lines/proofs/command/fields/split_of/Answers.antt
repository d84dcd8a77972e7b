use Rattle.std.proofs.Common.{arith}
use Rattle.art_lines.proofs.FullKeys.{full_key_again, tenant_small}
use Rattle.art_lines.proofs.command.fields.split_of.Goals as goal

pub returns-clause-split : goal.returns-clause-split
returns-clause-split c = full_key_again c.args.full.now c.requires (λ i. let fits = c.type_inv.full i in omega arith)

pub returns-clause-tenant : goal.returns-clause-tenant
returns-clause-tenant c = tenant_small c.args.full.now (λ i. let fits = c.type_inv.full i in omega arith)
