use Rattle.std.proofs.Common.{sym, ◌∙◌}
use Rattle.art_lines.proofs.command.fields.Fields.set_tenant_and_key.Goals as goal

pub invariant_of-self : goal.invariant_of-self
invariant_of-self c =
    record { front = c.set_bytes.ensures.front; same_front = λ x is. let held = c.set_tenant.new.self.same_front x is in (held.0, held.1 ∙ sym c.set_bytes.ensures.kept) }
