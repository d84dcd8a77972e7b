use Rattle.std.proofs.Common.{◌∙◌}
use Rattle.art_lines.proofs.FullKeys.{begins_so}
use Rattle.art_lines.proofs.command.fields.Fields.read_upper.Goals as goal

pub invariant_of-self : goal.invariant_of-self
invariant_of-self c =
    let held = c.args.self.now.same_front c.in-Some.upper c.in-Some.is in
    record { front = c.args.self.now.front; same_front = λ x is. begins_so (λ u. u.items) c.decode_bytes.new.bytes x _ is c.decode_bytes.ensures.front_in (c.decode_bytes.ensures.kept ∙ held.1) }
