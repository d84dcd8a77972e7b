use Rattle.std.proofs.Common.{sym, ◌∙◌}
use Rattle.art_lines.proofs.command.fields.Fields.read_key.Goals as goal

pub invariant_of-self : goal.invariant_of-self
invariant_of-self c =
    record { front = c.decode_bytes.ensures.front_in; same_front = λ x is. let held = c.args.self.now.same_front x is in (held.0, held.1 ∙ sym c.decode_bytes.ensures.kept) }
