-- The bytes so far are those of the values so far.
use Rattle.art_bytes.specs.Lists.{HaveListBytes}
use Rattle.art_bytes.proofs.mappings.lists.write_list.Given as goal

abbrev pub invariant-loop-value : goal.invariant-loop-value
invariant-loop-value g l = HaveListBytes g.E.FixedBytes.is_value g.E.FixedBytes.fixed_bytes l.yielded l.bytes.items
