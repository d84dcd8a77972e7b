-- The bytes are those of the values read so far, and the rest.
use Rattle.std.proofs.Common.{◌≡◌, ◌++◌, length}
use Rattle.std.specs.List.{AllByRecursion, flat_map}
use Rattle.art_bytes.proofs.mappings.lists.read_list.Given as goal

abbrev pub invariant-loop-rest : goal.invariant-loop-rest
invariant-loop-rest g l = record {
  values : AllByRecursion g.E.FixedBytes.is_value l.values.items;
  split : l.fn.bytes ≡ flat_map g.E.FixedBytes.fixed_bytes l.values.items ++ l.rest;
}

abbrev pub decreases-loop-rest : goal.decreases-loop-rest
decreases-loop-rest g l = length l.rest
