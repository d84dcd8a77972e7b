use Rattle.std.proofs.Common.{arith}
use Rattle.art_operations.proofs.Pushed.{same-leaves-names}
use Rattle.art_map.proofs.Below.{has-seen}
use Rattle.art_map.proofs.Maps.{make}
use Rattle.art_map.proofs.map.TreeMap.of_tree.Goals as goal

pub finish-root-requires : goal.finish-root-requires
finish-root-requires g c =
    let r = c.requires.builds in
    (omega arith, (r.0, r.1))

pub invariant_of-result : goal.invariant_of-result
invariant_of-result g c =
    let r = c.requires.builds in
    make g.K.AsBytes.bytes g.K.AsBytes.is_key g.row.PREFIX_LEN c.finish-root.new.arena c.finish-root.result r.0 (c.finish-root.ensures.tree r.0 r.1) r.2

pub returns-clause-pairs : goal.returns-clause-pairs
returns-clause-pairs g c = λ pairs builds. has-seen g.K.AsBytes.bytes g.row.PREFIX_LEN c.finish-root.new.arena c.finish-root.result pairs (c.finish-root.ensures.tree pairs builds)

pub returns-clause-names : goal.returns-clause-names
returns-clause-names g c = same-leaves-names g.K.AsBytes.bytes c.args.arena c.finish-root.new.arena c.finish-root.ensures.leaves
