use Rattle.std.proofs.lemmas.Result.{on_err_weaker}
use Rattle.art_arena.proofs.Common.{steps_of}
use Rattle.art_operations.proofs.Terms.{IsLeafPlace}
use Rattle.art_operations.proofs.LeafNames.{deleted-names}
use Rattle.art_operations.proofs.NamedLeaves.{named-shrinks}
use Rattle.art_operations.proofs.Results.{both_ok}
use Rattle.art_operations.proofs.delete.leaf.take_leaf.Goals as goal

pub returns-clause-shrinks : goal.returns-clause-shrinks
returns-clause-shrinks g c =
    on_err_weaker c.apply.result
    (λ shrinks s rest tree there.
    let place = c.point_of-point.ensures.place s rest tree there in
    named-shrinks g.K.AsBytes.bytes g.row.PREFIX_LEN c.args.arena.now c.args.root s tree c.args.leaf there (steps_of c.point_of-point.result.path) place (rw c.point_of-point.ensures.same at shrinks s rest tree place))
    c.apply.ensures.shrinks

pub returns-clause-names : goal.returns-clause-names
returns-clause-names g c =
    let s = c.requires.0 in
    let rest = c.requires.1 in
    let tree = c.requires.2 in
    let place : IsLeafPlace g.K.AsBytes.bytes s c.point_of-point.result.leaf_node_ptr (steps_of c.point_of-point.result.path) = rw c.point_of-point.ensures.same (c.point_of-point.ensures.place s rest tree c.requires.3) in
    both_ok c.apply.result _ _ _ c.apply.ensures.ok c.apply.ensures.others (λ deleted is kept.
    deleted-names g.K.AsBytes.bytes g.row.PREFIX_LEN c.args.arena.now c.apply.new.arena c.args.root rest s tree (kept s rest tree place) c.point_of-point.result.leaf_node_ptr deleted (is s rest tree place))
