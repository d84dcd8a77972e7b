use Rattle.std.proofs.Common.{[], refl, arith}
use Rattle.art_arena.proofs.Common.{steps_of, keeps-same}
use Rattle.art_operations.proofs.HeldPairs.{some-tree}
use Rattle.art_operations.proofs.LeafNames.{deleted-names}
use Rattle.art_operations.proofs.TakenEnds.{the-place, taken-end, shrinks-end}
use Rattle.art_operations.proofs.pairs.take_end.Goals as goal

pub end_point-point-requires : goal.end_point-point-requires
end_point-point-requires g c = (omega arith, some-tree g.K.AsBytes.bytes g.row.PREFIX_LEN c.args.arena.now c.requires.1 c.args.root c.in-Some.top c.in-Some.is [] c.requires.0 c.requires.2)

pub apply-requires : goal.apply-requires
apply-requires g c = (
  omega arith,
  the-place g.K.AsBytes.bytes g.row.PREFIX_LEN c.args.arena.now c.requires.1 c.args.root c.in-Some.top c.in-Some.is c.requires.0 c.requires.2 c.args.end
      c.end_point-point.result.leaf_node_ptr (steps_of c.end_point-point.result.path) c.end_point-point.ensures.value c.end_point-point.ensures.place,
)

pub returns-in-Ok-clause-ok : goal.returns-in-Ok-clause-ok
returns-in-Ok-clause-ok g c = λ pairs rest has.
    taken-end g.K.AsBytes.bytes g.row.PREFIX_LEN c.args.arena.now rest c.args.root c.in-Some.top c.in-Some.is pairs has c.args.end
    c.end_point-point.result.leaf_node_ptr (steps_of c.end_point-point.result.path) c.end_point-point.ensures.value c.end_point-point.ensures.place c.apply.new.arena c.in-Ok.deleted (λ s tree leaf. c.in-Ok.ensures.ok s rest tree leaf)

pub returns-in-Ok-clause-others : goal.returns-in-Ok-clause-others
returns-in-Ok-clause-others g c = λ pairs rest has.
    let at = the-place g.K.AsBytes.bytes g.row.PREFIX_LEN c.args.arena.now rest c.args.root c.in-Some.top c.in-Some.is pairs has c.args.end c.end_point-point.result.leaf_node_ptr (steps_of c.end_point-point.result.path) c.end_point-point.ensures.value c.end_point-point.ensures.place in
    c.in-Ok.ensures.others at.0 rest at.2 at.3

pub returns-in_default-clause-others : goal.returns-in_default-clause-others
returns-in_default-clause-others g c = λ pairs rest has. keeps-same c.args.arena.now c.args.arena.now (λ n. refl) rest

pub returns-in-Err-clause-shrinks : goal.returns-in-Err-clause-shrinks
returns-in-Err-clause-shrinks g c = λ pairs rest has.
    shrinks-end g.K.AsBytes.bytes g.row.PREFIX_LEN c.args.arena.now rest c.args.root c.in-Some.top c.in-Some.is pairs has c.args.end
    c.end_point-point.result.leaf_node_ptr (steps_of c.end_point-point.result.path) c.end_point-point.ensures.value c.end_point-point.ensures.place (λ s tree leaf. c.in-Err.ensures.shrinks s rest tree leaf)

pub returns-in-Ok-clause-names : goal.returns-in-Ok-clause-names
returns-in-Ok-clause-names g c =
    let point = c.end_point-point.result in
    let at = the-place g.K.AsBytes.bytes g.row.PREFIX_LEN c.args.arena.now c.requires.1 c.args.root c.in-Some.top c.in-Some.is c.requires.0 c.requires.2 c.args.end point.leaf_node_ptr (steps_of point.path) c.end_point-point.ensures.value c.end_point-point.ensures.place in
    deleted-names g.K.AsBytes.bytes g.row.PREFIX_LEN c.args.arena.now c.apply.new.arena c.in-Some.top at.1 at.0 at.2 (c.in-Ok.ensures.others at.0 at.1 at.2 at.3) point.leaf_node_ptr c.in-Ok.deleted (c.in-Ok.ensures.ok at.0 at.1 at.2 at.3)
