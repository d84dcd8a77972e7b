use Rattle.std.proofs.Common.{refl, arith}
use Rattle.art_arena.proofs.Common.{steps_of, keeps-same}
use Rattle.art_operations.proofs.HeldPairs.{some-tree, can-delete, taken-pair, shrinks-pair, nothing-found}
use Rattle.art_operations.proofs.LeafNames.{deleted-names}
use Rattle.art_operations.proofs.pairs.take_pair.Goals as goal

pub search_for_delete_point-requires : goal.search_for_delete_point-requires
search_for_delete_point-requires g c = (omega arith, some-tree g.K.AsBytes.bytes g.row.PREFIX_LEN c.args.arena.now c.requires.1 c.args.root c.in-Some.top c.in-Some.is c.args.key.now c.requires.0 c.requires.2)

pub returns-in_default-search_for_delete_point-clause-ok : goal.returns-in_default-search_for_delete_point-clause-ok
returns-in_default-search_for_delete_point-clause-ok g c = λ pairs rest has.
    (nothing-found g.K.AsBytes.bytes g.row.PREFIX_LEN c.args.arena.now rest c.args.root c.in-Some.top c.in-Some.is c.args.key.now pairs has c.in_default-search_for_delete_point.ensures.value, has)

pub apply-requires : goal.apply-requires
apply-requires g c = (
  omega arith,
  can-delete g.K.AsBytes.bytes g.row.PREFIX_LEN c.args.arena.now c.requires.1 c.args.root c.in-Some.top c.in-Some.is c.args.key.now c.requires.0 c.requires.2
      c.in-Some-search_for_delete_point.point.leaf_node_ptr (steps_of c.in-Some-search_for_delete_point.point.path) c.in-Some-search_for_delete_point.ensures.place,
)

pub returns-in-Ok-clause-ok : goal.returns-in-Ok-clause-ok
returns-in-Ok-clause-ok g c = λ pairs rest has.
    taken-pair g.K.AsBytes.bytes g.row.PREFIX_LEN c.args.arena.now rest c.args.root c.in-Some.top c.in-Some.is c.args.key.now pairs has
    c.in-Some-search_for_delete_point.point.leaf_node_ptr (steps_of c.in-Some-search_for_delete_point.point.path) c.in-Some-search_for_delete_point.ensures.place
    c.apply.new.arena c.in-Ok.deleted (λ s tree place. c.in-Ok.ensures.ok s rest tree place)

pub returns-in-Ok-clause-others : goal.returns-in-Ok-clause-others
returns-in-Ok-clause-others g c = λ pairs rest has.
    let point = c.in-Some-search_for_delete_point.point in
    let at = can-delete g.K.AsBytes.bytes g.row.PREFIX_LEN c.args.arena.now rest c.args.root c.in-Some.top c.in-Some.is c.args.key.now pairs has point.leaf_node_ptr (steps_of point.path) c.in-Some-search_for_delete_point.ensures.place in
    c.in-Ok.ensures.others at.0 rest at.2 at.3

pub returns-in_default-clause-others : goal.returns-in_default-clause-others
returns-in_default-clause-others g c = λ pairs rest has. keeps-same c.args.arena.now c.args.arena.now (λ n. refl) rest

pub returns-in_default-search_for_delete_point-clause-others : goal.returns-in_default-search_for_delete_point-clause-others
returns-in_default-search_for_delete_point-clause-others g c = λ pairs rest has. keeps-same c.args.arena.now c.args.arena.now (λ n. refl) rest

pub returns-in-Err-clause-shrinks : goal.returns-in-Err-clause-shrinks
returns-in-Err-clause-shrinks g c = λ pairs rest has.
    shrinks-pair g.K.AsBytes.bytes g.row.PREFIX_LEN c.args.arena.now rest c.args.root c.in-Some.top c.in-Some.is c.args.key.now pairs has
    c.in-Some-search_for_delete_point.point.leaf_node_ptr (steps_of c.in-Some-search_for_delete_point.point.path) c.in-Some-search_for_delete_point.ensures.place
    (λ s tree place. c.in-Err.ensures.shrinks s rest tree place)

pub returns-in-Ok-clause-names : goal.returns-in-Ok-clause-names
returns-in-Ok-clause-names g c =
    let point = c.in-Some-search_for_delete_point.point in
    let at = can-delete g.K.AsBytes.bytes g.row.PREFIX_LEN c.args.arena.now c.requires.1 c.args.root c.in-Some.top c.in-Some.is c.args.key.now c.requires.0 c.requires.2 point.leaf_node_ptr (steps_of point.path) c.in-Some-search_for_delete_point.ensures.place in
    deleted-names g.K.AsBytes.bytes g.row.PREFIX_LEN c.args.arena.now c.apply.new.arena c.in-Some.top at.1 at.0 at.2 (c.in-Ok.ensures.others at.0 at.1 at.2 at.3) point.leaf_node_ptr c.in-Ok.deleted (c.in-Ok.ensures.ok at.0 at.1 at.2 at.3)
