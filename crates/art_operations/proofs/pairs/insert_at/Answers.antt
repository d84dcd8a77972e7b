use Rattle.std.proofs.Common.{◌+◌, arith}
use Rattle.art_arena.proofs.Common.{steps_of}
use Rattle.art_operations.proofs.HeldPairs.{put-at, stored-exact}
use Rattle.art_operations.proofs.LeafNames.{inserted-names}
use Rattle.art_operations.proofs.NewNodes.{fewer}
use Rattle.art_operations.proofs.Results.{both_ok, map_ok}
use Rattle.art_operations.proofs.pairs.insert_at.Goals as goal

pub apply-requires : goal.apply-requires
apply-requires g c =
    let has = rw c.in-Some.is at c.requires.2 in
    (omega arith, (has.shape, c.requires.1, has.is_tree, has.place))

pub returns-in-Some-clause-ok : goal.returns-in-Some-clause-ok
returns-in-Some-clause-ok g c = map_ok c.apply.result _ _ c.apply.ensures.ok (λ put inserted. λ pairs rest can.
    let has = rw c.in-Some.is at can in
    put-at g.K.AsBytes.bytes g.row.PREFIX_LEN c.args.arena.now c.apply.new.arena c.in-Some.point c.args.key c.args.value pairs has (steps_of c.in-Some.point.path) put (inserted has.shape rest has.is_tree has.place))

pub returns-in-Some-clause-others : goal.returns-in-Some-clause-others
returns-in-Some-clause-others g c = map_ok c.apply.result _ _ c.apply.ensures.others (λ put kept. λ pairs rest can.
    let has = rw c.in-Some.is at can in
    kept has.shape rest has.is_tree has.place)

pub returns-in-Some-clause-stored : goal.returns-in-Some-clause-stored
returns-in-Some-clause-stored g c = λ pairs rest can stored.
    let has = rw c.in-Some.is at can in
    let exact = stored-exact g.K.AsBytes.bytes g.row.PREFIX_LEN c.args.arena.now c.in-Some.point (g.K.AsBytes.bytes c.args.key) pairs has stored in
    c.apply.ensures.exact exact.0 exact.1

pub returns-in-None-clause-ok : goal.returns-in-None-clause-ok
returns-in-None-clause-ok g c = map_ok c.insert_first.result _ _ c.insert_first.ensures.ok (λ put is. λ pairs rest can.
    let none = rw c.in-None.is at can in rw none.0 (is rest none.1))

pub returns-in-None-clause-others : goal.returns-in-None-clause-others
returns-in-None-clause-others g c = map_ok c.insert_first.result _ _ c.insert_first.ensures.others (λ put kept. λ pairs rest can. let none = rw c.in-None.is at can in kept rest none.1)

pub returns-in-None-clause-room : goal.returns-in-None-clause-room
returns-in-None-clause-room g c = λ n room. c.insert_first.ensures.room n (fewer c.args.arena.now (n + 1) (n + 2) (omega arith) room)

pub returns-in-Some-clause-names : goal.returns-in-Some-clause-names
returns-in-Some-clause-names g c =
    let has = rw c.in-Some.is at c.requires.2 in
    both_ok c.apply.result _ _ _ c.apply.ensures.ok c.apply.ensures.others (λ put inserted kept.
    inserted-names g.K.AsBytes.bytes g.row.PREFIX_LEN c.args.arena.now c.apply.new.arena c.in-Some.point.root c.requires.1 has.shape has.is_tree
    (kept has.shape c.requires.1 has.is_tree has.place) (steps_of c.in-Some.point.path) c.args.key c.args.value put
    (inserted has.shape c.requires.1 has.is_tree has.place))

pub returns-in-Some-clause-stored_room : goal.returns-in-Some-clause-stored_room
returns-in-Some-clause-stored_room g c = λ pairs rest can stored.
    let has = rw c.in-Some.is at can in
    let exact = stored-exact g.K.AsBytes.bytes g.row.PREFIX_LEN c.args.arena.now c.in-Some.point (g.K.AsBytes.bytes c.args.key) pairs has stored in
    c.apply.ensures.exact_room exact.0 exact.1
