use Rattle.std.proofs.Common.{◌+◌, subst, arith}
use Rattle.art_operations.proofs.Terms.{KeepsLeavesOf, steps_at, with_pair_over}
use Rattle.art_operations.proofs.NewNodes.{fewer}
use Rattle.art_operations.proofs.PutOver.{none-removed, put-over-at, stored-over}
use Rattle.art_operations.proofs.Results.{map_ok}
use Rattle.art_operations.proofs.pairs.insert_over.Goals as goal

pub apply-requires : goal.apply-requires
apply-requires g c =
    let has = rw c.in-Some.is at c.requires.2 in
    (omega arith, (has.shape, c.requires.1, has.is_tree, has.place))

pub returns-in-Some-clause-ok : goal.returns-in-Some-clause-ok
returns-in-Some-clause-ok g c = map_ok c.apply.result _ _ c.apply.ensures.ok (λ put done. λ pairs rest can.
    let has = rw c.in-Some.is at can in
    put-over-at g.K.AsBytes.bytes g.row.PREFIX_LEN c.args.arena.now c.apply.new.arena c.in-Some.over c.args.key c.args.value pairs has (steps_at c.in-Some.over) put (done has.shape rest has.is_tree has.place))

pub returns-in-Some-clause-others : goal.returns-in-Some-clause-others
returns-in-Some-clause-others g c = map_ok c.apply.result _ _ c.apply.ensures.others (λ put kept. λ pairs rest can.
    let has = rw c.in-Some.is at can in
    kept has.shape rest has.is_tree has.place)

pub returns-in-Some-clause-stored : goal.returns-in-Some-clause-stored
returns-in-Some-clause-stored g c = λ pairs rest can stored.
    let has = rw c.in-Some.is at can in
    c.apply.ensures.exact (stored-over g.K.AsBytes.bytes g.row.PREFIX_LEN c.args.arena.now c.in-Some.over (g.K.AsBytes.bytes c.args.key) pairs has stored)

pub returns-in_ok-insert_first-in-None-clause-room : goal.returns-in_ok-insert_first-in-None-clause-room
returns-in_ok-insert_first-in-None-clause-room g c = λ n room. c.insert_first.ensures.room n (fewer c.args.arena.now (n + 1) (n + 2) (omega arith) room)

pub returns-in_ok-insert_first-in-None-clause-ok : goal.returns-in_ok-insert_first-in-None-clause-ok
returns-in_ok-insert_first-in-None-clause-ok g c = λ pairs rest can.
    let none = rw c.in-None.is at can in
    let put = c.in_ok-insert_first-in-None.ensures.ok rest none.1 in
    rw none.0 (record { has = put.has; removed = none-removed _ put.old; leaf = put.leaf })

pub returns-in_ok-insert_first-in-None-clause-leaf_room : goal.returns-in_ok-insert_first-in-None-clause-leaf_room
returns-in_ok-insert_first-in-None-clause-leaf_room g c = λ n room. c.in_ok-insert_first-in-None.ensures.leaf_room n room

pub returns-in-Some-clause-names : goal.returns-in-Some-clause-names
returns-in-Some-clause-names g c = map_ok c.apply.result _ _ c.apply.ensures.names (λ put keeps. λ pairs rest can.
    let has = rw c.in-Some.is at can in
    subst (λ ps. KeepsLeavesOf g.K.AsBytes.bytes (with_pair_over g.K.AsBytes.bytes c.args.key c.args.value ps) c.args.arena.now c.apply.new.arena) has.pairs_are (keeps has.shape rest has.is_tree has.place))

pub returns-in-Some-clause-stored_room : goal.returns-in-Some-clause-stored_room
returns-in-Some-clause-stored_room g c = λ pairs rest can stored.
    let has = rw c.in-Some.is at can in
    c.apply.ensures.exact_room (stored-over g.K.AsBytes.bytes g.row.PREFIX_LEN c.args.arena.now c.in-Some.over (g.K.AsBytes.bytes c.args.key) pairs has stored)
