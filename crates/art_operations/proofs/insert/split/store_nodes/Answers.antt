use Rattle.std.proofs.Common.{◌≡◌, ◌+◌, Some, IsSome, refl, sym, subst, ◌∙◌, arith}
use Rattle.art_arena.proofs.Common.{held_at, leaf_name}
use Rattle.art_operations.proofs.Terms.{lone_leaf}
use Rattle.art_operations.proofs.NewNodes.{fewer, undone, undone_room}
use Rattle.art_operations.proofs.insert.split.store_nodes.Goals as goal

pub take_back-requires : goal.take_back-requires
take_back-requires g c =
    let there : held_at c.store_split.new.arena (leaf_name c.in_ok-leaf.leaf) ≡ Some (lone_leaf c.args.key c.args.value) = c.in-Err.ensures.err (leaf_name c.in_ok-leaf.leaf) ∙ c.in_ok-leaf.ensures.ok.updates.changed in
    (omega arith, subst IsSome (sym there) refl)

pub returns-in-Ok-clause-ok : goal.returns-in-Ok-clause-ok
returns-in-Ok-clause-ok g c = record { between = c.store_leaf.new.arena; first = c.in_ok-leaf.ensures.ok; second = c.in-Ok.ensures.ok _ c.in_ok-leaf.ensures.ok.updates.changed }

pub returns-in-Ok-clause-room : goal.returns-in-Ok-clause-room
returns-in-Ok-clause-room g c = λ n room. c.in-Ok.ensures.room n (c.in_ok-leaf.ensures.room (n + 1) (fewer c.args.arena.now (n + 1 + 1) _ (omega arith) room))

pub returns-in-Ok-clause-leaf_room : goal.returns-in-Ok-clause-leaf_room
returns-in-Ok-clause-leaf_room g c = λ n room. let made = c.in-Ok.ensures.leaf_room n (c.in_ok-leaf.ensures.room_of.own n room) in omega (arith, made)

pub returns-in-Err-clause-err : goal.returns-in-Err-clause-err
returns-in-Err-clause-err g c = undone c.args.arena.now c.store_leaf.new.arena c.store_split.new.arena c.take_back.new.arena _ _ c.in_ok-leaf.ensures.ok c.in-Err.ensures.err c.take_back.ensures.updates

pub returns-in-Err-clause-handed_back : goal.returns-in-Err-clause-handed_back
returns-in-Err-clause-handed_back g c =
    let there : held_at c.store_split.new.arena (leaf_name c.in_ok-leaf.leaf) ≡ Some (lone_leaf c.args.key c.args.value) = c.in-Err.ensures.err (leaf_name c.in_ok-leaf.leaf) ∙ c.in_ok-leaf.ensures.ok.updates.changed in
    c.take_back.ensures.pair _ there

pub returns-in-Err-clause-succeeds : goal.returns-in-Err-clause-succeeds
returns-in-Err-clause-succeeds g c = λ room. c.in-Err.ensures.succeeds (c.in_ok-leaf.ensures.room 1 room)

pub returns-in-Err-clause-room : goal.returns-in-Err-clause-room
returns-in-Err-clause-room g c = λ n room.
    c.take_back.ensures.room n (c.in-Err.ensures.room n (c.in_ok-leaf.ensures.room (n + 1) (fewer c.args.arena.now (n + 1 + 1) _ (omega arith) room)))

pub returns-in-Err-clause-kept_room : goal.returns-in-Err-clause-kept_room
returns-in-Err-clause-kept_room g c =
    undone_room c.args.arena.now c.store_leaf.new.arena c.store_split.new.arena c.take_back.new.arena c.store_leaf.ensures.room_of c.in-Err.ensures.kept_room c.take_back.ensures.room_of c.take_back.ensures.frees c.take_back.ensures.room_for_it
