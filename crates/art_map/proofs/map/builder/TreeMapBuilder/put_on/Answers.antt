use Rattle.std.proofs.Common.{refl, arith}
use Rattle.std.proofs.lemmas.Result.{on_err_weaker}
use Rattle.std.specs.List.{AllByRecursion}
use Rattle.std.specs.Prelude.{IsOk}
use Rattle.art_arena.proofs.Common.{key_of}
use Rattle.art_operations.proofs.Common.{HasKey, IsBlocked, IsForConflict, IsPairRefused, with_pair_put}
use Rattle.art_map.proofs.Terms.{HasGathered, KeepsRoomLeft}
use Rattle.art_map.proofs.Built.{err-of-these, err-where, free-after, handed-back, in-order, is-settled, names-of, new-after, nodes-in-order, nodes-settled, of-these, ok-of-these, settled, taken-after}
use Rattle.art_map.proofs.LeafNames.{then-names}
use Rattle.art_map.proofs.RoomLeft.{kept-inserted, kept-settled, left-after, left-inserted, left-of-map, left-of-tree, left-settled}
use Rattle.art_map.proofs.map.builder.TreeMapBuilder.put_on.Goals as goal

pub returns-in-Ok-clause-ok : goal.returns-in-Ok-clause-ok
returns-in-Ok-clause-ok g c = λ pairs has.
    let taken = in-order g.K.AsBytes.bytes g.K.AsBytes.is_key c.args.self.now pairs c.if-not-self.false has in
    taken-after g.K.AsBytes.bytes g.K.AsBytes.is_key
    (record { alloc = c.args.self.now.alloc; in_order = c.args.self.now.in_order; wait = c.args.self.now.wait; pause = c.args.self.now.pause; arena = c.push.new.arena; builder = c.push.new.self; map = c.args.self.now.map })
    (with_pair_put g.K.AsBytes.bytes c.args.key c.args.value pairs) pairs c.args.key c.args.value refl c.if-not-self.false (c.in-Ok.ensures.ok pairs taken.0) taken.1 c.as_bytes-key_bytes.ensures.key taken.2

pub returns-then-not-self-clause-free : goal.returns-then-not-self-clause-free
returns-then-not-self-clause-free g c =
    let old = c.args.self.now in
    ok-of-these g.K.AsBytes.bytes g.K.AsBytes.is_key old old.map.pairs c.args.key c.args.key c.args.value c.args.value
    (λ pairs has. (settled g.K.AsBytes.bytes g.K.AsBytes.is_key old pairs c.if-not-self.true has, refl, refl))
    (λ k v ps. IsBlocked (key_of g.K.AsBytes.bytes) (g.K.AsBytes.bytes k) ps → ⊥) c.insert.result c.insert.ensures.free

pub returns-then-not-self-clause-refused : goal.returns-then-not-self-clause-refused
returns-then-not-self-clause-refused g c =
    let old = c.args.self.now in
    err-of-these g.K.AsBytes.bytes g.K.AsBytes.is_key old old.map.pairs c.args.key c.args.key c.args.value c.args.value (λ pairs has. (settled g.K.AsBytes.bytes g.K.AsBytes.is_key old pairs c.if-not-self.true has, refl, refl))
    (λ e k v ps. IsPairRefused k v (IsBlocked (key_of g.K.AsBytes.bytes) (g.K.AsBytes.bytes k) ps) e) c.insert.result c.insert.ensures.refused

pub returns-then-not-self-clause-stored : goal.returns-then-not-self-clause-stored
returns-then-not-self-clause-stored g c =
    let old = c.args.self.now in
    of-these g.K.AsBytes.bytes g.K.AsBytes.is_key old old.map.pairs c.args.key c.args.key c.args.value c.args.value
    (λ pairs has. (settled g.K.AsBytes.bytes g.K.AsBytes.is_key old pairs c.if-not-self.true has, refl, refl))
    (λ k v ps. HasKey (key_of g.K.AsBytes.bytes) (g.K.AsBytes.bytes k) ps → IsOk c.insert.result) c.insert.ensures.stored

pub returns-then-not-self-clause-keys : goal.returns-then-not-self-clause-keys
returns-then-not-self-clause-keys g c =
    let old = c.args.self.now in
    of-these g.K.AsBytes.bytes g.K.AsBytes.is_key old old.map.pairs c.args.key c.args.key c.args.value c.args.value
    (λ pairs has. (settled g.K.AsBytes.bytes g.K.AsBytes.is_key old pairs c.if-not-self.true has, refl, refl))
    (λ k v ps. AllByRecursion (λ p. g.K.AsBytes.is_key p.0) ps) c.insert.ensures.keys

pub returns-in-Ok-clause-free : goal.returns-in-Ok-clause-free
returns-in-Ok-clause-free g c = λ pairs has.
    let taken = in-order g.K.AsBytes.bytes g.K.AsBytes.is_key c.args.self.now pairs c.if-not-self.false has in
    free-after g.K.AsBytes.bytes g.row.PREFIX_LEN c.push.new.arena c.push.new.self pairs c.args.key c.args.value (c.in-Ok.ensures.ok pairs taken.0)

pub returns-in-Ok-clause-keys : goal.returns-in-Ok-clause-keys
returns-in-Ok-clause-keys g c = λ pairs has. (in-order g.K.AsBytes.bytes g.K.AsBytes.is_key c.args.self.now pairs c.if-not-self.false has).1

pub returns-in-Err-clause-ok : goal.returns-in-Err-clause-ok
returns-in-Err-clause-ok g c =
    let old = c.args.self.now in
    let key = c.args.key in
    let value = c.args.value in
    let gone = c.handed_back-key.result in
    let new = c.insert-in-Err.new.self in
    ok-of-these g.K.AsBytes.bytes g.K.AsBytes.is_key old c.build_in_order.new.self.map.pairs gone.0 key gone.1 value (λ pairs has.
    let taken = in-order g.K.AsBytes.bytes g.K.AsBytes.is_key old pairs c.if-not-self.false has in
    let back = handed-back _ key value c.in-Err.refused gone c.handed_back-key.ensures (c.in-Err.ensures.refused pairs taken.0) in
    (c.build_in_order.ensures.pairs pairs (c.in-Err.ensures.left pairs taken.0, taken.1, taken.2), back.0, back.1))
    (λ k v ps. HasGathered g.K.AsBytes.bytes g.K.AsBytes.is_key new (with_pair_put g.K.AsBytes.bytes k v ps)) c.insert-in-Err.result
    (is-settled g.K.AsBytes.bytes g.K.AsBytes.is_key new (with_pair_put g.K.AsBytes.bytes gone.0 gone.1 c.build_in_order.new.self.map.pairs) c.insert-in-Err.result c.insert-in-Err.ensures.settled c.insert-in-Err.ensures.pairs)

pub returns-in-Err-clause-free : goal.returns-in-Err-clause-free
returns-in-Err-clause-free g c =
    let old = c.args.self.now in
    let key = c.args.key in
    let value = c.args.value in
    let gone = c.handed_back-key.result in
    ok-of-these g.K.AsBytes.bytes g.K.AsBytes.is_key old c.build_in_order.new.self.map.pairs gone.0 key gone.1 value (λ pairs has.
    let taken = in-order g.K.AsBytes.bytes g.K.AsBytes.is_key old pairs c.if-not-self.false has in
    let back = handed-back _ key value c.in-Err.refused gone c.handed_back-key.ensures (c.in-Err.ensures.refused pairs taken.0) in
    (c.build_in_order.ensures.pairs pairs (c.in-Err.ensures.left pairs taken.0, taken.1, taken.2), back.0, back.1))
    (λ k v ps. IsBlocked (key_of g.K.AsBytes.bytes) (g.K.AsBytes.bytes k) ps → ⊥) c.insert-in-Err.result c.insert-in-Err.ensures.free

pub returns-in-Err-clause-refused : goal.returns-in-Err-clause-refused
returns-in-Err-clause-refused g c =
    let old = c.args.self.now in
    let key = c.args.key in
    let value = c.args.value in
    let gone = c.handed_back-key.result in
    err-of-these g.K.AsBytes.bytes g.K.AsBytes.is_key old c.build_in_order.new.self.map.pairs gone.0 key gone.1 value (λ pairs has.
    let taken = in-order g.K.AsBytes.bytes g.K.AsBytes.is_key old pairs c.if-not-self.false has in
    let back = handed-back _ key value c.in-Err.refused gone c.handed_back-key.ensures (c.in-Err.ensures.refused pairs taken.0) in
    (c.build_in_order.ensures.pairs pairs (c.in-Err.ensures.left pairs taken.0, taken.1, taken.2), back.0, back.1))
    (λ e k v ps. IsPairRefused k v (IsBlocked (key_of g.K.AsBytes.bytes) (g.K.AsBytes.bytes k) ps) e) c.insert-in-Err.result c.insert-in-Err.ensures.refused

pub returns-in-Err-clause-stored : goal.returns-in-Err-clause-stored
returns-in-Err-clause-stored g c =
    let old = c.args.self.now in
    let key = c.args.key in
    let value = c.args.value in
    let gone = c.handed_back-key.result in
    of-these g.K.AsBytes.bytes g.K.AsBytes.is_key old c.build_in_order.new.self.map.pairs gone.0 key gone.1 value (λ pairs has.
    let taken = in-order g.K.AsBytes.bytes g.K.AsBytes.is_key old pairs c.if-not-self.false has in
    let back = handed-back _ key value c.in-Err.refused gone c.handed_back-key.ensures (c.in-Err.ensures.refused pairs taken.0) in
    (c.build_in_order.ensures.pairs pairs (c.in-Err.ensures.left pairs taken.0, taken.1, taken.2), back.0, back.1))
    (λ k v ps. HasKey (key_of g.K.AsBytes.bytes) (g.K.AsBytes.bytes k) ps → IsOk c.insert-in-Err.result) c.insert-in-Err.ensures.stored

pub returns-in-Err-clause-keys : goal.returns-in-Err-clause-keys
returns-in-Err-clause-keys g c = λ pairs has. (in-order g.K.AsBytes.bytes g.K.AsBytes.is_key c.args.self.now pairs c.if-not-self.false has).1

pub returns-then-not-self-clause-names : goal.returns-then-not-self-clause-names
returns-then-not-self-clause-names g c =
    let old = c.args.self.now in
    let new = c.insert.new.self in
    names-of g.K.AsBytes.bytes old new old.map.nodes new.map.nodes (nodes-settled g.K.AsBytes.bytes old c.if-not-self.true) (nodes-settled g.K.AsBytes.bytes new c.insert.ensures.settled) c.insert.ensures.names

pub returns-in-Ok-clause-names : goal.returns-in-Ok-clause-names
returns-in-Ok-clause-names g c =
    let old = c.args.self.now in
    names-of g.K.AsBytes.bytes old (record { alloc = old.alloc; in_order = old.in_order; wait = old.wait; pause = old.pause; arena = c.push.new.arena; builder = c.push.new.self; map = old.map }) old.arena c.push.new.arena
    (nodes-in-order g.K.AsBytes.bytes old c.if-not-self.false)
    (nodes-in-order {P = g.row.PREFIX_LEN} g.K.AsBytes.bytes
    (record {
      alloc = old.alloc;
      in_order = old.in_order;
      wait = old.wait;
      pause = old.pause;
      arena = c.push.new.arena;
      builder = c.push.new.self;
      map
          = old.map;
    }) c.if-not-self.false) c.push.ensures.names

pub returns-in-Err-clause-names : goal.returns-in-Err-clause-names
returns-in-Err-clause-names g c =
    let old = c.args.self.now in
    let new = c.insert-in-Err.new.self in
    names-of g.K.AsBytes.bytes old new old.arena new.map.nodes (nodes-in-order g.K.AsBytes.bytes old c.if-not-self.false) (nodes-settled g.K.AsBytes.bytes new c.insert-in-Err.ensures.settled)
    (then-names g.K.AsBytes.bytes new.map.nodes c.build_in_order.new.self.map.nodes old.arena c.insert-in-Err.ensures.names (then-names g.K.AsBytes.bytes c.build_in_order.new.self.map.nodes c.push.new.arena old.arena c.build_in_order.ensures.names c.push.ensures.names))

pub returns-then-not-self-clause-succeeds : goal.returns-then-not-self-clause-succeeds
returns-then-not-self-clause-succeeds g c = err-where IsForConflict c.insert.result (left-of-map c.args.self.now 2 c.if-not-self.true) c.insert.ensures.succeeds

pub returns-then-not-self-clause-room : goal.returns-then-not-self-clause-room
returns-then-not-self-clause-room g c = λ n. left-inserted c.args.self.now c.insert.new.self n c.if-not-self.true c.insert.ensures.settled c.insert.ensures.room

pub returns-in-Ok-clause-room : goal.returns-in-Ok-clause-room
returns-in-Ok-clause-room g c = λ n.
    let old = c.args.self.now in
    left-after old (record { alloc = old.alloc; in_order = old.in_order; wait = old.wait; pause = old.pause; arena = c.push.new.arena; builder = c.push.new.self; map = old.map }) n c.if-not-self.false c.if-not-self.false c.push.ensures.room

pub returns-in-Err-clause-succeeds : goal.returns-in-Err-clause-succeeds
returns-in-Err-clause-succeeds g c =
    err-where IsForConflict c.insert-in-Err.result (λ left. c.build_in_order.ensures.room 2 (c.in-Err.ensures.kept_room 2 (omega arith) (left-of-tree c.args.self.now 2 c.if-not-self.false left))) c.insert-in-Err.ensures.succeeds

pub returns-in-Err-clause-room : goal.returns-in-Err-clause-room
returns-in-Err-clause-room g c = λ n.
    left-settled c.args.self.now c.insert-in-Err.new.self n c.build_in_order.new.self.map.nodes c.if-not-self.false c.insert-in-Err.ensures.settled (λ m some room. c.build_in_order.ensures.room m (c.in-Err.ensures.kept_room m some room)) c.insert-in-Err.ensures.room

pub returns-then-not-self-clause-kept_room : goal.returns-then-not-self-clause-kept_room
returns-then-not-self-clause-kept_room g c = on_err_weaker c.insert.result (kept-inserted c.args.self.now c.insert.new.self c.if-not-self.true c.insert.ensures.settled) c.insert.ensures.kept_room

pub returns-then-not-self-clause-stored_room : goal.returns-then-not-self-clause-stored_room
returns-then-not-self-clause-stored_room g c =
    let old = c.args.self.now in
    let new = c.insert.new.self in
    of-these g.K.AsBytes.bytes g.K.AsBytes.is_key old old.map.pairs c.args.key c.args.key c.args.value c.args.value (λ pairs has. (settled g.K.AsBytes.bytes g.K.AsBytes.is_key old pairs c.if-not-self.true has, refl, refl))
    (λ k v ps. HasKey (key_of g.K.AsBytes.bytes) (g.K.AsBytes.bytes k) ps → KeepsRoomLeft old new) (λ has. kept-inserted old new c.if-not-self.true c.insert.ensures.settled (c.insert.ensures.stored_room has))

pub returns-in-Ok-clause-stored_room : goal.returns-in-Ok-clause-stored_room
returns-in-Ok-clause-stored_room g c = λ pairs has stored.
    let taken = in-order g.K.AsBytes.bytes g.K.AsBytes.is_key c.args.self.now pairs c.if-not-self.false has in
    absurd (new-after g.K.AsBytes.bytes g.row.PREFIX_LEN c.push.new.arena c.push.new.self pairs c.args.key c.args.value (c.in-Ok.ensures.ok pairs taken.0) stored)

pub returns-in-Err-clause-kept_room : goal.returns-in-Err-clause-kept_room
returns-in-Err-clause-kept_room g c =
    on_err_weaker c.insert-in-Err.result
    (kept-settled c.args.self.now c.insert-in-Err.new.self c.build_in_order.new.self.map.nodes c.if-not-self.false c.insert-in-Err.ensures.settled (λ m some room. c.build_in_order.ensures.room m (c.in-Err.ensures.kept_room m some room))) c.insert-in-Err.ensures.kept_room

pub returns-in-Err-clause-stored_room : goal.returns-in-Err-clause-stored_room
returns-in-Err-clause-stored_room g c =
    let old = c.args.self.now in
    let key = c.args.key in
    let value = c.args.value in
    let gone = c.handed_back-key.result in
    let new = c.insert-in-Err.new.self in
    of-these g.K.AsBytes.bytes g.K.AsBytes.is_key old c.build_in_order.new.self.map.pairs gone.0 key gone.1 value (λ pairs has.
    let taken = in-order g.K.AsBytes.bytes g.K.AsBytes.is_key old pairs c.if-not-self.false has in
    let back = handed-back _ key value c.in-Err.refused gone c.handed_back-key.ensures (c.in-Err.ensures.refused pairs taken.0) in
    (c.build_in_order.ensures.pairs pairs (c.in-Err.ensures.left pairs taken.0, taken.1, taken.2), back.0, back.1))
    (λ k v ps. HasKey (key_of g.K.AsBytes.bytes) (g.K.AsBytes.bytes k) ps → KeepsRoomLeft old new)
    (λ has. kept-settled old new c.build_in_order.new.self.map.nodes c.if-not-self.false c.insert-in-Err.ensures.settled (λ m some room. c.build_in_order.ensures.room m (c.in-Err.ensures.kept_room m some room)) (c.insert-in-Err.ensures.stored_room has))
