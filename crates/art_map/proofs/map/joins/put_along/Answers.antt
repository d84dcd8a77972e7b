use Rattle.std.proofs.Common.{length, ap, subst, arith}
use Rattle.art_arena.proofs.Common.{key_of, AscendsByKey}
use Rattle.art_map.proofs.LeafNames.{then-names}
use Rattle.art_map.proofs.Maps.{none-blocks}
use Rattle.art_map.proofs.Merged.{all-merged, all-used, none-merged, one-merged}
use Rattle.art_map.proofs.map.joins.put_along.Goals as goal

pub loop-key-init : goal.loop-key-init
loop-key-init g c = record {
  put = λ had ahead keys. none-merged g.K.AsBytes.bytes g.K.AsBytes.is_key c.args.arena.now c.args.cursor.now c.args.pairs had ahead keys;
  ordered = c.requires.ordered;
  room = c.requires.room;
  names = λ slot key has. has;
  kept_room = λ kind other n room. room;
}

pub put-requires : goal.put-requires
put-requires g c =
    let r = c.requires.list in
    let is = c.loop-key.invariant.put r.0 r.1 r.2 in (
      omega arith,
      (
        is.now,
        record { among = is.ahead.among; passed = is.ahead.ahead (c.in-Some.key, c.in-Some.value) c.next.new.self c.in-Some.ensures.steps },
        none-blocks g.K.AsBytes.bytes g.K.AsBytes.is_key g.met.K.NoPrefixesBytes.no_prefixes is.now is.keys c.in-Some.key c.as_bytes-key_bytes.ensures.key,
      ),
    )

pub unreachable-requires : goal.unreachable-requires
unreachable-requires g c =
    let long = ap length c.in-Some.ensures.steps in
    let room = c.loop-key.invariant.room in
    let never = c.in-Err.ensures.succeeds (omega (arith, long, room)) in
    absurd (cc)

pub loop-key-preserved : goal.loop-key-preserved
loop-key-preserved g c =
    record {
      put = λ had ahead keys.
          let is = c.loop-key.invariant.put had ahead keys in
          let put = c.in-Ok.ensures.ok is.now (record { among = is.ahead.among; passed = is.ahead.ahead (c.in-Some.key, c.in-Some.value) c.next.new.self c.in-Some.ensures.steps })
          (none-blocks g.K.AsBytes.bytes g.K.AsBytes.is_key g.met.K.NoPrefixesBytes.no_prefixes is.now is.keys c.in-Some.key c.as_bytes-key_bytes.ensures.key) in
          one-merged g.K.AsBytes.bytes g.K.AsBytes.is_key c.args.arena.now c.loop-key.arena c.put.new.arena c.loop-key.cursor c.put.new.self (c.in-Some.key, c.in-Some.value) c.loop-key.pairs c.next.new.self c.args.pairs had is
          c.in-Some.ensures.steps c.loop-key.invariant.ordered c.as_bytes-key_bytes.ensures.key _ put
          (c.in-Ok.ensures.stored_room is.now (record { among = is.ahead.among; passed = is.ahead.ahead (c.in-Some.key, c.in-Some.value) c.next.new.self c.in-Some.ensures.steps })) c.in-Ok.ensures.room_of.own;
      ordered = (subst (AscendsByKey (key_of g.K.AsBytes.bytes)) c.in-Some.ensures.steps c.loop-key.invariant.ordered).1;
      room = c.in-Ok.ensures.room_of.own _ (let long = ap length c.in-Some.ensures.steps in let room = c.loop-key.invariant.room in omega (arith, long, room));
      names = then-names g.K.AsBytes.bytes c.put.new.arena c.loop-key.arena c.args.arena.now c.in-Ok.ensures.names c.loop-key.invariant.names;
      kept_room = λ kind other n room. c.in-Ok.ensures.room_of.others kind other n (c.loop-key.invariant.kept_room kind other n room);
    }

pub loop-key-preserved-in-Ok : goal.loop-key-preserved-in-Ok
loop-key-preserved-in-Ok g c =
    record {
      put = λ had ahead keys.
          let is = c.loop-key.invariant.put had ahead keys in
          let put = c.in-Ok.ensures.ok is.now (record { among = is.ahead.among; passed = is.ahead.ahead (c.in-Some.key, c.in-Some.value) c.next.new.self c.in-Some.ensures.steps })
          (none-blocks g.K.AsBytes.bytes g.K.AsBytes.is_key g.met.K.NoPrefixesBytes.no_prefixes is.now is.keys c.in-Some.key c.as_bytes-key_bytes.ensures.key) in
          one-merged g.K.AsBytes.bytes g.K.AsBytes.is_key c.args.arena.now c.loop-key.arena c.put.new.arena c.loop-key.cursor c.put.new.self (c.in-Some.key, c.in-Some.value) c.loop-key.pairs c.next.new.self c.args.pairs had is
          c.in-Some.ensures.steps c.loop-key.invariant.ordered c.as_bytes-key_bytes.ensures.key _ put
          (c.in-Ok.ensures.stored_room is.now (record { among = is.ahead.among; passed = is.ahead.ahead (c.in-Some.key, c.in-Some.value) c.next.new.self c.in-Some.ensures.steps })) c.in-Ok.ensures.room_of.own;
      ordered = (subst (AscendsByKey (key_of g.K.AsBytes.bytes)) c.in-Some.ensures.steps c.loop-key.invariant.ordered).1;
      room = c.in-Ok.ensures.room_of.own _ (let long = ap length c.in-Some.ensures.steps in let room = c.loop-key.invariant.room in omega (arith, long, room));
      names = then-names g.K.AsBytes.bytes c.put.new.arena c.loop-key.arena c.args.arena.now c.in-Ok.ensures.names c.loop-key.invariant.names;
      kept_room = λ kind other n room. c.in-Ok.ensures.room_of.others kind other n (c.loop-key.invariant.kept_room kind other n room);
    }

pub returns-clause-put : goal.returns-clause-put
returns-clause-put g c = λ had ahead keys.
    all-merged g.K.AsBytes.bytes g.K.AsBytes.is_key c.args.arena.now c.loop-key.arena c.loop-key.cursor c.loop-key.pairs c.args.pairs had c.in_default.ensures.steps.0 (c.loop-key.invariant.put had ahead keys)

pub returns-clause-leaf_room : goal.returns-clause-leaf_room
returns-clause-leaf_room g c = λ had ahead keys.
    all-used g.K.AsBytes.bytes g.K.AsBytes.is_key c.args.arena.now c.loop-key.arena c.loop-key.cursor c.loop-key.pairs c.args.pairs had c.in_default.ensures.steps.0 (c.loop-key.invariant.put had ahead keys)
