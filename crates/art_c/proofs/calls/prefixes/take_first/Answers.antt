use Rattle.std.proofs.Common.{refl, ◌∙◌, arith}
use Rattle.art_map.specs.Extractions.{left_of, map_of}
use Rattle.art_c.proofs.NodeRoom.{kept-room, lacks-one, none-used, not-ok, one-used}
use Rattle.art_c.proofs.Prefixes.{none-taken, one-taken, take-refused}
use Rattle.art_c.proofs.calls.prefixes.take_first.Goals as goal

pub loop-count-init : goal.loop-count-init
loop-count-init c =
    let m = (map_of c.args.pairs.now).now in
    (refl, none-taken c.args.prefix.now (left_of c.args.pairs.now) m.pairs c.args.words.now, none-used m.nodes m.nodes m.nodes)

pub loop-count-preserved : goal.loop-count-preserved
loop-count-preserved c =
    let it = c.loop-count.invariant.1 in (
      c.in-Ok.ensures.same_map ∙ c.loop-count.invariant.0,
      one-taken c.args.prefix.now (left_of c.args.pairs.now) (map_of c.args.pairs.now).now.pairs c.args.words.now it
          c.is_next_with.result c.is_next_with.ensures (c.in-Ok._key, c.in-Ok.word) (left_of c.take_front.new.self)
          (map_of c.take_front.new.self).now.pairs _ c.loop-count-test.true c.in-Ok.ensures.left
          (omega (arith, c.if-count-words.false, c.loop-count.auto.words, it.out.count_is, it.out.fit)) c.in-Ok.ensures.pairs refl,
      one-used (map_of c.args.pairs.now).now.nodes (map_of c.loop-count.pairs).now.nodes (map_of c.take_front.new.self).now.nodes
          c.loop-count.count c.loop-count.invariant.2 c.in-Ok.ensures.room,
    )

pub returns-in-Err-clause-taken : goal.returns-in-Err-clause-taken
returns-in-Err-clause-taken c =
    let s = c.in-Err.ensures.shrinks in
    take-refused c.args.prefix.now (left_of c.args.pairs.now) (map_of c.args.pairs.now).now.pairs c.args.words.now c.loop-count.invariant.1
    c.is_next_with.result c.is_next_with.ensures s.0 s.1 (map_of c.take_front.new.self).now.pairs c.loop-count-test.true s.2
    c.in-Err.ensures.err.1 s.3

pub returns-in-Err-clause-room : goal.returns-in-Err-clause-room
returns-in-Err-clause-room c =
    let old = (map_of c.args.pairs.now).now.nodes in let now = (map_of c.loop-count.pairs).now.nodes in
    let new = (map_of c.take_front.new.self).now.nodes in let used = c.loop-count.invariant.2 in let e = c.in-Err.ensures in (
      λ n has. kept-room now now new e.untouched.2 n (used n has),
      λ _. lacks-one old now new c.loop-count.count used (not-ok e.succeeds),
    )
