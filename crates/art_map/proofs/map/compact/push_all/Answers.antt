use Rattle.std.proofs.Common.{length, ap, arith}
use Rattle.art_map.proofs.Compacted.{all-taken, next-later, next-taken, none-taken}
use Rattle.art_map.proofs.map.compact.push_all.Goals as goal

pub loop-key-init : goal.loop-key-init
loop-key-init g c = record {
  taken = none-taken g.K.AsBytes.bytes g.row.PREFIX_LEN c.args.arena.now c.args.builder.now c.args.pairs c.requires.none;
  places = c.requires.places;
  leaves = c.requires.leaves;
}

pub push-requires : goal.push-requires
push-requires g c =
    let is = c.loop-key.invariant.taken in
    (omega arith, (is.taken, is.builds))

pub unreachable-requires : goal.unreachable-requires
unreachable-requires g c =
    let is = c.loop-key.invariant.taken in
    let long = ap length c.in-Some.ensures.steps in
    let places = c.loop-key.invariant.places in
    let leaves = c.loop-key.invariant.leaves in
    let never = c.in-Err.ensures.with_room (omega (arith, long, places)) (omega (arith, long, leaves)) is.taken is.builds
    (next-later g.K.AsBytes.bytes g.row.PREFIX_LEN c.loop-key.arena c.loop-key.builder c.loop-key.pairs c.args.pairs is (c.in-Some.key, c.in-Some.value) c.next.new.self c.in-Some.ensures.steps c.requires.ordered) in
    absurd (cc)

pub loop-key-preserved : goal.loop-key-preserved
loop-key-preserved g c =
    let is = c.loop-key.invariant.taken in
    let long = ap length c.in-Some.ensures.steps in
    let places = c.loop-key.invariant.places in
    let leaves = c.loop-key.invariant.leaves in
    record {
      taken = next-taken g.K.AsBytes.bytes g.row.PREFIX_LEN c.loop-key.arena c.loop-key.builder c.loop-key.pairs c.args.pairs is (c.in-Some.key, c.in-Some.value) c.next.new.self c.in-Some.ensures.steps c.push.new.arena c.push.new.self (c.in-Ok.ensures.ok is.taken is.builds);
      places = c.in-Ok.ensures.uses _ (omega (arith, long, places));
      leaves = c.in-Ok.ensures.leaf_room _ (omega (arith, long, leaves));
    }

pub returns : goal.returns
returns g c = record { built = all-taken g.K.AsBytes.bytes g.row.PREFIX_LEN c.loop-key.arena c.loop-key.builder c.loop-key.pairs c.args.pairs c.in_default.ensures.steps.0 c.loop-key.invariant.taken }
