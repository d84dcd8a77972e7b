use Rattle.std.proofs.Common.{drop, length, ap, lit<, arith}
use Rattle.art_arena.proofs.Terms.{erase, path_to_guide}
use Rattle.art_arena.proofs.shapes.Guides.{read_along, read_ends, read_led, read_one}
use Rattle.art_arena.proofs.guide.walk_on.Goals as goal

pub walk_along-requires : goal.walk_along-requires
walk_along-requires g c =
    let r = c.requires.stands in
    let goes = c.in-Some.ensures in
    let along = read_along g.K.AsBytes.bytes g.row.PREFIX_LEN c.args.reader.now.arena.now c.args.inner.now.node r.0 c.args.depth r.1 r.2 r.3 c.args.key.now c.in-Some.step.byte c.in-Some.step.child c.in-Some.step.depth goes in
    (lit< tt, ((along.below, along.part, along.stands), goes.within))

pub returns-in-Some-clause-guide : goal.returns-in-Some-clause-guide
returns-in-Some-clause-guide g c = λ root path s at.
    let along = read_along g.K.AsBytes.bytes g.row.PREFIX_LEN c.args.reader.now.arena.now c.args.inner.now.node root c.args.depth path s at c.args.key.now c.in-Some.step.byte c.in-Some.step.child c.in-Some.step.depth c.in-Some.ensures in
    along.up (g.K.AsBytes.bytes c.walk_along.result.now.key) (c.walk_along.ensures.guide along.below along.part along.stands)

pub returns-in-Some-clause-few : goal.returns-in-Some-clause-few
returns-in-Some-clause-few g c = λ root path s at longest short.
    let along = read_along g.K.AsBytes.bytes g.row.PREFIX_LEN c.args.reader.now.arena.now c.args.inner.now.node root c.args.depth path s at c.args.key.now c.in-Some.step.byte c.in-Some.step.child c.in-Some.step.depth c.in-Some.ensures in
    let few = c.walk_along.ensures.few along.below along.part along.stands longest (along.within longest short) in
    omega (arith, few, c.in-Some.ensures.next_is)

pub returns-in-Some-clause-counts : goal.returns-in-Some-clause-counts
returns-in-Some-clause-counts g c = λ root path s at.
    let along = read_along g.K.AsBytes.bytes g.row.PREFIX_LEN c.args.reader.now.arena.now c.args.inner.now.node root c.args.depth path s at c.args.key.now c.in-Some.step.byte c.in-Some.step.child c.in-Some.step.depth c.in-Some.ensures in
    let counts = c.walk_along.ensures.counts along.below along.part along.stands in
    omega (
      arith,
      counts,
      along.led,
      read_one g.K.AsBytes.bytes g.row.PREFIX_LEN c.args.reader.now.arena.now c.args.inner.now.node root c.args.depth path s at
          c.args.key.now c.in-Some.step.byte c.in-Some.step.child c.in-Some.step.depth c.in-Some.ensures,
      ap (λ d. length (path_to_guide (erase s) (drop d c.args.key.now))) at.stands.path_len,
    )

pub returns-in-None-clause-counts : goal.returns-in-None-clause-counts
returns-in-None-clause-counts g c = λ root path s at.
    let exact = c.walk_below.ensures.exact root c.args.depth path s at in
    let ended = read_led g.K.AsBytes.bytes g.row.PREFIX_LEN c.args.reader.now.arena.now c.args.inner.now.node root c.args.depth path s at c.args.key.now c.in-None.ensures in
    omega (arith, exact, ended)

pub returns-in-None-clause-guide : goal.returns-in-None-clause-guide
returns-in-None-clause-guide g c = λ root path s at.
    read_ends g.K.AsBytes.bytes g.row.PREFIX_LEN c.args.reader.now.arena.now c.args.inner.now.node root c.args.depth path s at c.args.key.now c.in-None.ensures
    c.walk_below.result.name c.walk_below.result.leaf.now (c.walk_below.ensures.value root c.args.depth path s at) c.walk_below.ensures.leaf

pub returns-in-None-clause-few : goal.returns-in-None-clause-few
returns-in-None-clause-few g c = λ root path s at longest short. c.walk_below.ensures.few root c.args.depth path s at longest short
