use Rattle.std.proofs.Common.{ℕ, suc, ◌+◌, ◌-◌, ◌^◌, min, List, drop, length, refl, sym, ap, subst, ◌∙◌, Some, arith, lit<}
use Rattle.art_arena.proofs.Terms.{held_at, node_at, IsAtDepth, IsReadAt, Shape, erase, held_of, path_to_guide, First}
use Rattle.art_arena.proofs.shapes.Guides.{along-goes, along-leaf, along-start, deep_within, goes_more, read_ends, read_led, some_end, start_none}
use Rattle.art_arena.proofs.shapes.Walking.{lent-inner, lent-leaf}
use Rattle.art_arena.proofs.guide.walk_along.Goals as goal
use Rattle.art_arena.proofs.guide.walk_along.Goals.{In-Err}

pub down-init : goal.down-init
down-init g c = record {
  room = c.requires.within;
  kept = refl;
  along = λ path s at. along-start g.K.AsBytes.bytes g.row.PREFIX_LEN (node_at c.args.reader.now.arena.now) c.args.key.now path s c.args.root c.args.depth at;
  counts = λ path s at. ap (λ n. min (c.args.reader.now.count + suc n) (2 ^ 64 - 1)) (sym (start_none g.K.AsBytes.bytes g.row.PREFIX_LEN (node_at c.args.reader.now.arena.now) c.args.key.now path s c.args.root c.args.depth at));
  least = omega arith;
  reads = omega arith;
}

pub returns-in-Ok-clause-few : goal.returns-in-Ok-clause-few
returns-in-Ok-clause-few g c = λ path s at longest short.
    let along = c.down.invariant.along path s at in
    let deep = deep_within g.K.AsBytes.bytes along.below along.part along.stands.subtree.under longest (along.within longest short) in
    omega (arith, deep, along.stands.path_len, c.visit.ensures.counts, c.down.invariant.reads)

pub returns-in-Ok-clause-counts : goal.returns-in-Ok-clause-counts
returns-in-Ok-clause-counts g c = λ path s at.
    let along = c.down.invariant.along path s at in
    let there = lent-leaf c.args.reader.now.arena.now c.down.reader.arena.now c.down.current (held_of c.visit.result) c.in-Ok.leaf.now c.down.invariant.kept c.visit.ensures.value c.in-Ok.ensures in
    let long = along-leaf g.K.AsBytes.bytes g.row.PREFIX_LEN (node_at c.args.reader.now.arena.now) c.args.key.now path s c.down.current c.down.used along c.in-Ok.leaf.now.key c.in-Ok.leaf.now.value there in
    omega (arith, c.visit.ensures.counts, c.down.invariant.counts path s at, long, ap (λ d. length (path_to_guide (erase s) (drop d c.args.key.now))) at.path_len)

-- the inner node that was read, in the part where it stands
is_read : (g : _) (c : In-Err g) (below : List ℕ) (part : Shape g.row.K.Denot g.row.V.Denot)
    → IsAtDepth g.K.AsBytes.bytes g.row.PREFIX_LEN (node_at c.args.reader.now.arena.now) c.down.current c.down.used below part
    → IsReadAt g.K.AsBytes.bytes g.row.PREFIX_LEN c.visit.new.self.arena.now c.in-Err.inner.node c.down.current c.down.used below part
is_read g c below part stands = record {
  stands = subst (λ a. IsAtDepth g.K.AsBytes.bytes g.row.PREFIX_LEN (node_at a) c.down.current c.down.used below part) (sym (c.visit.ensures.kept ∙ c.down.invariant.kept)) stands;
  held = ap (λ a. held_at a c.down.current) c.visit.ensures.kept ∙ c.visit.ensures.value ∙ ap Some c.in-Err.ensures.0;
}

pub walk_below-requires : goal.walk_below-requires
walk_below-requires g c =
    let d = (goal.at.walk_below-requires g c).In-Err in
    let r = c.requires.stands in
    let along = c.down.invariant.along r.0 r.1 r.2 in
    (lit< tt, (lit< tt, (c.down.current, c.down.used, along.below, along.part, is_read g d along.below along.part along.stands)))

pub returns-in-None-clause-guide : goal.returns-in-None-clause-guide
returns-in-None-clause-guide g c = λ path s at.
    let d = (goal.at.returns-in-None-clause-guide g c).In-Err in
    let along = c.down.invariant.along path s at in
    let here = is_read g d along.below along.part along.stands in
    along.up (g.K.AsBytes.bytes c.walk_below.result.leaf.now.key)
    (read_ends g.K.AsBytes.bytes g.row.PREFIX_LEN c.visit.new.self.arena.now c.in-Err.inner.node c.down.current c.down.used along.below along.part here c.args.key.now c.in-None.ensures
    c.walk_below.result.name c.walk_below.result.leaf.now (c.walk_below.ensures.value c.down.current c.down.used along.below along.part here) c.walk_below.ensures.leaf)

pub returns-in-None-clause-few : goal.returns-in-None-clause-few
returns-in-None-clause-few g c = λ path s at longest short.
    let d = (goal.at.returns-in-None-clause-few g c).In-Err in
    let along = c.down.invariant.along path s at in
    let few = c.walk_below.ensures.few c.down.current c.down.used along.below along.part (is_read g d along.below along.part along.stands) longest (along.within longest short) in
    omega (arith, few, c.visit.ensures.counts, c.down.invariant.reads)

pub returns-in-None-clause-counts : goal.returns-in-None-clause-counts
returns-in-None-clause-counts g c = λ path s at.
    let d = (goal.at.returns-in-None-clause-counts g c).In-Err in
    let along = c.down.invariant.along path s at in
    let here = is_read g d along.below along.part along.stands in
    let exact = c.walk_below.ensures.exact c.down.current c.down.used along.below along.part here in
    let ended = read_led g.K.AsBytes.bytes g.row.PREFIX_LEN c.visit.new.self.arena.now c.in-Err.inner.node c.down.current c.down.used along.below along.part here c.args.key.now c.in-None.ensures in
    omega (arith, exact, ended, along.led, c.visit.ensures.counts, c.down.invariant.counts path s at, some_end First (erase along.part), ap (λ d. length (path_to_guide (erase s) (drop d c.args.key.now))) at.path_len)

pub down-preserved : goal.down-preserved
down-preserved g c =
    let there = lent-inner c.args.reader.now.arena.now c.down.reader.arena.now c.down.current (held_of c.visit.result) c.in-Err.inner.node c.down.invariant.kept c.visit.ensures.value c.in-Err.ensures.0 in
    let goes = c.in-Some.ensures in
    record {
      room = goes.within;
      kept = c.visit.ensures.kept ∙ c.down.invariant.kept;
      along = λ path s at.
          along-goes g.K.AsBytes.bytes g.row.PREFIX_LEN (node_at c.args.reader.now.arena.now) c.args.key.now path s c.down.current c.down.used (c.down.invariant.along path s at)
          c.in-Err.inner.node there c.in-Some.step.byte c.in-Some.step.child c.in-Some.step.depth goes;
      counts = λ path s at.
          let more = goes_more g.K.AsBytes.bytes g.row.PREFIX_LEN (node_at c.args.reader.now.arena.now) c.args.key.now path s c.down.current c.down.used (c.down.invariant.along path s at)
          c.in-Err.inner.node there c.in-Some.step.byte c.in-Some.step.child c.in-Some.step.depth goes in
          omega (arith, more, c.visit.ensures.counts, c.down.invariant.counts path s at);
      least = omega (arith, c.visit.ensures.counts, c.down.invariant.least);
      reads = omega (arith, c.visit.ensures.counts, c.down.invariant.reads, goes.next_is);
    }
