use Rattle.std.proofs.Common.{◌∙◌, arith}
use Rattle.std.specs.BTreeMap.Range.{range_contains}
use Rattle.std.specs.Range.Bound.{bound_map}
use Rattle.art_bytes.proofs.Common.{bytes_cmp}
use Rattle.art_operations.proofs.Common.{between_convex}
use Rattle.art_map.proofs.Maps.{ascending-map}
use Rattle.art_map.proofs.Ranges.{walk-by-leaves}
use Rattle.art_map.proofs.map.TreeMap.run_between.Goals as goal

pub new-requires : goal.new-requires
new-requires g c =
    let start = bound_map (λ key. key.now) c.args.start in
    let end = bound_map (λ key. key.now) c.args.end in
    let answer = rw (← c.self.view_is) at c.ends_between-ends.ensures in
    let walk =
    walk-by-leaves g.K.AsBytes.bytes g.K.AsBytes.is_key g.row.PREFIX_LEN c.self.inside.arena c.self.inside.root c.self.invariant (λ k. range_contains bytes_cmp start end k) (between_convex start end) c.ends_between-ends.result answer in
    (omega arith, (omega arith, (_, walk.run)))

pub returns-clause-rest : goal.returns-clause-rest
returns-clause-rest g c =
    let start = bound_map (λ key. key.now) c.args.start in
    let end = bound_map (λ key. key.now) c.args.end in
    let answer = rw (← c.self.view_is) at c.ends_between-ends.ensures in
    let walk =
    walk-by-leaves g.K.AsBytes.bytes g.K.AsBytes.is_key g.row.PREFIX_LEN c.self.inside.arena c.self.inside.root c.self.invariant (λ k. range_contains bytes_cmp start end k) (between_convex start end) c.ends_between-ends.result answer in
    rw (← c.self.view_is) (c.new.ensures _ walk.run ∙ walk.pairs_are)

pub returns-clause-ordered : goal.returns-clause-ordered
returns-clause-ordered g c = rw (← c.self.view_is) (ascending-map g.K.AsBytes.bytes g.K.AsBytes.is_key g.row.PREFIX_LEN c.self.inside.arena c.self.inside.root c.self.invariant)
