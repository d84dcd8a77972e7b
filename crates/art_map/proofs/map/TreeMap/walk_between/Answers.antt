use Rattle.std.proofs.Common.{arith}
use Rattle.std.specs.BTreeMap.Range.{range_contains}
use Rattle.std.specs.Range.Bound.{bound_map}
use Rattle.art_bytes.proofs.Common.{bytes_cmp}
use Rattle.art_operations.proofs.Common.{between_convex}
use Rattle.art_map.proofs.Ranges.{top-tree, run-nowhere, run-where, walk-nowhere, walk-where}
use Rattle.art_map.proofs.map.TreeMap.walk_between.Goals as goal

pub find_range_segment-requires : goal.find_range_segment-requires
find_range_segment-requires g c =
    (omega arith, top-tree g.K.AsBytes.bytes g.K.AsBytes.is_key g.row.PREFIX_LEN c.self.inside.arena c.self.inside.root c.in-Some.root c.in-Some.is c.self.invariant)

pub returns-in-Some-clause-walk : goal.returns-in-Some-clause-walk
returns-in-Some-clause-walk g c =
    let start = bound_map (λ key. key.now) c.args.start in
    let end = bound_map (λ key. key.now) c.args.end in
    rw (← c.self.view_is, c.walk_of.ensures)
    (walk-where g.K.AsBytes.bytes g.K.AsBytes.is_key g.row.PREFIX_LEN c.self.inside.arena c.self.inside.root c.in-Some.root c.in-Some.is c.self.invariant
    (λ k. range_contains bytes_cmp start end k) (between_convex start end) c.find_range_segment.result c.find_range_segment.ensures)

pub returns-in-None-clause-walk : goal.returns-in-None-clause-walk
returns-in-None-clause-walk g c =
    rw (← c.self.view_is, c.empty.ensures)
    (walk-nowhere g.K.AsBytes.bytes g.K.AsBytes.is_key g.row.PREFIX_LEN c.self.inside.arena c.self.inside.root _ c.in-None.is c.self.invariant)

pub returns-in-Some-clause-run : goal.returns-in-Some-clause-run
returns-in-Some-clause-run g c =
    let start = bound_map (λ key. key.now) c.args.start in
    let end = bound_map (λ key. key.now) c.args.end in
    rw (← c.self.view_is, c.walk_of.ensures)
    (run-where g.K.AsBytes.bytes g.K.AsBytes.is_key g.row.PREFIX_LEN c.self.inside.arena c.self.inside.root c.in-Some.root c.in-Some.is c.self.invariant
    (λ k. range_contains bytes_cmp start end k) (between_convex start end) c.find_range_segment.result c.find_range_segment.ensures)

pub returns-in-None-clause-run : goal.returns-in-None-clause-run
returns-in-None-clause-run g c =
    rw (← c.self.view_is, c.empty.ensures) (run-nowhere g.K.AsBytes.bytes g.K.AsBytes.is_key g.row.PREFIX_LEN c.self.inside.arena c.self.inside.root c.in-None.is c.self.invariant)
