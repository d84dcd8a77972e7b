use Rattle.std.proofs.Common.{arith}
use Rattle.art_arena.proofs.Common.{begins_with}
use Rattle.art_operations.proofs.Common.{front_convex}
use Rattle.art_map.proofs.Ranges.{top-stores, walk-nowhere, walk-where}
use Rattle.art_map.proofs.map.TreeMap.ends_with_prefix.Goals as goal

pub find_prefix_segment-requires : goal.find_prefix_segment-requires
find_prefix_segment-requires g c =
    (omega arith, top-stores g.K.AsBytes.bytes g.K.AsBytes.is_key g.row.PREFIX_LEN c.self.inside.arena c.self.inside.root c.in-Some.root c.in-Some.is c.self.invariant)

pub returns-in-Some : goal.returns-in-Some
returns-in-Some g c =
    rw (← c.self.view_is)
    (walk-where g.K.AsBytes.bytes g.K.AsBytes.is_key g.row.PREFIX_LEN c.self.inside.arena c.self.inside.root c.in-Some.root c.in-Some.is c.self.invariant
    (λ k. begins_with c.args.prefix.now k) (front_convex c.args.prefix.now) c.find_prefix_segment.result (λ s stores linked. c.find_prefix_segment.ensures s stores))

pub returns-in-None : goal.returns-in-None
returns-in-None g c =
    rw (← c.self.view_is)
    (walk-nowhere g.K.AsBytes.bytes g.K.AsBytes.is_key g.row.PREFIX_LEN c.self.inside.arena c.self.inside.root _ c.in-None.is c.self.invariant)
