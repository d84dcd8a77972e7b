use Rattle.std.proofs.Common.{arith}
use Rattle.std.specs.Range.Bound.{bound_map}
use Rattle.art_map.proofs.LeafRuns.{found-at-bound, none-at-bound}
use Rattle.art_map.proofs.Ranges.{top-tree}
use Rattle.art_map.proofs.map.TreeMap.find_inside.Goals as goal

pub find_leaf_pointer_for_bound-requires : goal.find_leaf_pointer_for_bound-requires
find_leaf_pointer_for_bound-requires g c =
    (omega arith, top-tree g.K.AsBytes.bytes g.K.AsBytes.is_key g.row.PREFIX_LEN c.self.inside.arena c.self.inside.root c.in-Some.root c.in-Some.is c.self.invariant)

pub returns-in-Some : goal.returns-in-Some
returns-in-Some g c =
    rw (← c.self.view_is)
    (λ ls are. found-at-bound g.K.AsBytes.bytes c.self.inside.arena g.row.PREFIX_LEN c.self.inside.root c.in-Some.root c.in-Some.is c.find_leaf_pointer_for_bound.result c.args.is_start (bound_map (λ key. key.now) c.args.bound)
    c.find_leaf_pointer_for_bound.ensures ls are.has)

pub returns-in-None : goal.returns-in-None
returns-in-None g c =
    rw (← c.self.view_is)
    (λ ls are. none-at-bound g.K.AsBytes.bytes c.self.inside.arena g.row.PREFIX_LEN c.self.inside.root c.in-None.is c.args.is_start (bound_map (λ key. key.now) c.args.bound) ls are.has)
