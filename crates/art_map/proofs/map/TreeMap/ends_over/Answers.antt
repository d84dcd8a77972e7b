use Rattle.std.proofs.Common.{Some, option_map, sym, arith}
use Rattle.art_arena.proofs.Common.{leaves}
use Rattle.art_operations.proofs.Common.{overlaps, tree_ascends}
use Rattle.art_map.proofs.Maps.{looked-up}
use Rattle.art_map.proofs.Overlapped.{first_of, lone_ends, many_ends, overlap_convex}
use Rattle.art_map.proofs.Ranges.{top-stores, walk-nowhere, walk-where}
use Rattle.art_map.proofs.map.TreeMap.ends_over.Goals as goal

pub find_prefix_segment-requires : goal.find_prefix_segment-requires
find_prefix_segment-requires g c =
    (omega arith, top-stores g.K.AsBytes.bytes g.K.AsBytes.is_key g.row.PREFIX_LEN c.self.inside.arena c.self.inside.root c.in-Some.root c.in-Some.is c.self.invariant)

pub returns-in-Some-prefix_search_unchecked-clause-walk : goal.returns-in-Some-prefix_search_unchecked-clause-walk
returns-in-Some-prefix_search_unchecked-clause-walk g c =
    rw (← c.self.view_is)
    (walk-where g.K.AsBytes.bytes g.K.AsBytes.is_key g.row.PREFIX_LEN c.self.inside.arena c.self.inside.root c.in-Some.root c.in-Some.is c.self.invariant
    (λ k. overlaps c.args.key.now k) (overlap_convex c.args.key.now) (Some (c.in-Some-prefix_search_unchecked.leaf, c.in-Some-prefix_search_unchecked.leaf))
    (λ s stores linked. lone_ends g.K.AsBytes.bytes c.args.key.now (leaves s) c.in-Some-prefix_search_unchecked.leaf (tree_ascends g.K.AsBytes.bytes g.row.PREFIX_LEN c.self.inside.arena c.in-Some.root s stores) (sym (c.in-Some-prefix_search_unchecked.ensures s stores))))

pub returns-in-Some-prefix_search_unchecked-clause-first : goal.returns-in-Some-prefix_search_unchecked-clause-first
returns-in-Some-prefix_search_unchecked-clause-first g c =
    rw (← c.self.view_is)
    (looked-up g.K.AsBytes.bytes g.K.AsBytes.is_key g.row.PREFIX_LEN c.self.inside.arena c.self.inside.root c.in-Some.root c.in-Some.is c.self.invariant
    (λ k. overlaps c.args.key.now k) (Some c.in-Some-prefix_search_unchecked.leaf)
    (λ s stores. sym (lone_ends g.K.AsBytes.bytes c.args.key.now (leaves s) c.in-Some-prefix_search_unchecked.leaf (tree_ascends g.K.AsBytes.bytes g.row.PREFIX_LEN c.self.inside.arena c.in-Some.root s stores) (sym (c.in-Some-prefix_search_unchecked.ensures s stores))).0))

pub returns-in-None-prefix_search_unchecked-clause-walk : goal.returns-in-None-prefix_search_unchecked-clause-walk
returns-in-None-prefix_search_unchecked-clause-walk g c =
    rw (← c.self.view_is)
    (walk-where g.K.AsBytes.bytes g.K.AsBytes.is_key g.row.PREFIX_LEN c.self.inside.arena c.self.inside.root c.in-Some.root c.in-Some.is c.self.invariant
    (λ k. overlaps c.args.key.now k) (overlap_convex c.args.key.now) c.find_prefix_segment.result
    (λ s stores linked. many_ends g.K.AsBytes.bytes c.args.key.now (leaves s) c.find_prefix_segment.result (sym (c.in-None-prefix_search_unchecked.ensures s stores)) (c.find_prefix_segment.ensures s stores)))

pub returns-in-None-prefix_search_unchecked-clause-first : goal.returns-in-None-prefix_search_unchecked-clause-first
returns-in-None-prefix_search_unchecked-clause-first g c =
    rw (← c.self.view_is)
    (looked-up g.K.AsBytes.bytes g.K.AsBytes.is_key g.row.PREFIX_LEN c.self.inside.arena c.self.inside.root c.in-Some.root c.in-Some.is c.self.invariant
    (λ k. overlaps c.args.key.now k) (option_map (λ ends. ends.0) c.find_prefix_segment.result)
    (λ s stores. first_of g.K.AsBytes.bytes (λ k. overlaps c.args.key.now k) (leaves s) c.find_prefix_segment.result
    (many_ends g.K.AsBytes.bytes c.args.key.now (leaves s) c.find_prefix_segment.result (sym (c.in-None-prefix_search_unchecked.ensures s stores)) (c.find_prefix_segment.ensures s stores))))

pub returns-in-None-clause-walk : goal.returns-in-None-clause-walk
returns-in-None-clause-walk g c =
    rw (← c.self.view_is) (walk-nowhere g.K.AsBytes.bytes g.K.AsBytes.is_key g.row.PREFIX_LEN c.self.inside.arena c.self.inside.root _ c.in-None.is c.self.invariant)
