-- The invariant is what was taken out so far, as `TakenOut` has it.
use Rattle.std.proofs.Common.{◌≡◌, length}
use Rattle.art_arena.specs.arena.Arena.{UsesRoom}
use Rattle.art_map.specs.Extractions.{left_of, map_of}
use Rattle.art_c.proofs.Prefixes.{TakenOut}
use Rattle.art_c.proofs.calls.prefixes.take_first.Given as goal

abbrev pub invariant-loop-count : goal.invariant-loop-count
invariant-loop-count l =
    ((map_of l.pairs).ghost_name ≡ (map_of l.fn.pairs).ghost_name)
    × TakenOut l.fn.prefix (left_of l.fn.pairs) (map_of l.fn.pairs).now.pairs l.fn.words
    (left_of l.pairs) (map_of l.pairs).now.pairs l.words l.count
    × UsesRoom l.count (map_of l.fn.pairs).now.nodes (map_of l.pairs).now.nodes

abbrev pub decreases-loop-count : goal.decreases-loop-count
decreases-loop-count l = length (left_of l.pairs)
