use Rattle.std.proofs.Common.{◌≡◌, ◌+◌, length}
use Rattle.art_map.proofs.Joins.{from}
use Rattle.art_map.proofs.map.TreeMap.count_from.Given as goal

abbrev pub invariant-loop-from : goal.invariant-loop-from
invariant-loop-from g l = length l.from + l.count ≡ length (from g.K.AsBytes.bytes l.bytes l.self.pairs)

abbrev pub decreases-loop-from : goal.decreases-loop-from
decreases-loop-from g l = length l.from
