use Rattle.std.proofs.Common.{◌≡◌, List, length}
use Rattle.std.specs.Map.{keys_of}
use Rattle.art_map.proofs.Common.{HasGathered}
use Rattle.art_set.proofs.MergeOrder.{HasClonesOfSome}
use Rattle.art_set.proofs.Terms.{merging}
use Rattle.art_set.proofs.operators.collected.Given as goal

-- where a clone of a key has its bytes, the map in the making has clones of the keys that came
abbrev pub invariant-loop-key : goal.invariant-loop-key
invariant-loop-key g l =
    (pairs : List (g.row.K.Denot × Unit {0})) × HasGathered g.K.AsBytes.bytes g.K.AsBytes.is_key l.builder pairs
    × (((k c : g.row.K.Denot) → g.K.Clone.is_clone k c → g.K.AsBytes.bytes c ≡ g.K.AsBytes.bytes k)
    → HasClonesOfSome g.K.AsBytes.bytes g.K.AsBytes.is_key g.K.Clone.is_clone (g.W.Kind.keys l.fn.first.keys l.fn.second.keys) (merging g.K.AsBytes.bytes l.wanted l.sides) (keys_of pairs))

abbrev pub decreases-loop-key : goal.decreases-loop-key
decreases-loop-key g l = length (merging g.K.AsBytes.bytes l.wanted l.sides)
