use Rattle.std.proofs.Common.{◌≡◌, ◌≤◌, take}
use Rattle.art_walks.proofs.Terms.{count_kind}
use Rattle.art_walks.proofs.checker.counts.count_of.Given as goal

abbrev pub invariant-loop-name : goal.invariant-loop-name
invariant-loop-name l = (l.count ≡ count_kind l.kind (take l.name-index l.names)) × (l.count ≤ l.name-index)
