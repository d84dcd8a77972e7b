use Rattle.std.specs.List.{AllByRecursion}
use Rattle.art_engine.proofs.Terms.{IsShortPair}
use Rattle.art_engine.proofs.HeldMaps.{IsRecord}
use Rattle.art_engine.proofs.records.maps.are_keyed.Given as goal

-- what holds of the pairs that are left holds of all, as far as those before them were looked at
abbrev pub invariant-loop-key : goal.invariant-loop-key
invariant-loop-key g l = record {
  all : AllByRecursion IsShortPair l.key-iterator → AllByRecursion IsShortPair l.map.pairs;
  back : AllByRecursion IsShortPair l.map.pairs → AllByRecursion IsShortPair l.key-iterator;
  good : AllByRecursion IsRecord l.key-iterator → AllByRecursion IsRecord l.map.pairs;
}
