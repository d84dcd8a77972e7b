use Rattle.std.specs.List.{AllByRecursion}
use Rattle.art_engine.proofs.Terms.{IsShortNumberPair}
use Rattle.art_engine.proofs.HeldMaps.{IsNumberRecord}
use Rattle.art_engine.proofs.records.maps.are_numbered.Given as goal

-- what holds of the pairs that are left holds of all, as far as those before them were looked at
abbrev pub invariant-loop-key : goal.invariant-loop-key
invariant-loop-key g l = record {
  all : AllByRecursion IsShortNumberPair l.key-iterator → AllByRecursion IsShortNumberPair l.map.pairs;
  back : AllByRecursion IsShortNumberPair l.map.pairs → AllByRecursion IsShortNumberPair l.key-iterator;
  good : AllByRecursion IsNumberRecord l.key-iterator → AllByRecursion IsNumberRecord l.map.pairs;
}
