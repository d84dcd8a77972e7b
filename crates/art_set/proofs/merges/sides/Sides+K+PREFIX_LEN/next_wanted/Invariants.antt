use Rattle.std.proofs.Common.{◌≡◌}
use Rattle.art_set.proofs.Terms.{keys_left, merging, IsCompared}
use Rattle.art_set.proofs.merges.sides.Sides+K+PREFIX_LEN.next_wanted.Given as goal

-- what was gone past is not wanted
abbrev pub invariant-loop-wanted : goal.invariant-loop-wanted
invariant-loop-wanted g l = record {
  same : merging g.K.AsBytes.bytes l.wanted l.self ≡ merging g.K.AsBytes.bytes l.wanted l.initial.self;
  compared : IsCompared g.K.AsBytes.bytes l.initial.self l.self;
}

abbrev pub decreases-loop-wanted : goal.decreases-loop-wanted
decreases-loop-wanted g l = keys_left l.self
