use Rattle.std.proofs.Common.{◌≡◌, ◌≤◌, length, Option, Result}
use Rattle.std.specs.declared.alloc.AllocError.{AllocError}
use Rattle.std.specs.Fn.{CalledAt}
use Rattle.art_set.proofs.Terms.{AskingKeys, CanExtractKeys, ExtractsKey, asking_keys, extract_set}
use Rattle.art_set.proofs.iterators.extract_if.ExtractIfIterator.next.Given as goal

-- what a call does from here on is what it does
abbrev pub invariant-loop-key : goal.invariant-loop-key
invariant-loop-key g l = record {
  same : extract_set l.self ≡ extract_set l.initial.self;
  can : CanExtractKeys g.F.FnMut l.self;
  fewer : length (asking_keys l.self).left ≤ length (asking_keys l.initial.self).left;
  later : (r : Option (Result g.row.K.Denot AllocError)) (t : AskingKeys g.row.K.Denot g.row.F.Denot)
      → ExtractsKey (CalledAt g.F.FnMut) g.K.AsBytes.bytes (asking_keys l.self) r t
      → ExtractsKey (CalledAt g.F.FnMut) g.K.AsBytes.bytes (asking_keys l.initial.self) r t;
}

abbrev pub decreases-loop-key : goal.decreases-loop-key
decreases-loop-key g l = length (asking_keys l.self).left
