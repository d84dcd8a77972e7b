use Rattle.std.proofs.Common.{◌≡◌, ◌≤◌, length, Option, Result}
use Rattle.std.specs.Map.Calls.{CalledAtPair}
use Rattle.std.specs.declared.alloc.AllocError.{AllocError}
use Rattle.art_arena.proofs.Common.{KeepsRoomOf}
use Rattle.art_map.proofs.Terms.{Asking, CanExtractIf, Extracts, asking, extract_map, AddsNoLeaf}
use Rattle.art_map.proofs.map.extract_if.ExtractIf.extract.Given as goal

-- what a call does from here on is what it does
abbrev pub invariant-loop-end : goal.invariant-loop-end
invariant-loop-end g l = record {
  same_map : (extract_map l.self).ghost_name ≡ (extract_map l.initial.self).ghost_name;
  none_new : AddsNoLeaf g.K.AsBytes.bytes (extract_map l.initial.self).now (extract_map l.self).now;
  room : KeepsRoomOf (extract_map l.initial.self).now.nodes (extract_map l.self).now.nodes;
  can : CanExtractIf g.F.FnMut l.self;
  fewer : length (asking l.self).left ≤ length (asking l.initial.self).left;
  later : (r : Option (Result (g.row.K.Denot × g.row.V.Denot) AllocError)) (t : Asking g.row.K.Denot g.row.V.Denot g.row.F.Denot)
      → Extracts (CalledAtPair g.F.FnMut) g.K.AsBytes.bytes l.end (asking l.self) r t
      → Extracts (CalledAtPair g.F.FnMut) g.K.AsBytes.bytes l.end (asking l.initial.self) r t;
}

abbrev pub decreases-loop-end : goal.decreases-loop-end
decreases-loop-end g l = length (asking l.self).left
