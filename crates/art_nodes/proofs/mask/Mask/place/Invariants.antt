use Rattle.std.proofs.Common.{◌≡◌, ◌≤◌, ◌*◌, length}
use Rattle.art_nodes.specs.inner.Mask.{those_passing}
use Rattle.art_nodes.proofs.Terms.{is_marked}
use Rattle.art_nodes.proofs.mask.Mask.place.Given as goal

abbrev pub invariant-loop-at : goal.invariant-loop-at
invariant-loop-at l = (l.count ≡ length (those_passing (is_marked l.self-inside.words) 0 (64 * l.at))) × (l.count ≤ 64 * l.at)
