use Rattle.std.proofs.Common.{◌≡◌, ◌<◌, ◌≤◌, ◌*◌, ℕ, false}
use Rattle.art_nodes.proofs.Terms.{is_marked}
use Rattle.art_nodes.proofs.mask.Mask.lowest_from.Given as goal

abbrev pub invariant-loop-at : goal.invariant-loop-at
invariant-loop-at l = (k : ℕ) → l.from ≤ k → k < 64 * l.at → is_marked l.self-inside.words k ≡ false
