use Rattle.std.proofs.Common.{◌-◌, ◌≡◌, take}
use Rattle.art_arena.proofs.front.begins_with.Given as goal

abbrev pub invariant-words : goal.invariant-words
invariant-words l = take l.at l.front ≡ take l.at l.bytes

abbrev pub decreases-words : goal.decreases-words
decreases-words l = l.last - l.at
