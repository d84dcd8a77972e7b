use Rattle.std.proofs.Common.{length, ◌-◌, ◌≡◌, ◌+◌, ◌≤◌, drop}
use Rattle.art_nodes.proofs.Terms.{agreeing}
use Rattle.art_nodes.proofs.prefix_match.count_agreeing.Given as goal

abbrev pub invariant-bytes : goal.invariant-bytes
invariant-bytes l = record {
  within : l.at ≤ length l.prefix;
  within_rest : l.at ≤ length l.rest;
  so_far : l.at + agreeing (drop l.at l.prefix) (drop l.at l.rest) ≡ agreeing l.prefix l.rest;
}

abbrev pub decreases-bytes : goal.decreases-bytes
decreases-bytes l = length l.prefix - l.at

abbrev pub invariant-words : goal.invariant-words
invariant-words l = record {
  within : l.at ≤ length l.prefix;
  within_rest : l.at ≤ length l.rest;
  so_far : l.at + agreeing (drop l.at l.prefix) (drop l.at l.rest) ≡ agreeing l.prefix l.rest;
}

abbrev pub decreases-words : goal.decreases-words
decreases-words l = length l.prefix - l.at

abbrev pub invariant-pages : goal.invariant-pages
invariant-pages l = record {
  within : l.at ≤ length l.prefix;
  within_rest : l.at ≤ length l.rest;
  so_far : l.at + agreeing (drop l.at l.prefix) (drop l.at l.rest) ≡ agreeing l.prefix l.rest;
}

abbrev pub decreases-pages : goal.decreases-pages
decreases-pages l = length l.prefix - l.at
