use Rattle.std.proofs.Common.{sym, IsTrue, bytes_eq, ◌≡◌, ◌↔◌, Bool, true, false, List, ℕ}
use Rattle.art_bytes.proofs.Common.{BeginsWith}
use Rattle.art_operations.proofs.Lookups.{told-key, told-prefix}
use Rattle.art_operations.proofs.lookup.takes_leaf.Goals as goal

pub returns-then-of_prefixes : goal.returns-then-of_prefixes
returns-then-of_prefixes g c = rw c.if-of_prefixes.true (told-prefix c.has_prefix_of.result c.args.query.now _ c.has_prefix_of.ensures)

pub returns : goal.returns
returns g c = rw c.if-of_prefixes.false (told-key c.has_key.result _ _ c.has_key.ensures)
