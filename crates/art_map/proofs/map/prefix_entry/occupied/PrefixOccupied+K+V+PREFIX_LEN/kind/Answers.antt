use Rattle.std.proofs.Common.{sym}
use Rattle.art_map.proofs.PrefixEntries.{kind-stored}
use Rattle.art_map.proofs.map.prefix_entry.occupied.PrefixOccupied+K+V+PREFIX_LEN.kind.Goals as goal

pub returns-in-Stored-clause-kind : goal.returns-in-Stored-clause-kind
returns-in-Stored-clause-kind g c = sym (kind-stored c.args.self c.in-Stored.leaf c.in-Stored.is _)
