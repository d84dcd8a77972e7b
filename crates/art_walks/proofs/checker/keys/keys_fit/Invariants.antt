use Rattle.art_arena.proofs.Common.{node_at}
use Rattle.art_walks.proofs.KeyWalks.{RestsOn, nodes_waiting}
use Rattle.art_walks.proofs.checker.keys.keys_fit.Given as goal

abbrev pub invariant-loop-place : goal.invariant-loop-place
invariant-loop-place g l = RestsOn g.K.AsBytes.bytes g.row.PREFIX_LEN (node_at l.arena) l.fn.root l.waiting.items

abbrev pub decreases-loop-place : goal.decreases-loop-place
decreases-loop-place g l = nodes_waiting g.K.AsBytes.bytes g.row.PREFIX_LEN l.arena l.waiting.items
