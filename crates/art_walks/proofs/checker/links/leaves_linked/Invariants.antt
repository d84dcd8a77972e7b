use Rattle.std.proofs.Common.{None, drop}
use Rattle.art_arena.proofs.Common.{links_at}
use Rattle.art_walks.proofs.Terms.{AreLinkedSlots, leaf_slots}
use Rattle.art_walks.proofs.LinkWalks.{IsLinkedFrom}
use Rattle.art_walks.proofs.checker.links.leaves_linked.Given as goal

abbrev pub invariant-loop-name : goal.invariant-loop-name
invariant-loop-name g l =
    (IsLinkedFrom (links_at l.arena) l.last (leaf_slots (drop l.name-index l.names)) → AreLinkedSlots (links_at l.arena) None (leaf_slots l.names) None)
    × (AreLinkedSlots (links_at l.arena) None (leaf_slots l.names) None → IsLinkedFrom (links_at l.arena) l.last (leaf_slots (drop l.name-index l.names)))
