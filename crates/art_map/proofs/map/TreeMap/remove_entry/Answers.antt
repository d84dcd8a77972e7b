use Rattle.std.proofs.Common.{[], sym, subst, ap₂, Some, None, ◌∙◌}
use Rattle.art_operations.proofs.Common.{HasTaken}
use Rattle.art_map.proofs.Maps.{taken-map, taken-pairs, taken-entry, none-map, none-pairs, none-entry, same-map, same-pairs}
use Rattle.art_map.proofs.Terms.{pairs_from}
use Rattle.art_map.proofs.LeafNames.{names-between}
use Rattle.art_map.proofs.map.TreeMap.remove_entry.Goals.{After-into_entry, In-Ok-None}
use Rattle.art_map.proofs.map.TreeMap.remove_entry.Goals as goal

-- what the arena has once the pair was taken, and where there was none
one-taken : (g : _) (c : After-into_entry g) → HasTaken g.K.AsBytes.bytes g.row.PREFIX_LEN c.take_pair.new.arena c.self.inside.root c.as_bytes.result.now (Some c.in-Ok-Some.deleted) (pairs_from c.self.inside.arena c.self.inside.root) []
one-taken g c =
    subst (λ taken. HasTaken g.K.AsBytes.bytes g.row.PREFIX_LEN c.take_pair.new.arena c.self.inside.root c.as_bytes.result.now taken (pairs_from c.self.inside.arena c.self.inside.root) [])
    c.in-Ok-Some.field-0-is (c.in-Ok-Some.ensures.ok _ [] c.self.invariant.has)

none-taken : (g : _) (c : In-Ok-None g) → HasTaken g.K.AsBytes.bytes g.row.PREFIX_LEN c.take_pair.new.arena c.self.inside.root c.as_bytes.result.now None (pairs_from c.self.inside.arena c.self.inside.root) []
none-taken g c =
    subst (λ taken. HasTaken g.K.AsBytes.bytes g.row.PREFIX_LEN c.take_pair.new.arena c.self.inside.root c.as_bytes.result.now taken (pairs_from c.self.inside.arena c.self.inside.root) [])
    c.in-Ok-None.field-0-is (c.in-Ok-None.ensures.ok _ [] c.self.invariant.has)

pub invariant_of-self : goal.invariant_of-self
invariant_of-self g c =
    taken-map g.K.AsBytes.bytes g.K.AsBytes.is_key g.row.PREFIX_LEN c.self.inside.arena c.self.inside.root c.self.invariant c.take_pair.new.arena c.as_bytes.result.now c.in-Ok-Some.deleted
    (one-taken g c)

pub invariant_of-self-in-Ok-None : goal.invariant_of-self-in-Ok-None
invariant_of-self-in-Ok-None g c =
    none-map g.K.AsBytes.bytes g.K.AsBytes.is_key g.row.PREFIX_LEN c.self.inside.arena c.self.inside.root c.self.invariant c.take_pair.new.arena c.as_bytes.result.now
    (none-taken g c)

pub invariant_of-self-in-Err : goal.invariant_of-self-in-Err
invariant_of-self-in-Err g c = same-map g.K.AsBytes.bytes g.K.AsBytes.is_key g.row.PREFIX_LEN c.self.inside.arena c.self.inside.root c.self.invariant c.take_pair.new.arena c.in-Err.ensures.err

pub returns-in-Ok-Some-clause-value : goal.returns-in-Ok-Some-clause-value
returns-in-Ok-Some-clause-value g c =
    rw (← c.as_bytes.ensures.value, ← c.self.view_is)
    (ap₂ (λ k v. Some (k, v)) c.into_entry.ensures.key c.into_entry.ensures.value
    ∙ sym (taken-entry g.K.AsBytes.bytes g.K.AsBytes.is_key g.row.PREFIX_LEN c.self.inside.arena c.self.inside.root c.self.invariant c.take_pair.new.arena c.as_bytes.result.now c.in-Ok-Some.deleted
    (one-taken g c)))

pub returns-in-Ok-Some-clause-pairs : goal.returns-in-Ok-Some-clause-pairs
returns-in-Ok-Some-clause-pairs g c =
    rw (← c.as_bytes.ensures.value, ← c.self.view_is)
    (taken-pairs g.K.AsBytes.bytes g.K.AsBytes.is_key g.row.PREFIX_LEN c.self.inside.arena c.self.inside.root c.self.invariant c.take_pair.new.arena c.as_bytes.result.now c.in-Ok-Some.deleted
    (one-taken g c))

pub returns-in-Ok-None-clause-value : goal.returns-in-Ok-None-clause-value
returns-in-Ok-None-clause-value g c =
    rw (← c.as_bytes.ensures.value, ← c.self.view_is)
    (sym (none-entry g.K.AsBytes.bytes g.K.AsBytes.is_key g.row.PREFIX_LEN c.self.inside.arena c.self.inside.root c.self.invariant c.take_pair.new.arena c.as_bytes.result.now
    (none-taken g c)))

pub returns-in-Ok-None-clause-pairs : goal.returns-in-Ok-None-clause-pairs
returns-in-Ok-None-clause-pairs g c =
    rw (← c.as_bytes.ensures.value, ← c.self.view_is)
    (none-pairs g.K.AsBytes.bytes g.K.AsBytes.is_key g.row.PREFIX_LEN c.self.inside.arena c.self.inside.root c.self.invariant c.take_pair.new.arena c.as_bytes.result.now
    (none-taken g c))

pub returns-in-Err-clause-err : goal.returns-in-Err-clause-err
returns-in-Err-clause-err g c =
    rw (← c.self.view_is) (same-pairs g.K.AsBytes.bytes g.K.AsBytes.is_key g.row.PREFIX_LEN c.self.inside.arena c.self.inside.root c.self.invariant c.take_pair.new.arena c.in-Err.ensures.err)

pub returns-in-Err-clause-shrinks : goal.returns-in-Err-clause-shrinks
returns-in-Err-clause-shrinks g c =
    rw (← c.as_bytes.ensures.value, ← c.self.view_is) (c.in-Err.ensures.shrinks _ [] c.self.invariant.has)

pub returns-in-Ok-Some-clause-names : goal.returns-in-Ok-Some-clause-names
returns-in-Ok-Some-clause-names g c =
    rw (← c.self.view_is) (names-between g.K.AsBytes.bytes g.row.PREFIX_LEN g.K.AsBytes.is_key c.self.inside.arena c.take_pair.new.arena c.self.inside.root c.in-Ok-Some.deleted.new_root c.self.invariant (invariant_of-self g c) c.in-Ok-Some.ensures.names)

pub returns-in-Ok-None-clause-names : goal.returns-in-Ok-None-clause-names
returns-in-Ok-None-clause-names g c =
    rw (← c.self.view_is) (names-between g.K.AsBytes.bytes g.row.PREFIX_LEN g.K.AsBytes.is_key c.self.inside.arena c.take_pair.new.arena c.self.inside.root c.self.inside.root c.self.invariant (invariant_of-self-in-Ok-None g c) c.in-Ok-None.ensures.names)

pub returns-in-Ok-Some-clause-room : goal.returns-in-Ok-Some-clause-room
returns-in-Ok-Some-clause-room g c = rw (← c.self.view_is) c.take_pair.ensures.room

pub returns-in-Ok-None-clause-room : goal.returns-in-Ok-None-clause-room
returns-in-Ok-None-clause-room g c = rw (← c.self.view_is) c.take_pair.ensures.room

pub returns-in-Ok-None-clause-none_room : goal.returns-in-Ok-None-clause-none_room
returns-in-Ok-None-clause-none_room g c = rw (← c.self.view_is) (rw c.in-Ok-None.field-0-is at c.in-Ok-None.ensures.none_room)

pub returns-in-Ok-Some-clause-leaf_room : goal.returns-in-Ok-Some-clause-leaf_room
returns-in-Ok-Some-clause-leaf_room g c = rw (← c.self.view_is) (rw c.in-Ok-Some.field-0-is at c.in-Ok-Some.ensures.leaf_room)
