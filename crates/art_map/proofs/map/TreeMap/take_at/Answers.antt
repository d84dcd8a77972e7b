use Rattle.std.proofs.Common.{sym, arith, refl}
use Rattle.art_operations.proofs.Common.{same-names}
use Rattle.art_map.proofs.Maps.{same-map, same-pairs, taken-map, taken-pairs}
use Rattle.art_map.proofs.MapLeaves.{among-tree, has-root, same-leaves, shrinks-leaf, taken-held, taken-leaf, taken-leaves}
use Rattle.art_map.proofs.LeafNames.{names-between}
use Rattle.art_map.proofs.map.TreeMap.take_at.Goals as goal

pub take_leaf-requires : goal.take_leaf-requires
take_leaf-requires g c =
    (omega arith, among-tree g.K.AsBytes.bytes g.row.PREFIX_LEN g.K.AsBytes.is_key c.self.inside.arena c.self.inside.root c.self.invariant c.args.leaf (rw (← c.self.view_is) at c.requires) c.in-Some.root c.in-Some.is)

pub unreachable-requires : goal.unreachable-requires
unreachable-requires g c =
    has-root g.K.AsBytes.bytes g.row.PREFIX_LEN g.K.AsBytes.is_key c.self.inside.arena c.self.inside.root c.self.invariant c.args.leaf (rw (← c.self.view_is) at c.requires) c.in-None.is

pub invariant_of-self : goal.invariant_of-self
invariant_of-self g c =
    taken-map g.K.AsBytes.bytes g.K.AsBytes.is_key g.row.PREFIX_LEN c.self.inside.arena c.self.inside.root c.self.invariant c.take_leaf.new.arena (g.K.AsBytes.bytes c.in-Ok.deleted.deleted_leaf.key) c.in-Ok.deleted
    (taken-leaf g.K.AsBytes.bytes g.row.PREFIX_LEN g.K.AsBytes.is_key c.self.inside.arena c.self.inside.root c.self.invariant c.args.leaf (rw (← c.self.view_is) at c.requires) c.in-Some.root c.in-Some.is c.take_leaf.new.arena c.in-Ok.deleted c.in-Ok.ensures.ok)

pub invariant_of-self-in-Err : goal.invariant_of-self-in-Err
invariant_of-self-in-Err g c = same-map g.K.AsBytes.bytes g.K.AsBytes.is_key g.row.PREFIX_LEN c.self.inside.arena c.self.inside.root c.self.invariant c.take_leaf.new.arena c.in-Err.ensures.err

pub returns-in-Ok-clause-value : goal.returns-in-Ok-clause-value
returns-in-Ok-clause-value g c =
    rw (c.into_entry.ensures.key, c.into_entry.ensures.value, ← c.self.view_is)
    (taken-held g.K.AsBytes.bytes g.row.PREFIX_LEN g.K.AsBytes.is_key c.self.inside.arena c.self.inside.root c.self.invariant c.args.leaf (rw (← c.self.view_is) at c.requires) c.in-Some.root c.in-Some.is c.take_leaf.new.arena c.in-Ok.deleted c.in-Ok.ensures.ok)

pub returns-in-Ok-clause-pairs : goal.returns-in-Ok-clause-pairs
returns-in-Ok-clause-pairs g c =
    rw (c.into_entry.ensures.key, ← c.self.view_is)
    (taken-pairs g.K.AsBytes.bytes g.K.AsBytes.is_key g.row.PREFIX_LEN c.self.inside.arena c.self.inside.root c.self.invariant c.take_leaf.new.arena (g.K.AsBytes.bytes c.in-Ok.deleted.deleted_leaf.key) c.in-Ok.deleted
    (taken-leaf g.K.AsBytes.bytes g.row.PREFIX_LEN g.K.AsBytes.is_key c.self.inside.arena c.self.inside.root c.self.invariant c.args.leaf (rw (← c.self.view_is) at c.requires) c.in-Some.root c.in-Some.is c.take_leaf.new.arena c.in-Ok.deleted c.in-Ok.ensures.ok))

pub returns-in-Ok-clause-leaves : goal.returns-in-Ok-clause-leaves
returns-in-Ok-clause-leaves g c =
    rw (← c.self.view_is)
    (taken-leaves g.K.AsBytes.bytes g.row.PREFIX_LEN g.K.AsBytes.is_key c.self.inside.arena c.self.inside.root c.self.invariant c.args.leaf (rw (← c.self.view_is) at c.requires) c.in-Some.root c.in-Some.is c.take_leaf.new.arena c.in-Ok.deleted c.in-Ok.ensures.ok)

pub returns-in-Err-clause-err : goal.returns-in-Err-clause-err
returns-in-Err-clause-err g c =
    rw (← c.self.view_is) (same-pairs g.K.AsBytes.bytes g.K.AsBytes.is_key g.row.PREFIX_LEN c.self.inside.arena c.self.inside.root c.self.invariant c.take_leaf.new.arena c.in-Err.ensures.err)

pub returns-in-Err-clause-kept : goal.returns-in-Err-clause-kept
returns-in-Err-clause-kept g c = rw (← c.self.view_is) (same-leaves g.K.AsBytes.bytes g.row.PREFIX_LEN c.self.inside.arena c.take_leaf.new.arena c.in-Err.ensures.err c.self.inside.root)

pub returns-in-Err-clause-shrinks : goal.returns-in-Err-clause-shrinks
returns-in-Err-clause-shrinks g c =
    rw (← c.self.view_is)
    (shrinks-leaf g.K.AsBytes.bytes g.row.PREFIX_LEN g.K.AsBytes.is_key c.self.inside.arena c.self.inside.root c.self.invariant c.args.leaf (rw (← c.self.view_is) at c.requires) c.in-Some.root c.in-Some.is c.in-Err.ensures.shrinks)

pub returns-in-Err-clause-untouched : goal.returns-in-Err-clause-untouched
returns-in-Err-clause-untouched g c = rw (← c.self.view_is) (c.in-Err.ensures.err, refl, c.in-Err.ensures.kept_room)

pub returns-in-Ok-clause-none_new : goal.returns-in-Ok-clause-none_new
returns-in-Ok-clause-none_new g c = rw (← c.self.view_is) c.in-Ok.ensures.names

pub returns-in-Ok-clause-names : goal.returns-in-Ok-clause-names
returns-in-Ok-clause-names g c =
    rw (← c.self.view_is) (names-between g.K.AsBytes.bytes g.row.PREFIX_LEN g.K.AsBytes.is_key c.self.inside.arena c.take_leaf.new.arena c.self.inside.root c.in-Ok.deleted.new_root c.self.invariant (invariant_of-self g c) c.in-Ok.ensures.names)

pub returns-in-Err-clause-none_new : goal.returns-in-Err-clause-none_new
returns-in-Err-clause-none_new g c = rw (← c.self.view_is) (same-names g.K.AsBytes.bytes c.take_leaf.new.arena c.self.inside.arena (λ n. sym (c.in-Err.ensures.err n)))

pub returns-in-Ok-clause-room : goal.returns-in-Ok-clause-room
returns-in-Ok-clause-room g c = rw (← c.self.view_is) c.take_leaf.ensures.room

pub returns-in-Ok-clause-leaf_room : goal.returns-in-Ok-clause-leaf_room
returns-in-Ok-clause-leaf_room g c = rw (← c.self.view_is) c.in-Ok.ensures.leaf_room
