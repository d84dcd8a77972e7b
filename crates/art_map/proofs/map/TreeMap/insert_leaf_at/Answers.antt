use Rattle.std.proofs.Common.{[], length, ◌-◌, ap, ◌∙◌, sym, subst}
use Rattle.art_map.proofs.Terms.{option_value, pairs_from}
use Rattle.art_map.proofs.Maps.{ascending-map, put-map, put-pairs, put-value, same-map, same-pairs}
use Rattle.art_map.proofs.RoomUsed.{kept-used, put-used, swap-uses}
use Rattle.art_map.specs.Room.{UsesLeafRoom}
use Rattle.art_map.proofs.map.TreeMap.insert_leaf_at.Goals as goal

pub invariant_of-self : goal.invariant_of-self
invariant_of-self g c =
    put-map g.K.AsBytes.bytes g.K.AsBytes.is_key g.row.PREFIX_LEN c.self.inside.arena c.self.inside.root c.self.invariant c.insert_at.new.arena c.args.key c.args.value c.in-Ok.put c.as_bytes-key_bytes.ensures.key
    (c.in-Ok.ensures.ok _ [] (rw (← c.self.view_is) at c.requires))

pub invariant_of-self-in-Err : goal.invariant_of-self-in-Err
invariant_of-self-in-Err g c = same-map g.K.AsBytes.bytes g.K.AsBytes.is_key g.row.PREFIX_LEN c.self.inside.arena c.self.inside.root c.self.invariant c.insert_at.new.arena c.in-Err.ensures.err

pub returns-in-Ok-clause-value : goal.returns-in-Ok-clause-value
returns-in-Ok-clause-value g c =
    rw (← c.self.view_is)
    (c.value_of.ensures ∙ ap option_value c.entry_of.ensures
    ∙ put-value g.K.AsBytes.bytes g.K.AsBytes.is_key g.row.PREFIX_LEN c.self.inside.arena c.self.inside.root c.self.invariant c.insert_at.new.arena c.args.key c.args.value c.in-Ok.put (c.in-Ok.ensures.ok _ [] (rw (← c.self.view_is) at c.requires)))

pub returns-in-Ok-clause-pairs : goal.returns-in-Ok-clause-pairs
returns-in-Ok-clause-pairs g c =
    rw (← c.self.view_is)
    (put-pairs g.K.AsBytes.bytes g.K.AsBytes.is_key g.row.PREFIX_LEN c.self.inside.arena c.self.inside.root c.self.invariant c.insert_at.new.arena c.args.key c.args.value c.in-Ok.put (c.in-Ok.ensures.ok _ [] (rw (← c.self.view_is) at c.requires)))

pub returns-in-Err-clause-err : goal.returns-in-Err-clause-err
returns-in-Err-clause-err g c =
    rw (← c.self.view_is) (same-pairs g.K.AsBytes.bytes g.K.AsBytes.is_key g.row.PREFIX_LEN c.self.inside.arena c.self.inside.root c.self.invariant c.insert_at.new.arena c.in-Err.ensures.err)

pub returns-in-Ok-clause-leaf : goal.returns-in-Ok-clause-leaf
returns-in-Ok-clause-leaf g c = (c.in-Ok.ensures.ok _ [] (rw (← c.self.view_is) at c.requires)).leaf

pub returns-in-Ok-clause-names : goal.returns-in-Ok-clause-names
returns-in-Ok-clause-names g c = rw (← c.self.view_is) c.in-Ok.ensures.names

pub returns-in-Ok-clause-room : goal.returns-in-Ok-clause-room
returns-in-Ok-clause-room g c = rw (← c.self.view_is) c.insert_at.ensures.room

pub returns-in-Err-clause-room : goal.returns-in-Err-clause-room
returns-in-Err-clause-room g c = rw (← c.self.view_is) c.insert_at.ensures.room

pub returns-in-Ok-clause-stored_room : goal.returns-in-Ok-clause-stored_room
returns-in-Ok-clause-stored_room g c = rw (← c.self.view_is) (c.insert_at.ensures.stored_room _ [] (rw (← c.self.view_is) at c.requires))

pub returns-in-Err-clause-stored_room : goal.returns-in-Err-clause-stored_room
returns-in-Err-clause-stored_room g c = rw (← c.self.view_is) (c.insert_at.ensures.stored_room _ [] (rw (← c.self.view_is) at c.requires))

pub returns-in-Ok-clause-leaf_room : goal.returns-in-Ok-clause-leaf_room
returns-in-Ok-clause-leaf_room g c =
    let bytes = g.K.AsBytes.bytes in
    let arena = c.self.inside.arena in
    let had = pairs_from arena c.self.inside.root in
    let can = rw (← c.self.view_is) at c.requires in
    let is = put-pairs bytes g.K.AsBytes.is_key g.row.PREFIX_LEN arena c.self.inside.root c.self.invariant c.insert_at.new.arena c.args.key c.args.value c.in-Ok.put (c.in-Ok.ensures.ok _ [] can) in
    let up = ascending-map bytes g.K.AsBytes.is_key g.row.PREFIX_LEN arena c.self.inside.root c.self.invariant in
    rw (← c.self.view_is)
    (subst (λ ps. UsesLeafRoom (length ps - length had) arena c.insert_at.new.arena) (sym is)
    (put-used bytes c.args.key c.args.value had arena c.insert_at.new.arena up (c.insert_at.ensures.stored_room _ [] can) (swap-uses arena c.insert_at.new.arena _ c.in-Ok.ensures.leaf_room)).room)

pub returns-in-Err-clause-leaf_room : goal.returns-in-Err-clause-leaf_room
returns-in-Err-clause-leaf_room g c = rw (← c.self.view_is) (kept-used c.self.inside.arena c.insert_at.new.arena _ c.in-Err.ensures.kept_room)

pub returns-in-Ok-clause-one_leaf : goal.returns-in-Ok-clause-one_leaf
returns-in-Ok-clause-one_leaf g c = rw (← c.self.view_is) (swap-uses c.self.inside.arena c.insert_at.new.arena _ c.in-Ok.ensures.leaf_room)

pub returns-in-Err-clause-one_leaf : goal.returns-in-Err-clause-one_leaf
returns-in-Err-clause-one_leaf g c = rw (← c.self.view_is) (kept-used c.self.inside.arena c.insert_at.new.arena 1 c.in-Err.ensures.kept_room)
