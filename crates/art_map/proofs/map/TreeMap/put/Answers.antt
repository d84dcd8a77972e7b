use Rattle.std.proofs.Common.{[], length, ◌-◌, ◌∙◌, sym, subst}
use Rattle.art_map.proofs.Maps.{ascending-map, put-map, put-pairs, put-entry, same-map, same-pairs}
use Rattle.art_map.proofs.RoomUsed.{kept-used, put-used, swap-uses}
use Rattle.art_map.proofs.Terms.{pairs_from}
use Rattle.art_map.specs.Room.{UsesLeafRoom}
use Rattle.art_map.proofs.map.TreeMap.put.Goals as goal

pub invariant_of-self : goal.invariant_of-self
invariant_of-self g c =
    put-map g.K.AsBytes.bytes g.K.AsBytes.is_key g.row.PREFIX_LEN c.self.inside.arena c.self.inside.root c.self.invariant c.insert_pair.new.arena c.args.key c.args.value c.in-Ok.put c.as_bytes-key_bytes.ensures.key
    (c.in-Ok.ensures.ok _ [] c.self.invariant.has)

pub invariant_of-self-in-Err : goal.invariant_of-self-in-Err
invariant_of-self-in-Err g c = same-map g.K.AsBytes.bytes g.K.AsBytes.is_key g.row.PREFIX_LEN c.self.inside.arena c.self.inside.root c.self.invariant c.insert_pair.new.arena c.in-Err.ensures.err

pub returns-in-Ok-clause-old : goal.returns-in-Ok-clause-old
returns-in-Ok-clause-old g c =
    rw (← c.self.view_is)
    (c.entry_of.ensures
    ∙ put-entry g.K.AsBytes.bytes g.K.AsBytes.is_key g.row.PREFIX_LEN c.self.inside.arena c.self.inside.root c.self.invariant c.insert_pair.new.arena c.args.key c.args.value c.in-Ok.put (c.in-Ok.ensures.ok _ [] c.self.invariant.has))

pub returns-in-Ok-clause-pairs : goal.returns-in-Ok-clause-pairs
returns-in-Ok-clause-pairs g c =
    rw (← c.self.view_is)
    (put-pairs g.K.AsBytes.bytes g.K.AsBytes.is_key g.row.PREFIX_LEN c.self.inside.arena c.self.inside.root c.self.invariant c.insert_pair.new.arena c.args.key c.args.value c.in-Ok.put (c.in-Ok.ensures.ok _ [] c.self.invariant.has))

pub returns-in-Ok-clause-free : goal.returns-in-Ok-clause-free
returns-in-Ok-clause-free g c = rw (← c.self.view_is) (c.in-Ok.ensures.free _ [] c.self.invariant.has)

pub returns-in-Err-clause-stored : goal.returns-in-Err-clause-stored
returns-in-Err-clause-stored g c = rw (← c.self.view_is) (c.in-Err.ensures.stored _ [] c.self.invariant.has)

pub returns-in-Err-clause-err : goal.returns-in-Err-clause-err
returns-in-Err-clause-err g c =
    rw (← c.self.view_is) (same-pairs g.K.AsBytes.bytes g.K.AsBytes.is_key g.row.PREFIX_LEN c.self.inside.arena c.self.inside.root c.self.invariant c.insert_pair.new.arena c.in-Err.ensures.err)

pub returns-in-Err-clause-refused : goal.returns-in-Err-clause-refused
returns-in-Err-clause-refused g c = rw (← c.self.view_is) (c.in-Err.ensures.refused _ [] c.self.invariant.has)

pub returns-in-Ok-clause-keys : goal.returns-in-Ok-clause-keys
returns-in-Ok-clause-keys g c = rw (← c.self.view_is) c.self.invariant.keys

pub returns-in-Err-clause-keys : goal.returns-in-Err-clause-keys
returns-in-Err-clause-keys g c = rw (← c.self.view_is) c.self.invariant.keys

pub returns-in-Ok-clause-room : goal.returns-in-Ok-clause-room
returns-in-Ok-clause-room g c = rw (← c.self.view_is) c.insert_pair.ensures.room

pub returns-in-Err-clause-room : goal.returns-in-Err-clause-room
returns-in-Err-clause-room g c = rw (← c.self.view_is) c.insert_pair.ensures.room

pub returns-in-Ok-clause-names : goal.returns-in-Ok-clause-names
returns-in-Ok-clause-names g c = rw (← c.self.view_is) c.in-Ok.ensures.names

pub returns-in-Ok-clause-stored_room : goal.returns-in-Ok-clause-stored_room
returns-in-Ok-clause-stored_room g c = rw (← c.self.view_is) (c.insert_pair.ensures.stored_room _ [] c.self.invariant.has)

pub returns-in-Err-clause-stored_room : goal.returns-in-Err-clause-stored_room
returns-in-Err-clause-stored_room g c = rw (← c.self.view_is) (c.insert_pair.ensures.stored_room _ [] c.self.invariant.has)

pub returns-in-Ok-clause-leaf_room : goal.returns-in-Ok-clause-leaf_room
returns-in-Ok-clause-leaf_room g c =
    let bytes = g.K.AsBytes.bytes in
    let arena = c.self.inside.arena in
    let had = pairs_from arena c.self.inside.root in
    let is = put-pairs bytes g.K.AsBytes.is_key g.row.PREFIX_LEN arena c.self.inside.root c.self.invariant c.insert_pair.new.arena c.args.key c.args.value c.in-Ok.put (c.in-Ok.ensures.ok _ [] c.self.invariant.has) in
    let up = ascending-map bytes g.K.AsBytes.is_key g.row.PREFIX_LEN arena c.self.inside.root c.self.invariant in
    rw (← c.self.view_is)
    (subst (λ ps. UsesLeafRoom (length ps - length had) arena c.insert_pair.new.arena) (sym is)
    (put-used bytes c.args.key c.args.value had arena c.insert_pair.new.arena up (c.insert_pair.ensures.stored_room _ [] c.self.invariant.has) (swap-uses arena c.insert_pair.new.arena _ c.in-Ok.ensures.leaf_room)).room)

pub returns-in-Err-clause-leaf_room : goal.returns-in-Err-clause-leaf_room
returns-in-Err-clause-leaf_room g c = rw (← c.self.view_is) (kept-used c.self.inside.arena c.insert_pair.new.arena _ c.in-Err.ensures.kept_room)

pub returns-in-Ok-clause-one_leaf : goal.returns-in-Ok-clause-one_leaf
returns-in-Ok-clause-one_leaf g c = rw (← c.self.view_is) (swap-uses c.self.inside.arena c.insert_pair.new.arena _ c.in-Ok.ensures.leaf_room)

pub returns-in-Err-clause-one_leaf : goal.returns-in-Err-clause-one_leaf
returns-in-Err-clause-one_leaf g c = rw (← c.self.view_is) (kept-used c.self.inside.arena c.insert_pair.new.arena 1 c.in-Err.ensures.kept_room)
