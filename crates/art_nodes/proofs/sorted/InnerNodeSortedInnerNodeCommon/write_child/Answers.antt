use Rattle.std.proofs.Common.{◌≡◌, ◌+◌, take, length, slice_set, refl, arith, ◌∙◌}
use Rattle.std.specs.List.{insert, zip, refill}
use Rattle.art_nodes.proofs.Terms.{with_child, StandsAt, BelongsAt, in_use}
use Rattle.std.proofs.lemmas.List.{length-set}
use Rattle.art_nodes.proofs.RowLemmas.{refilled, pushed_in}
use Rattle.art_nodes.proofs.SortedLemmas.{BecomesRows, sorted_node, replaced, added, room_there, place_there, counts_up, rows_of}
use Rattle.art_nodes.proofs.sorted.InnerNodeSortedInnerNodeCommon.write_child.Goals as goal

-- the names with another in its place
over : (g : _) (c : goal.After-self-1 g) → BecomesRows g.row.SIZE c.self.inside.header c.self.inside.keys (refill (length c.self.inside.names.items) c.self.inside.names.items (slice_set c.as_mut_slice.result.now c.in-Ok.at c.args.name))
    (sorted_node c.self.inside.header (in_use c.self.inside.header c.self.inside.keys) c.self.inside.names.items)
    (with_child (zip (in_use c.self.inside.header c.self.inside.keys) c.self.inside.names.items) c.args.byte c.args.name)
over g c =
    let i = c.self.inside in
    let keys = in_use i.header i.keys in
    let names = i.names.items in
    let stands : StandsAt keys c.args.byte c.in-Ok.at = rw c.num_children-used.ensures.value at c.in-Ok.ensures in
    rw (c.as_mut_slice.ensures.value, refilled names (slice_set names c.in-Ok.at c.args.name) (length-set names c.in-Ok.at c.args.name))
    (rows_of g.row.SIZE i.header i.keys (slice_set names c.in-Ok.at c.args.name) _ _ refl c.self.invariant.keys_fill
    (replaced g.row.SIZE i.header keys names c.args.byte c.in-Ok.at c.self.invariant.side c.args.name stands))

pub invariant_of-self : goal.invariant_of-self
invariant_of-self g c = (over g c).held

pub returns-in-Ok : goal.returns-in-Ok
returns-in-Ok g c = rw (← c.self.view_is) ((over g c).view)

pub put_in-requires : goal.put_in-requires
put_in-requires g c =
    let i = c.self.inside in
    let keys = in_use i.header i.keys in
    let names = i.names.items in
    let side = c.self.invariant.side in
    let used = c.num_children-used.ensures.value in
    let belongs : BelongsAt keys c.args.byte c.in-Err.at = rw used at c.in-Err.ensures in
    let within = place_there g.row.SIZE i.header keys names c.args.byte c.in-Err.at side belongs in
    let room = room_there g.row.SIZE i.header keys names c.args.byte c.in-Err.at side belongs (rw (← c.self.view_is) at c.requires) in
    (omega (arith, within, side.counts, used), omega (arith, room, side.counts, used, c.self.invariant.keys_fill))

pub push-requires : goal.push-requires
push-requires g c =
    let i = c.self.inside in
    let keys = in_use i.header i.keys in
    let names = i.names.items in
    let side = c.self.invariant.side in
    let belongs : BelongsAt keys c.args.byte c.in-Err.at = rw c.num_children-used.ensures.value at c.in-Err.ensures in
    let room = room_there g.row.SIZE i.header keys names c.args.byte c.in-Err.at side belongs (rw (← c.self.view_is) at c.requires) in
    (omega arith, omega (arith, room, side.same_length))

pub put_in-requires-in-Err : goal.put_in-requires-in-Err
put_in-requires-in-Err g c =
    let i = c.self.inside in
    let keys = in_use i.header i.keys in
    let names = i.names.items in
    let side = c.self.invariant.side in
    let used : c.num_children-used.result ≡ length names = c.num_children-used.ensures.value ∙ side.counts ∙ side.same_length in
    let belongs : BelongsAt keys c.args.byte c.in-Err.at = rw c.num_children-used.ensures.value at c.in-Err.ensures in
    let within = place_there g.row.SIZE i.header keys names c.args.byte c.in-Err.at side belongs in
    let longer : length c.push.new.self.items ≡ length names + 1 = c.push.ensures.len in
    rw c.as_mut_slice-in-Err.ensures.value (omega (arith, within, side.same_length, used), omega (arith, longer, used))

pub inc_num_children-requires : goal.inc_num_children-requires
inc_num_children-requires g c =
    let i = c.self.inside in
    let keys = in_use i.header i.keys in
    let names = i.names.items in
    let side = c.self.invariant.side in
    let belongs : BelongsAt keys c.args.byte c.in-Err.at = rw c.num_children-used.ensures.value at c.in-Err.ensures in
    let within = place_there g.row.SIZE i.header keys names c.args.byte c.in-Err.at side belongs in
    let room = room_there g.row.SIZE i.header keys names c.args.byte c.in-Err.at side belongs (rw (← c.self.view_is) at c.requires) in
    (omega arith, counts_up g.row.SIZE i.header keys names c.args.byte c.in-Err.at side c.args.name belongs within c.ranges.byte.fits room)

-- the bytes and the names with one child more
more : (g : _) (c : goal.After-inc_num_children g) → BecomesRows g.row.SIZE (record c.self.inside.header { num_children = c.self.inside.header.num_children + 1 }) c.put_in.new.row (refill (length c.push.new.self.items) c.push.new.self.items c.put_in-in-Err.new.row)
    (sorted_node c.self.inside.header (in_use c.self.inside.header c.self.inside.keys) c.self.inside.names.items)
    (with_child (zip (in_use c.self.inside.header c.self.inside.keys) c.self.inside.names.items) c.args.byte c.args.name)
more g c =
    let i = c.self.inside in
    let keys = in_use i.header i.keys in
    let names = i.names.items in
    let side = c.self.invariant.side in
    let used : c.num_children-used.result ≡ length names = c.num_children-used.ensures.value ∙ side.counts ∙ side.same_length in
    let belongs : BelongsAt keys c.args.byte c.in-Err.at = rw c.num_children-used.ensures.value at c.in-Err.ensures in
    let within = place_there g.row.SIZE i.header keys names c.args.byte c.in-Err.at side belongs in
    let room = room_there g.row.SIZE i.header keys names c.args.byte c.in-Err.at side belongs (rw (← c.self.view_is) at c.requires) in
    let longer : take (i.header.num_children + 1) c.put_in.new.row ≡ insert keys c.in-Err.at c.args.byte = rw c.num_children-used.ensures.value at c.put_in.ensures.items in
    let moved = rw (c.as_mut_slice-in-Err.ensures.value, c.push.ensures.items, used) at c.put_in-in-Err.ensures.items in
    let long = rw (c.as_mut_slice-in-Err.ensures.value, c.push.ensures.items) at c.put_in-in-Err.ensures.len in
    rw (c.push.ensures.items, pushed_in names c.put_in-in-Err.new.row c.args.name c.in-Err.at moved long)
    (rows_of g.row.SIZE (record i.header { num_children = i.header.num_children + 1 }) c.put_in.new.row (insert names c.in-Err.at c.args.name) _ _ longer
    (c.put_in.ensures.len ∙ c.self.invariant.keys_fill)
    (added g.row.SIZE i.header keys names c.args.byte c.in-Err.at side c.args.name belongs within c.ranges.byte.fits room))

pub invariant_of-self-in-Err : goal.invariant_of-self-in-Err
invariant_of-self-in-Err g c = rw c.inc_num_children.ensures ((more g c).held)

pub returns-in-Err : goal.returns-in-Err
returns-in-Err g c = rw (← c.self.view_is, c.inc_num_children.ensures) ((more g c).view)
