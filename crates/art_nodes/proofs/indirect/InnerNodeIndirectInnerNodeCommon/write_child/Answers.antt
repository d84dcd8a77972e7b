use Rattle.std.proofs.Common.{◌≡◌, ◌+◌, min, length, slice_set, arith}
use Rattle.std.specs.List.{zip, refill}
use Rattle.std.proofs.lemmas.List.{length-set}
use Rattle.art_nodes.proofs.Terms.{with_child, place}
use Rattle.art_nodes.proofs.RowLemmas.{refilled, pushed_in}
use Rattle.art_nodes.proofs.SortedLemmas.{Becomes, sorted_node, replaced, added, room_there, place_there}
use Rattle.art_nodes.proofs.indirect.InnerNodeIndirectInnerNodeCommon.write_child.Goals as goal

-- the names with another in its place
over : (g : _) (c : goal.After-self-1 g) → refill (length c.self.inside.names.items) c.self.inside.names.items (slice_set c.as_mut_slice.result.now c.in-Some.at c.args.name) ≡ slice_set c.self.inside.names.items c.in-Some.at c.args.name
over g c =
    let names = c.self.inside.names.items in
    rw c.as_mut_slice.ensures.value (refilled names (slice_set names c.in-Some.at c.args.name) (length-set names c.in-Some.at c.args.name))

pub invariant_of-self : goal.invariant_of-self
invariant_of-self g c =
    let i = c.self.inside in
    rw (over g c) ((replaced (min g.row.SIZE 255) i.header i.mask i.names.items c.args.byte c.in-Some.at c.self.invariant c.args.name c.in-Some.ensures).side)

pub returns-in-Some : goal.returns-in-Some
returns-in-Some g c =
    let i = c.self.inside in
    rw (← c.self.view_is, over g c) ((replaced (min g.row.SIZE 255) i.header i.mask i.names.items c.args.byte c.in-Some.at c.self.invariant c.args.name c.in-Some.ensures).view)

pub push-requires : goal.push-requires
push-requires g c =
    let i = c.self.inside in
    let room = room_there (min g.row.SIZE 255) i.header i.mask i.names.items c.args.byte (place i.mask c.args.byte) c.self.invariant c.in-None.ensures (rw (← c.self.view_is) at c.requires) in
    (omega arith, omega (arith, room, c.self.invariant.same_length))

pub put_in-requires : goal.put_in-requires
put_in-requires g c =
    let i = c.self.inside in
    let within = place_there (min g.row.SIZE 255) i.header i.mask i.names.items c.args.byte (place i.mask c.args.byte) c.self.invariant c.in-None.ensures in
    let at : c.place-at.result ≡ place i.mask c.args.byte = rw c.from.ensures at c.place-at.ensures in
    let longer : length c.push.new.self.items ≡ length i.names.items + 1 = c.push.ensures.len in
    rw c.as_mut_slice-in-None.ensures.value (omega (arith, within, at, c.len-used.ensures.value, c.self.invariant.same_length), omega (arith, longer, c.len-used.ensures.value))

-- the mask and the names with one child more
more : (g : _) (c : goal.After-inc_num_children g) → Becomes (min g.row.SIZE 255) (record c.self.inside.header { num_children = c.self.inside.header.num_children + 1 }) c.mark.new.self (refill (length c.push.new.self.items) c.push.new.self.items c.put_in.new.row)
    (sorted_node c.self.inside.header c.self.inside.mask c.self.inside.names.items) (with_child (zip c.self.inside.mask c.self.inside.names.items) c.args.byte c.args.name)
more g c =
    let i = c.self.inside in
    let belongs = c.in-None.ensures in
    let within = place_there (min g.row.SIZE 255) i.header i.mask i.names.items c.args.byte (place i.mask c.args.byte) c.self.invariant belongs in
    let room = room_there (min g.row.SIZE 255) i.header i.mask i.names.items c.args.byte (place i.mask c.args.byte) c.self.invariant belongs (rw (← c.self.view_is) at c.requires) in
    let moved = rw (c.as_mut_slice-in-None.ensures.value, c.push.ensures.items, c.len-used.ensures.value, c.place-at.ensures, c.from.ensures) at c.put_in.ensures.items in
    let long = rw (c.as_mut_slice-in-None.ensures.value, c.push.ensures.items) at c.put_in.ensures.len in
    rw (c.mark.ensures, c.push.ensures.items, pushed_in i.names.items c.put_in.new.row c.args.name (place i.mask c.args.byte) moved long)
    (added (min g.row.SIZE 255) i.header i.mask i.names.items c.args.byte (place i.mask c.args.byte) c.self.invariant c.args.name belongs within
    c.ranges.byte.fits room)

pub invariant_of-self-in-None : goal.invariant_of-self-in-None
invariant_of-self-in-None g c = rw c.inc_num_children.ensures ((more g c).side)

pub returns-in-None : goal.returns-in-None
returns-in-None g c = rw (← c.self.view_is, c.inc_num_children.ensures) ((more g c).view)
