use Rattle.std.proofs.Common.{◌<◌, ◌-◌, min, length, refl, sym, ◌∙◌, arith}
use Rattle.std.specs.List.{zip}
use Rattle.std.proofs.lemmas.Option.{slice_get_read}
use Rattle.art_nodes.proofs.Terms.{without_child, place}
use Rattle.art_nodes.proofs.RowLemmas.{taken_out}
use Rattle.art_nodes.proofs.SortedLemmas.{Becomes, sorted_node, found_here, found_nowhere, unchanged, removed}
use Rattle.art_nodes.proofs.indirect.InnerNodeIndirectInnerNodeCommon.remove_child.Goals as goal

pub returns-in-None-clause-value : goal.returns-in-None-clause-value
returns-in-None-clause-value g c =
    let i = c.self.inside in
    rw (← c.self.view_is) (found_nowhere (min g.row.SIZE 255) i.header i.mask i.names.items c.args.byte (place i.mask c.args.byte) c.self.invariant c.in-None.ensures)

pub returns-in-None-clause-rest : goal.returns-in-None-clause-rest
returns-in-None-clause-rest g c =
    let i = c.self.inside in
    rw (← c.self.view_is) (unchanged (min g.row.SIZE 255) i.header i.mask i.names.items c.args.byte (place i.mask c.args.byte) c.self.invariant c.in-None.ensures)

-- the mask and the names with one child less
less : (g : _) (c : goal.After-dec_num_children g) → Becomes (min g.row.SIZE 255) (record c.self.inside.header { num_children = c.self.inside.header.num_children - 1 }) c.unmark.new.self c.truncate.new.self.items
    (sorted_node c.self.inside.header c.self.inside.mask c.self.inside.names.items) (without_child (zip c.self.inside.mask c.self.inside.names.items) c.args.byte)
less g c =
    let i = c.self.inside in
    let stands = c.in-Some.ensures in
    let moved = rw (c.as_mut_slice.ensures.value, c.len-used.ensures.value) at c.take_out.ensures.items in
    let long = rw c.as_mut_slice.ensures.value at c.take_out.ensures.len in
    rw (c.unmark.ensures, ← stands.is_place, c.truncate.ensures.items, c.len-used.ensures.value, taken_out i.names.items c.take_out.new.row c.in-Some.at moved long) (removed (min g.row.SIZE 255) i.header i.mask i.names.items c.args.byte c.in-Some.at c.self.invariant stands)

pub invariant_of-self : goal.invariant_of-self
invariant_of-self g c = rw c.dec_num_children.ensures ((less g c).side)

pub returns-clause-value : goal.returns-clause-value
returns-clause-value g c =
    let i = c.self.inside in
    let side = c.self.invariant in
    let stands = c.in-Some.ensures in
    let within : c.in-Some.at < length i.names.items = omega (arith, stands.within, side.same_length) in
    let read = slice_get_read i.names.items (length i.names.items) c.in-Some.at c.index-as_slice-at.result refl within (rw c.as_slice.ensures.value at c.index-as_slice-at.is) in
    rw (← c.self.view_is) (sym read ∙ found_here (min g.row.SIZE 255) i.header i.mask i.names.items c.args.byte c.in-Some.at side stands)

pub returns-clause-rest : goal.returns-clause-rest
returns-clause-rest g c = rw (← c.self.view_is, c.dec_num_children.ensures) ((less g c).view)
