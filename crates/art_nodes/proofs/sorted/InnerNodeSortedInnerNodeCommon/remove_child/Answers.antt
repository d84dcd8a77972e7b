use Rattle.std.proofs.Common.{◌<◌, ◌≡◌, ◌-◌, length, take, refl, arith, sym, ◌∙◌}
use Rattle.std.specs.List.{remove, zip}
use Rattle.std.proofs.lemmas.Option.{slice_get_read}
use Rattle.art_nodes.proofs.Terms.{without_child, StandsAt, BelongsAt, in_use}
use Rattle.art_nodes.proofs.RowLemmas.{taken_out}
use Rattle.art_nodes.proofs.SortedLemmas.{BecomesRows, found_here, found_nowhere, sorted_node, unchanged, removed, rows_of}
use Rattle.art_nodes.proofs.sorted.InnerNodeSortedInnerNodeCommon.remove_child.Goals as goal

pub returns-in-Err-clause-value : goal.returns-in-Err-clause-value
returns-in-Err-clause-value g c =
    let i = c.self.inside in
    let belongs : BelongsAt (in_use i.header i.keys) c.args.byte c.in-Err.field-0 = rw c.num_children-used.ensures.value at c.in-Err.ensures in
    rw (← c.self.view_is) (found_nowhere g.row.SIZE i.header (in_use i.header i.keys) i.names.items c.args.byte c.in-Err.field-0 c.self.invariant.side belongs)

pub returns-in-Err-clause-rest : goal.returns-in-Err-clause-rest
returns-in-Err-clause-rest g c =
    let i = c.self.inside in
    let belongs : BelongsAt (in_use i.header i.keys) c.args.byte c.in-Err.field-0 = rw c.num_children-used.ensures.value at c.in-Err.ensures in
    rw (← c.self.view_is) (unchanged g.row.SIZE i.header (in_use i.header i.keys) i.names.items c.args.byte c.in-Err.field-0 c.self.invariant.side belongs)

-- the bytes and the names without the child
rows : (g : _) (c : goal.After-dec_num_children g) → BecomesRows g.row.SIZE (record c.self.inside.header { num_children = c.self.inside.header.num_children - 1 }) c.take_out.new.row c.truncate.new.self.items
    (sorted_node c.self.inside.header (in_use c.self.inside.header c.self.inside.keys) c.self.inside.names.items)
    (without_child (zip (in_use c.self.inside.header c.self.inside.keys) c.self.inside.names.items) c.args.byte)
rows g c =
    let i = c.self.inside in
    let keys = in_use i.header i.keys in
    let names = i.names.items in
    let side = c.self.invariant.side in
    let used : c.num_children-used.result ≡ length names = c.num_children-used.ensures.value ∙ side.counts ∙ side.same_length in
    let stands : StandsAt keys c.args.byte c.in-Ok.at = rw c.num_children-used.ensures.value at c.in-Ok.ensures in
    let fewer : take (i.header.num_children - 1) c.take_out.new.row ≡ remove keys c.in-Ok.at = rw c.num_children-used.ensures.value at c.take_out.ensures.items in
    let moved = rw (c.as_mut_slice.ensures.value, used) at c.take_out-2.ensures.items in
    let long = rw c.as_mut_slice.ensures.value at c.take_out-2.ensures.len in
    rw (c.truncate.ensures.items, used, taken_out names c.take_out-2.new.row c.in-Ok.at moved long)
    (rows_of g.row.SIZE (record i.header { num_children = i.header.num_children - 1 }) c.take_out.new.row (remove names c.in-Ok.at) _ _ fewer
    (c.take_out.ensures.len ∙ c.self.invariant.keys_fill)
    (removed g.row.SIZE i.header keys names c.args.byte c.in-Ok.at side stands))

pub invariant_of-self : goal.invariant_of-self
invariant_of-self g c = rw c.dec_num_children.ensures ((rows g c).held)

pub returns-clause-value : goal.returns-clause-value
returns-clause-value g c =
    let i = c.self.inside in
    let keys = in_use i.header i.keys in
    let names = i.names.items in
    let side = c.self.invariant.side in
    let stands : StandsAt keys c.args.byte c.in-Ok.at = rw c.num_children-used.ensures.value at c.in-Ok.ensures in
    let within : c.in-Ok.at < length names = omega (arith, stands.within, side.same_length) in
    let read = slice_get_read names (length names) c.in-Ok.at c.index-as_slice-at.result refl within (rw c.as_slice.ensures.value at c.index-as_slice-at.is) in
    rw (← c.self.view_is) (sym read ∙ found_here g.row.SIZE i.header keys names c.args.byte c.in-Ok.at side stands)

pub returns-clause-rest : goal.returns-clause-rest
returns-clause-rest g c = rw (← c.self.view_is, c.dec_num_children.ensures) ((rows g c).view)
