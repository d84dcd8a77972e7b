use Rattle.std.proofs.Common.{take, sym, ◌∙◌}
use Rattle.std.specs.List.{zip}
use Rattle.std.specs.Range.Bound.{start_index, end_index}
use Rattle.art_nodes.proofs.Terms.{in_use}
use Rattle.art_nodes.proofs.PlaceLemmas.{children_between-within, place-all, place-le, place-within, valid-forward, within-zip}
use Rattle.art_nodes.proofs.sorted.InnerNodeSortedInnerNodeCommon.range.Goals as goal

pub place_below-low-requires-clause-bytes : goal.place_below-low-requires-clause-bytes
place_below-low-requires-clause-bytes g c =
    let i = c.self.inside in
    let side = c.self.invariant.side in
    rw c.num_children-used.ensures.value (place-all 0 (in_use i.header i.keys) i.names.items side.same_length side.ascending ∙ sym side.counts)

pub place_below-high-requires-clause-bytes : goal.place_below-high-requires-clause-bytes
place_below-high-requires-clause-bytes g c =
    let i = c.self.inside in
    let side = c.self.invariant.side in
    rw c.num_children-used.ensures.value (place-all 0 (in_use i.header i.keys) i.names.items side.same_length side.ascending ∙ sym side.counts)

pub sorted_part-requires-clause-within : goal.sorted_part-requires-clause-within
sorted_part-requires-clause-within g c =
    let keys = take c.num_children-used.result c.self.inside.keys in
    let forward = rw (← c.start_of.ensures.value, ← c.end_of.ensures.value) at (valid-forward c.args.start c.args.end c.requires (rw c.start_of.ensures.value at c.start_of.ensures.fits)) in
    rw (c.place_below-low.ensures, c.place_below-high.ensures) (place-le keys c.start_of.result c.end_of.result forward, place-within keys c.end_of.result)

pub returns : goal.returns
returns g c =
    let i = c.self.inside in
    let side = c.self.invariant.side in
    let keys = in_use i.header i.keys in
    let names = i.names.items in
    let forward = valid-forward c.args.start c.args.end c.requires (rw c.start_of.ensures.value at c.start_of.ensures.fits) in
    let part = within-zip (start_index c.args.start) (end_index c.args.end 256) keys names side.same_length forward side.ascending in
    let low = c.place_below-low.ensures in
    let high = c.place_below-high.ensures in
    rw (← c.self.view_is, children_between-within 0 c.args.start c.args.end (zip keys names) side.ascending, ← part)
    (rw (c.num_children-used.ensures.value, c.as_slice.ensures.value, c.start_of.ensures.value, c.end_of.ensures.value) at (rw (low, high) at c.sorted_part.ensures))
