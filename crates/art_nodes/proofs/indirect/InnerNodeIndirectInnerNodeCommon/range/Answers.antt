use Rattle.std.specs.List.{zip}
use Rattle.std.specs.Range.Bound.{start_index, end_index}
use Rattle.art_nodes.proofs.PlaceLemmas.{children_between-within, valid-forward, within-zip}
use Rattle.art_nodes.proofs.indirect.InnerNodeIndirectInnerNodeCommon.range.Goals as goal

pub returns : goal.returns
returns g c =
    let i = c.self.inside in
    let side = c.self.invariant in
    let forward = valid-forward c.args.start c.args.end c.requires (rw c.start_of.ensures.value at c.start_of.ensures.fits) in
    let part = within-zip (start_index c.args.start) (end_index c.args.end 256) i.mask i.names.items side.same_length forward side.ascending in
    rw (← c.self.view_is, children_between-within 0 c.args.start c.args.end (zip i.mask i.names.items) side.ascending, ← part)
    (rw (c.as_slice-names.ensures.value, c.start_of.ensures.value, c.end_of.ensures.value) at c.indirect_part.ensures)
