use Rattle.std.proofs.Common.{◌/◌, ◌<◌, length, arith}
use Rattle.art_nodes.proofs.Terms.{is_marked}
use Rattle.art_nodes.proofs.MaskLemmas.{removed, passes_where_it_stands, unmarked_now, others_still}
use Rattle.art_nodes.proofs.mask.Mask.unmark.Goals as goal

pub returns : goal.returns
returns c =
    let words = c.self.inside.words in
    let byte = c.args.byte in
    let fits = c.ranges.byte.fits in
    let within : byte / 64 < length words = omega (arith, c.self.told, fits) in
    let asked = rw (← c.self.view_is) at c.requires in
    rw (← c.self.view_is, c.from.ensures, c.from-2.ensures) (removed (is_marked words) byte fits _ (others_still words byte within) (passes_where_it_stands (is_marked words) byte fits asked.0 asked.1) (unmarked_now words byte within))
