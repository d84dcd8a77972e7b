use Rattle.std.proofs.Common.{◌/◌, ◌<◌, length, arith}
use Rattle.art_nodes.proofs.Terms.{is_marked}
use Rattle.art_nodes.proofs.MaskLemmas.{inserted, fails_where_it_belongs, marked_now, others_now}
use Rattle.art_nodes.proofs.mask.Mask.mark.Goals as goal

pub returns : goal.returns
returns c =
    let words = c.self.inside.words in
    let byte = c.args.byte in
    let fits = c.ranges.byte.fits in
    let within : byte / 64 < length words = omega (arith, c.self.told, fits) in
    let asked = rw (← c.self.view_is) at c.requires in
    rw (← c.self.view_is, c.from.ensures, c.from-2.ensures) (inserted (is_marked words) byte fits _ (others_now words byte within) (fails_where_it_belongs (is_marked words) byte fits asked.0 asked.1) (marked_now words byte within))
