use Rattle.std.proofs.Common.{◌<◌, length, refl, sym, ◌∙◌, arith}
use Rattle.std.proofs.lemmas.Option.{slice_get_read}
use Rattle.art_nodes.proofs.Terms.{place}
use Rattle.art_nodes.proofs.SortedLemmas.{found_here, found_nowhere}
use Rattle.art_nodes.proofs.indirect.InnerNodeIndirectInnerNodeCommon.lookup_child.Goals as goal

pub returns-in-Some : goal.returns-in-Some
returns-in-Some g c =
    let i = c.self.inside in
    let side = c.self.invariant in
    let stands = c.in-Some.ensures in
    let within : c.in-Some.at < length i.names.items = omega (arith, stands.within, side.same_length) in
    let read = slice_get_read i.names.items (length i.names.items) c.in-Some.at c.index-as_slice-at.result refl within (rw c.as_slice.ensures.value at c.index-as_slice-at.is) in
    rw (← c.self.view_is) (sym read ∙ found_here _ i.header i.mask i.names.items c.args.byte c.in-Some.at side stands)

pub returns-in-None : goal.returns-in-None
returns-in-None g c =
    let i = c.self.inside in
    rw (← c.self.view_is) (found_nowhere _ i.header i.mask i.names.items c.args.byte (place i.mask c.args.byte) c.self.invariant c.in-None.ensures)
