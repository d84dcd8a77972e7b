use Rattle.std.proofs.Common.{◌≡◌, ◌==◌, ◌<◌, Some, None, length, position, refl, arith, sym, ◌∙◌}
use Rattle.std.proofs.lemmas.List.Quantifiers.{position-Some}
use Rattle.art_nodes.proofs.Terms.{in_use}
use Rattle.std.proofs.lemmas.Option.{slice_get_read}
use Rattle.art_nodes.proofs.SortedLemmas.{found-at, found-nowhere}
use Rattle.art_nodes.proofs.sorted.InnerNodeSortedInnerNodeCommon.lookup_child.Goals as goal

pub returns-in-Some : goal.returns-in-Some
returns-in-Some g c =
    let i = c.self.inside in
    let keys = in_use i.header i.keys in
    let names = i.names.items in
    let side = c.self.invariant.side in
    let is : Some c.in-Some.at ≡ position (λ key. key == c.args.byte) keys = rw c.num_children.ensures.value at c.in-Some.ensures in
    let stands = (position-Some (λ key. key == c.args.byte) keys c.in-Some.at 0 (sym is)).0 in
    let within : c.in-Some.at < length names = omega (arith, stands, side.same_length) in
    let read = slice_get_read names (length names) c.in-Some.at c.index-as_slice-at.result refl within (rw c.as_slice.ensures.value at c.index-as_slice-at.is) in
    rw (← c.self.view_is) (sym read ∙ found-at keys names c.args.byte c.in-Some.at side.same_length (sym is))

pub returns-in-None : goal.returns-in-None
returns-in-None g c =
    let i = c.self.inside in
    let keys = in_use i.header i.keys in
    let is : None ≡ position (λ key. key == c.args.byte) keys = rw c.num_children.ensures.value at c.in-None.ensures in
    rw (← c.self.view_is) (sym (found-nowhere keys i.names.items c.args.byte c.self.invariant.side.same_length (sym is)))
