use Rattle.std.proofs.Common.{refl, ◌∙◌, arith}
use Rattle.art_nodes.proofs.PlaceLemmas.{all_within}
use Rattle.art_nodes.proofs.indirect.InnerNodeIndirectInnerNodeCommon.iter.Goals as goal

pub indirect-requires : goal.indirect-requires
indirect-requires g c =
    let i = c.self.inside in
    let side = c.self.invariant in
    let all = all_within i.mask i.names.items side.same_length side.ascending in
    rw c.as_slice.ensures.value (record { from_fits = omega arith; to_fits = omega arith; same_length = rw all side.same_length })

pub returns-clause-value : goal.returns-clause-value
returns-clause-value g c =
    let i = c.self.inside in
    let side = c.self.invariant in
    let all = all_within i.mask i.names.items side.same_length side.ascending in
    rw (← c.self.view_is) (c.indirect.ensures ∙ rw (c.as_slice.ensures.value, all) refl)

pub returns-clause-ascending : goal.returns-clause-ascending
returns-clause-ascending g c =
    let i = c.self.inside in
    let side = c.self.invariant in
    let all = all_within i.mask i.names.items side.same_length side.ascending in
    rw (c.indirect.ensures, c.as_slice.ensures.value, all) side.ascending
