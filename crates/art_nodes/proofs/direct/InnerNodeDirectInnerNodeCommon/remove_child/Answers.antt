use Rattle.std.proofs.Common.{sym, ◌∙◌, arith}
use Rattle.art_nodes.proofs.DirectLemmas.{lookup-table, removed, unchanged, stands, counts_down}
use Rattle.art_nodes.proofs.direct.InnerNodeDirectInnerNodeCommon.remove_child.Goals as goal

pub unmark-requires : goal.unmark-requires
unmark-requires g c =
    let i = c.self.inside in
    (_, stands i.header i.mask i.slots c.args.byte c.ranges.byte.fits c.self.invariant _ (sym c.in-Some.ensures))

pub dec_num_children-requires : goal.dec_num_children-requires
dec_num_children-requires g c =
    let i = c.self.inside in
    (omega arith, counts_down i.header i.mask i.slots c.args.byte c.ranges.byte.fits c.self.invariant _ (sym c.in-Some.ensures))

pub invariant_of-self : goal.invariant_of-self
invariant_of-self g c =
    let i = c.self.inside in
    rw (c.from-at.ensures, c.new.ensures, c.unmark.ensures, c.dec_num_children.ensures) ((removed i.header i.mask i.slots c.args.byte c.ranges.byte.fits c.self.invariant _ (sym c.in-Some.ensures)).counted)

pub returns-in-Some-clause-value : goal.returns-in-Some-clause-value
returns-in-Some-clause-value g c = rw (← c.self.view_is) (c.in-Some.ensures ∙ sym (lookup-table c.self.inside.slots c.args.byte c.self.invariant.table.whole))

pub returns-in-Some-clause-rest : goal.returns-in-Some-clause-rest
returns-in-Some-clause-rest g c =
    let i = c.self.inside in
    rw (← c.self.view_is, c.from-at.ensures, c.new.ensures, c.dec_num_children.ensures) ((removed i.header i.mask i.slots c.args.byte c.ranges.byte.fits c.self.invariant _ (sym c.in-Some.ensures)).view)

pub returns-in-None-clause-value : goal.returns-in-None-clause-value
returns-in-None-clause-value g c = rw (← c.self.view_is) (c.in-None.ensures ∙ sym (lookup-table c.self.inside.slots c.args.byte c.self.invariant.table.whole))

pub returns-in-None-clause-rest : goal.returns-in-None-clause-rest
returns-in-None-clause-rest g c =
    let i = c.self.inside in
    rw (← c.self.view_is) (unchanged i.header i.mask i.slots c.args.byte c.ranges.byte.fits c.self.invariant (sym c.in-None.ensures))
