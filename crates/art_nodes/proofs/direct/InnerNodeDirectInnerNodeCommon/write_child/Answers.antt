use Rattle.std.proofs.Common.{sym, arith}
use Rattle.art_nodes.proofs.DirectLemmas.{replaced, added, belongs, counts_up}
use Rattle.art_nodes.proofs.direct.InnerNodeDirectInnerNodeCommon.write_child.Goals as goal

pub invariant_of-self : goal.invariant_of-self
invariant_of-self g c =
    let i = c.self.inside in
    rw (c.from-at.ensures, c.new.ensures) ((replaced i.header i.mask i.slots c.args.byte c.ranges.byte.fits c.self.invariant c.args.name _ (sym c.in-Some.ensures)).counted)

pub returns-in-Some : goal.returns-in-Some
returns-in-Some g c =
    let i = c.self.inside in
    rw (← c.self.view_is, c.from-at.ensures, c.new.ensures) ((replaced i.header i.mask i.slots c.args.byte c.ranges.byte.fits c.self.invariant c.args.name _ (sym c.in-Some.ensures)).view)

pub mark-requires : goal.mark-requires
mark-requires g c =
    let i = c.self.inside in
    (_, belongs i.header i.mask i.slots c.args.byte c.ranges.byte.fits c.self.invariant (sym c.in-None.ensures))

pub inc_num_children-requires : goal.inc_num_children-requires
inc_num_children-requires g c =
    let i = c.self.inside in
    (omega arith, counts_up i.header i.mask i.slots c.args.byte c.ranges.byte.fits c.self.invariant c.args.name (sym c.in-None.ensures))

pub invariant_of-self-in-None : goal.invariant_of-self-in-None
invariant_of-self-in-None g c =
    let i = c.self.inside in
    rw (c.from-at.ensures, c.new-in-None.ensures, c.mark.ensures, c.inc_num_children.ensures) ((added i.header i.mask i.slots c.args.byte c.ranges.byte.fits c.self.invariant c.args.name (sym c.in-None.ensures)).counted)

pub returns-in-None : goal.returns-in-None
returns-in-None g c =
    let i = c.self.inside in
    rw (← c.self.view_is, c.from-at.ensures, c.new-in-None.ensures, c.inc_num_children.ensures) ((added i.header i.mask i.slots c.args.byte c.ranges.byte.fits c.self.invariant c.args.name (sym c.in-None.ensures)).view)
