use Rattle.std.proofs.Common.{inr, arith}
use Rattle.art_arena.proofs.Common.{node_at, links-kept}
use Rattle.art_operations.proofs.Edits.{at_top, last-is, parent_there, new_child}
use Rattle.art_operations.proofs.parent.put_below.Goals as goal

pub edit_inner-requires : goal.edit_inner-requires
edit_inner-requires g c =
    let r = c.requires in
    let p = parent_there g.K.AsBytes.bytes g.row.PREFIX_LEN c.args.arena.now c.args.root r.0 r.1 r.2 r.3 r.4 _ (last-is r.3 c.args.above _ c.in-Some.is r.5).0 (last-is r.3 c.args.above _ c.in-Some.is r.5).1 in
    (omega arith, (omega arith, ((p.node, p.there, inr p.child), p.inner)))

pub returns-in-None-clause-holds : goal.returns-in-None-clause-holds
returns-in-None-clause-holds g c = λ ctx was rest steps stands last. (at_top g.K.AsBytes.bytes g.row.PREFIX_LEN (node_at c.args.arena.now) c.args.root ctx was c.args.name rest steps stands (rw c.in-None.is at last)).0

pub returns-in-None-clause-root : goal.returns-in-None-clause-root
returns-in-None-clause-root g c = λ ctx was rest steps stands last. (at_top g.K.AsBytes.bytes g.row.PREFIX_LEN (node_at c.args.arena.now) c.args.root ctx was c.args.name rest steps stands (rw c.in-None.is at last)).1

pub returns-in-Some-clause-holds : goal.returns-in-Some-clause-holds
returns-in-Some-clause-holds g c = λ ctx was rest steps stands last.
    (new_child g.K.AsBytes.bytes g.row.PREFIX_LEN c.args.arena.now c.edit_inner.new.self c.args.root ctx was c.args.name rest steps stands _ (last-is steps c.args.above _ c.in-Some.is last).0 (last-is steps c.args.above _ c.in-Some.is last).1 c.edit_inner.ensures.updates).0

pub returns-in-Some-clause-root : goal.returns-in-Some-clause-root
returns-in-Some-clause-root g c = λ ctx was rest steps stands last.
    (new_child g.K.AsBytes.bytes g.row.PREFIX_LEN c.args.arena.now c.edit_inner.new.self c.args.root ctx was c.args.name rest steps stands _ (last-is steps c.args.above _ c.in-Some.is last).0 (last-is steps c.args.above _ c.in-Some.is last).1 c.edit_inner.ensures.updates).1

pub returns-in-Some-clause-links : goal.returns-in-Some-clause-links
returns-in-Some-clause-links g c = λ slot.
    let r = c.requires in
    let p = parent_there g.K.AsBytes.bytes g.row.PREFIX_LEN c.args.arena.now c.args.root r.0 r.1 r.2 r.3 r.4 _ (last-is r.3 c.args.above _ c.in-Some.is r.5).0 (last-is r.3 c.args.above _ c.in-Some.is r.5).1 in
    links-kept c.args.arena.now c.edit_inner.new.self _ _ (c.edit_inner.ensures.updates p.node p.there) p.inner slot
