use Rattle.std.proofs.Common.{sym, arith}
use Rattle.art_nodes.proofs.DirectLemmas.{left-none, left-none_to, left-last, left-held}
use Rattle.art_nodes.proofs.child_iter.DirectChildren.next_back.Goals as goal

pub returns-in_err-last : goal.returns-in_err-last
returns-in_err-last c =
    let i = c.self.inside in
    let none = left-none i.from i.to i.mask.now i.slots.now c.self.invariant (omega (arith, c.in_err-last.ensures)) in
    rw (c.from_residual.ensures, ← c.self.view_is) (none, none)

pub returns-then-from-self : goal.returns-then-from-self
returns-then-from-self c =
    let i = c.self.inside in
    let none = left-none_to i.from i.to i.mask.now i.slots.now c.self.invariant c.in_ok-last.last c.in_ok-last.ensures (omega (arith, c.if-from-self.true, c.from.ensures)) in
    rw (← c.self.view_is) (none, none)

pub returns-in_err-name : goal.returns-in_err-name
returns-in_err-name c =
    let i = c.self.inside in
    absurd (left-held i.from i.to i.mask.now i.slots.now c.self.invariant c.in_ok-last.last _ c.in_ok-last.ensures.stands (sym c.in_err-name.ensures))

pub returns : goal.returns
returns c =
    let i = c.self.inside in
    rw (← c.self.view_is, c.from-self-inside.ensures) (left-last i.from i.to i.mask.now i.slots.now c.self.invariant c.in_ok-last.last c.in_ok-name.name c.in_ok-last.ensures (omega (arith, c.if-from-self.false, c.from.ensures)) (sym c.in_ok-name.ensures))
