use Rattle.std.proofs.Common.{sym, arith}
use Rattle.art_nodes.proofs.PlaceLemmas.{place-within}
use Rattle.art_nodes.proofs.DirectLemmas.{left-none, left-none_from, left-first, left-held}
use Rattle.art_nodes.proofs.child_iter.DirectChildren.next.Goals as goal

pub returns-in_err-first : goal.returns-in_err-first
returns-in_err-first c =
    let i = c.self.inside in
    let none = left-none i.from i.to i.mask.now i.slots.now c.self.invariant (omega (arith, place-within i.mask.now i.to, c.in_err-first.ensures)) in
    rw (c.from_residual.ensures, ← c.self.view_is) (none, none)

pub returns-then-from-self : goal.returns-then-from-self
returns-then-from-self c =
    let i = c.self.inside in
    let none = left-none_from i.from i.to i.mask.now i.slots.now c.self.invariant c.in_ok-first.first c.in_ok-first.ensures (omega (arith, c.if-from-self.true, c.from.ensures)) in
    rw (← c.self.view_is) (none, none)

pub returns-in_err-name : goal.returns-in_err-name
returns-in_err-name c =
    let i = c.self.inside in
    absurd (left-held i.from i.to i.mask.now i.slots.now c.self.invariant c.in_ok-first.first _ c.in_ok-first.ensures.stands (sym c.in_err-name.ensures))

pub returns : goal.returns
returns c =
    let i = c.self.inside in
    rw (← c.self.view_is, c.from-2.ensures) (left-first i.from i.to i.mask.now i.slots.now c.self.invariant c.in_ok-first.first c.in_ok-name.name c.in_ok-first.ensures (omega (arith, c.if-from-self.false, c.from.ensures)) (sym c.in_ok-name.ensures))
