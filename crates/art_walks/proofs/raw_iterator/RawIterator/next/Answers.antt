use Rattle.std.proofs.Common.{sym, ◌∙◌, lit<, eqb-true}
use Rattle.art_walks.proofs.RunSteps.{first-held, has_next, takes_first, takes_first-alone, eqb-apart}
use Rattle.art_walks.proofs.raw_iterator.RawIterator.next.Goals as goal

pub returns-then-eq-clause-first : goal.returns-then-eq-clause-first
returns-then-eq-clause-first g c =
    takes_first-alone c.args.arena.now c.args.self.now c.in_ok-first.first c.in_ok-first.last (cc c.in_ok-first.was) (eqb-true c.in_ok-first.first c.in_ok-first.last (sym c.eq.ensures ∙ c.if-eq.true))

pub as_ref-leaf-requires : goal.as_ref-leaf-requires
as_ref-leaf-requires g c =
    (lit< tt, first-held c.args.arena.now c.args.self.now c.in_ok-first.first c.in_ok-first.last (cc c.in_ok-first.was) c.requires)

pub assume_proved-requires : goal.assume_proved-requires
assume_proved-requires g c =
    absurd (has_next c.args.arena.now c.args.self.now c.in_ok-first.first c.in_ok-first.last (cc c.in_ok-first.was) c.requires
    (eqb-apart c.in_ok-first.first c.in_ok-first.last (sym c.eq.ensures ∙ c.if-eq.false)) c.as_ref-leaf.result.now c.as_ref-leaf.ensures (sym c.next.ensures ∙ c.in-None.is))

pub returns-clause-first : goal.returns-clause-first
returns-clause-first g c =
    takes_first c.args.arena.now c.args.self.now c.in_ok-first.first c.in_ok-first.last (cc c.in_ok-first.was)
    (eqb-apart c.in_ok-first.first c.in_ok-first.last (sym c.eq.ensures ∙ c.if-eq.false)) c.as_ref-leaf.result.now c.in-Some.next c.as_ref-leaf.ensures (sym c.next.ensures ∙ c.in-Some.is)
