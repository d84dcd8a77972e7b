use Rattle.std.proofs.Common.{sym, ◌∙◌, lit<, eqb-true}
use Rattle.art_walks.proofs.RunSteps.{last-held, has_previous, takes_last, takes_last-alone, eqb-apart}
use Rattle.art_walks.proofs.raw_iterator.RawIterator.next_back.Goals as goal

pub returns-then-eq-clause-last : goal.returns-then-eq-clause-last
returns-then-eq-clause-last g c =
    takes_last-alone c.args.arena.now c.args.self.now c.in_ok-first.first c.in_ok-first.last (cc c.in_ok-first.was) (eqb-true c.in_ok-first.first c.in_ok-first.last (sym c.eq.ensures ∙ c.if-eq.true))

pub as_ref-leaf-requires : goal.as_ref-leaf-requires
as_ref-leaf-requires g c =
    (lit< tt, last-held c.args.arena.now c.args.self.now c.in_ok-first.first c.in_ok-first.last (cc c.in_ok-first.was) c.requires)

pub assume_proved-requires : goal.assume_proved-requires
assume_proved-requires g c =
    absurd (has_previous c.args.arena.now c.args.self.now c.in_ok-first.first c.in_ok-first.last (cc c.in_ok-first.was) c.requires
    (eqb-apart c.in_ok-first.first c.in_ok-first.last (sym c.eq.ensures ∙ c.if-eq.false)) c.as_ref-leaf.result.now c.as_ref-leaf.ensures (sym c.previous.ensures ∙ c.in-None.is))

pub returns-clause-last : goal.returns-clause-last
returns-clause-last g c =
    takes_last c.args.arena.now c.args.self.now c.in_ok-first.first c.in_ok-first.last (cc c.in_ok-first.was)
    (eqb-apart c.in_ok-first.first c.in_ok-first.last (sym c.eq.ensures ∙ c.if-eq.false)) c.as_ref-leaf.result.now c.in-Some.previous c.as_ref-leaf.ensures (sym c.previous.ensures ∙ c.in-Some.is)
