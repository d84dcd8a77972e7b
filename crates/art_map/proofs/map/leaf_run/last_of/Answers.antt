use Rattle.std.proofs.Common.{Some, refl, sym, ◌∙◌, lit<, eqb-true}
use Rattle.art_walks.proofs.RunSteps.{last-held, has_previous, takes_last, takes_last-alone, eqb-apart}
use Rattle.art_map.proofs.map.leaf_run.last_of.Goals as goal

pub as_ref-leaf-requires : goal.as_ref-leaf-requires
as_ref-leaf-requires g c = (lit< tt, last-held c.args.arena.now (Some (c.args.first, c.args.last)) c.args.first c.args.last refl c.requires)

pub returns-then-eq-clause-left : goal.returns-then-eq-clause-left
returns-then-eq-clause-left g c =
    takes_last-alone c.args.arena.now (Some (c.args.first, c.args.last)) c.args.first c.args.last refl (eqb-true c.args.first c.args.last (sym c.eq.ensures ∙ c.if-eq.true))

pub assume_proved-requires : goal.assume_proved-requires
assume_proved-requires g c =
    absurd (has_previous c.args.arena.now (Some (c.args.first, c.args.last)) c.args.first c.args.last refl c.requires
    (eqb-apart c.args.first c.args.last (sym c.eq.ensures ∙ c.if-eq.false)) c.as_ref-leaf.result.now c.as_ref-leaf.ensures (sym c.previous.ensures ∙ c.in-None.is))

pub returns-clause-left : goal.returns-clause-left
returns-clause-left g c =
    takes_last c.args.arena.now (Some (c.args.first, c.args.last)) c.args.first c.args.last refl
    (eqb-apart c.args.first c.args.last (sym c.eq.ensures ∙ c.if-eq.false)) c.as_ref-leaf.result.now c.in-Some.previous c.as_ref-leaf.ensures (sym c.previous.ensures ∙ c.in-Some.is)
