use Rattle.std.proofs.Common.{refl, sym, subst, ◌∙◌, arith}
use Rattle.std.specs.List.{AllZip}
use Rattle.art_engine.specs.ReadAhead.{AreReadEarly, IsDescended}
use Rattle.art_engine.proofs.WaysAhead.{all_on, all_same}
use Rattle.art_engine.proofs.read_ahead.descents.step_all.Goals as goal

pub steps-init : goal.steps-init
steps-init g c = record {
  long = refl;
  counted = refl;
  texts = refl;
  descended = all_same g.K.AsBytes.bytes c.args.reader.now.arena.now c.args.of_number c.args.lines.now;
  reached = λ first. first;
  same_tree = (refl, refl);
}

pub steps-preserved : goal.steps-preserved
steps-preserved g c =
    let i = c.steps.invariant in let e = c.step_each.ensures in
    let a = c.args.reader.now.arena.now in
    record {
      long = e.long ∙ i.long;
      counted = let before = i.counted in let step = e.counted in omega arith;
      texts = e.texts ∙ i.texts;
      descended = all_on g.K.AsBytes.bytes a c.args.of_number c.args.lines.now c.steps.lines c.step_each.new.lines i.descended
          (subst (λ x. AllZip (IsDescended g.K.AsBytes.bytes x c.args.of_number) c.steps.lines c.step_each.new.lines) i.same_tree.0 e.descended);
      reached = λ first. subst (λ x. AreReadEarly x c.args.of_number c.step_each.new.lines c.step_each.new.leaves) i.same_tree.0
          (e.reached (subst (λ x. AreReadEarly x c.args.of_number c.steps.lines c.steps.leaves) (sym i.same_tree.0) (i.reached first)));
      same_tree = (e.same_tree.0 ∙ i.same_tree.0, e.same_tree.1 ∙ i.same_tree.1);
    }

pub returns-after-steps-clause-descended : goal.returns-after-steps-clause-descended
returns-after-steps-clause-descended g c = c.steps.invariant.descended

pub returns-after-steps-clause-reached : goal.returns-after-steps-clause-reached
returns-after-steps-clause-reached g c = c.steps.invariant.reached

pub returns-then-not-step_each-clause-descended : goal.returns-then-not-step_each-clause-descended
returns-then-not-step_each-clause-descended g c =
    let i = c.steps.invariant in let e = c.step_each.ensures in
    let a = c.args.reader.now.arena.now in
    all_on g.K.AsBytes.bytes a c.args.of_number c.args.lines.now c.steps.lines c.step_each.new.lines i.descended
    (subst (λ x. AllZip (IsDescended g.K.AsBytes.bytes x c.args.of_number) c.steps.lines c.step_each.new.lines) i.same_tree.0 e.descended)

pub returns-then-not-step_each-clause-reached : goal.returns-then-not-step_each-clause-reached
returns-then-not-step_each-clause-reached g c = λ first.
    let i = c.steps.invariant in let e = c.step_each.ensures in
    subst (λ x. AreReadEarly x c.args.of_number c.step_each.new.lines c.step_each.new.leaves) i.same_tree.0
    (e.reached (subst (λ x. AreReadEarly x c.args.of_number c.steps.lines c.steps.leaves) (sym i.same_tree.0) (i.reached first)))
