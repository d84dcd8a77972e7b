use Rattle.std.proofs.Common.{◌<◌, Some, get_or, length, ap, refl, subst, sym, ◌∙◌, arith}
use Rattle.std.proofs.lemmas.List.Sums.{sum_by-set}
use Rattle.art_engine.specs.declared.read_ahead.line.Line.{Line}
use Rattle.art_engine.proofs.LinesAhead.{texts_kept}
use Rattle.art_engine.proofs.WaysAhead.{IsOfLine, all_same, descended_more, reached_at, same_keeps, step_reached}
use Rattle.art_engine.proofs.read_ahead.descents.land_each.Goals as goal
use Rattle.art_engine.proofs.read_ahead.descents.land_each.Goals.{in-Some, in_default}

pub lines-init : goal.lines-init
lines-init g c = record {
  long = refl;
  within = let end = c.min-at-end.ensures in omega arith;
  counted = refl;
  texts = refl;
  reached = λ arena first. first;
  descended = λ arena first. all_same g.K.AsBytes.bytes arena c.args._of_number c.args.lines.now;
}

pub lines-preserved : goal.lines-preserved
lines-preserved g c =
    let i = c.lines.invariant in
    let low : c.lines.at < length c.lines.lines = let test = c.lines-test.true in let within = i.within in let long = i.long in omega arith in
    elim c.match-leaves-at.branch [
      | in-Some w ↦
          let x = w.index-lines-at.result in let e = w.land.ensures in let n = c.args._of_number in
          let sum = sum_by-set (λ (l : Line). l.read) c.lines.lines c.lines.at w.land.new.self x low in
          let fits : c.lines.at < length c.args.leaves.now = let test = c.lines-test.true in let end = c.min-at-end.ensures in let long = c.type_inv.leaves in omega arith in
          rw (w.lines-is) (record {
            long = sym (ap length w.lines-is) ∙ c.match-leaves-at.auto.lines ∙ i.long;
            within = i.within;
            counted = let before = i.counted in let same = e.kept.1 in omega arith;
            texts = texts_kept c.lines.lines c.lines.at w.land.new.self x low (ap (λ t. t.items) e.kept.0) ∙ i.texts;
            reached = λ arena first. step_reached arena n c.lines.lines c.args.leaves.now c.lines.at w.land.new.self x low (same_keeps arena n (get_or c.lines.lines c.lines.at x) w.land.new.self e.kept.2 e.kept.3) (i.reached arena first);
            descended = λ arena first.
                let here : IsOfLine arena n (get_or c.lines.lines c.lines.at x) (Some w.in-Some.reached) =
                subst (IsOfLine arena n (get_or c.lines.lines c.lines.at x)) w.in-Some.is (reached_at arena n c.lines.lines c.args.leaves.now c.lines.at x _ low fits (i.reached arena first)) in
                descended_more g.K.AsBytes.bytes arena n c.args.lines.now c.lines.lines c.lines.at w.land.new.self x low (i.descended arena first)
                (record { same_map = e.kept.2; way = λ own root way. e.way arena root here.1 way; other = λ no. absurd (no here.0) });
          })
      | in_default w ↦ rw (w.lines-is) i
    ]
