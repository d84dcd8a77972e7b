use Rattle.std.proofs.Common.{◌≡◌, ◌<◌, Some, get_or, length, ap, refl, sym, subst, ◌∙◌, arith}
use Rattle.std.specs.List.{AllZip}
use Rattle.std.proofs.lemmas.List.Sums.{sum_by-set}
use Rattle.art_arena.proofs.Common.{count_of}
use Rattle.art_engine.specs.declared.read_ahead.line.Line.{Line}
use Rattle.art_engine.specs.declared.records.path_reader.PathReader.{PathReader}
use Rattle.art_engine.proofs.Terms.{read_of, texts_of}
use Rattle.art_engine.specs.Ahead.{IsStepAhead}
use Rattle.art_engine.specs.ReadAhead.{IsDescended, IsReadEarly}
use Rattle.art_engine.proofs.LinesAhead.{texts_kept}
use Rattle.art_engine.proofs.WaysAhead.{all_same, descended_by, descended_more, get_same, leaf_reached, step_keeps, step_reached}
use Rattle.art_engine.proofs.read_ahead.descents.step_each.Goals as goal
use Rattle.art_engine.proofs.read_ahead.descents.step_each.Goals.{then-goes_on+in-Some, then-goes_on+in_default, else-goes_on}

pub lines-preserved : goal.lines-preserved
lines-preserved g c =
    let i = c.lines.invariant in
    let a = c.args.reader.now.arena.now in
    let low : c.lines.at < length c.lines.lines = let test = c.lines-test.true in let within = i.within in let long = i.long in omega arith in
    elim c.if-goes_on.branch [
      | then-goes_on+in-Some w ↦
          let x = w.index-lines-at-then-goes_on in let e = w.step.ensures in
          let sum = sum_by-set (λ (l : Line). l.read) c.lines.lines c.lines.at w.step.new.self x.result low in let was = ap (λ (l : Line). l.read) x.is in
          record {
            long = c.if-goes_on.auto.lines ∙ i.long;
            within = i.within;
            counted = let lines = ap read_of w.lines-is in let reader = ap (λ (r : PathReader g.row.K.Denot g.row.PREFIX_LEN _). count_of r.reader) w.reader-is in let before = i.counted in let step = e.counted in omega arith;
            texts = ap texts_of w.lines-is ∙ texts_kept c.lines.lines c.lines.at w.step.new.self x.result low e.text ∙ i.texts;
            descended = subst (AllZip (IsDescended g.K.AsBytes.bytes a c.args.of_number) c.args.lines.now) (sym w.lines-is) (descended_more g.K.AsBytes.bytes a c.args.of_number c.args.lines.now c.lines.lines c.lines.at w.step.new.self x.result low i.descended
                (descended_by g.K.AsBytes.bytes a c.lines.reader.arena.now w.step.new.reader.arena.now c.args.of_number _ w.step.new.self i.same_tree.0 e.same_tree.0 e.same_map
                (let same = get_same c.lines.lines c.lines.at x.result c.index-lines-at.result low in let is = c.index-lines-at.is in let own = c.goes_on.ensures w.if-goes_on.true in cc) e.way));
            reached = λ first.
                let own : (get_or c.lines.lines c.lines.at x.result).of_number ≡ c.args.of_number = (let same = get_same c.lines.lines c.lines.at x.result c.index-lines-at.result low in let is = c.index-lines-at.is in let own = c.goes_on.ensures w.if-goes_on.true in cc) in
                rw (w.lines-is, w.leaves-is)
                (leaf_reached a c.args.of_number c.lines.lines c.lines.leaves c.lines.at w.step.new.self (Some w.in-Some.reached) low
                (e.same_map ∙ own, subst (λ t. IsReadEarly t w.step.new.self.node w.in-Some.reached) i.same_tree.0 w.in-Some.ensures.leaf) (i.reached first));
            same_tree = (ap (λ (r : PathReader g.row.K.Denot g.row.PREFIX_LEN _). r.arena.now) w.reader-is ∙ e.same_tree.0 ∙ i.same_tree.0, ap (λ (r : PathReader g.row.K.Denot g.row.PREFIX_LEN _). r.root) w.reader-is ∙ e.same_tree.1 ∙ i.same_tree.1);
          }
      | then-goes_on+in_default w ↦
          let x = w.index-lines-at-then-goes_on in let e = w.step.ensures in
          let sum = sum_by-set (λ (l : Line). l.read) c.lines.lines c.lines.at w.step.new.self x.result low in let was = ap (λ (l : Line). l.read) x.is in
          record {
            long = c.if-goes_on.auto.lines ∙ i.long;
            within = i.within;
            counted = let lines = ap read_of w.lines-is in let reader = ap (λ (r : PathReader g.row.K.Denot g.row.PREFIX_LEN _). count_of r.reader) w.reader-is in let before = i.counted in let step = e.counted in omega arith;
            texts = ap texts_of w.lines-is ∙ texts_kept c.lines.lines c.lines.at w.step.new.self x.result low e.text ∙ i.texts;
            descended = subst (AllZip (IsDescended g.K.AsBytes.bytes a c.args.of_number) c.args.lines.now) (sym w.lines-is) (descended_more g.K.AsBytes.bytes a c.args.of_number c.args.lines.now c.lines.lines c.lines.at w.step.new.self x.result low i.descended
                (descended_by g.K.AsBytes.bytes a c.lines.reader.arena.now w.step.new.reader.arena.now c.args.of_number _ w.step.new.self i.same_tree.0 e.same_tree.0 e.same_map
                (let same = get_same c.lines.lines c.lines.at x.result c.index-lines-at.result low in let is = c.index-lines-at.is in let own = c.goes_on.ensures w.if-goes_on.true in cc) e.way));
            reached = λ first.
                rw (w.lines-is, w.leaves-is)
                (step_reached a c.args.of_number c.lines.lines c.lines.leaves c.lines.at w.step.new.self x.result low
                (step_keeps a c.args.of_number (get_or c.lines.lines c.lines.at x.result).key.items (get_or c.lines.lines c.lines.at x.result) w.step.new.self e.same_map
                (subst (λ t. IsStepAhead t (get_or c.lines.lines c.lines.at x.result).key.items ((get_or c.lines.lines c.lines.at x.result).node, (get_or c.lines.lines c.lines.at x.result).depth) (w.step.new.self.node, w.step.new.self.depth)) i.same_tree.0 e.along))
                (i.reached first));
            same_tree = (ap (λ (r : PathReader g.row.K.Denot g.row.PREFIX_LEN _). r.arena.now) w.reader-is ∙ e.same_tree.0 ∙ i.same_tree.0, ap (λ (r : PathReader g.row.K.Denot g.row.PREFIX_LEN _). r.root) w.reader-is ∙ e.same_tree.1 ∙ i.same_tree.1);
          }
      | else-goes_on w ↦ record {
        long = c.if-goes_on.auto.lines ∙ i.long;
        within = i.within;
        counted = let lines = ap read_of w.lines-is in let reader = ap (λ (r : PathReader g.row.K.Denot g.row.PREFIX_LEN _). count_of r.reader) w.reader-is in let before = i.counted in omega arith;
        texts = ap texts_of w.lines-is ∙ i.texts;
        descended = subst (AllZip (IsDescended g.K.AsBytes.bytes a c.args.of_number) c.args.lines.now) (sym w.lines-is) i.descended;
        reached = λ first. rw (w.lines-is, w.leaves-is) (i.reached first);
        same_tree = (ap (λ (r : PathReader g.row.K.Denot g.row.PREFIX_LEN _). r.arena.now) w.reader-is ∙ i.same_tree.0, ap (λ (r : PathReader g.row.K.Denot g.row.PREFIX_LEN _). r.root) w.reader-is ∙ i.same_tree.1);
      }
    ]

pub lines-init : goal.lines-init
lines-init g c = record {
  long = refl;
  within = let end = c.min-at-end.ensures in omega arith;
  counted = refl;
  texts = refl;
  descended = all_same g.K.AsBytes.bytes c.args.reader.now.arena.now c.args.of_number c.args.lines.now;
  reached = λ first. first;
  same_tree = (refl, refl);
}
