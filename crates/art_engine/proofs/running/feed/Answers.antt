use Rattle.std.proofs.Common.{◌≡◌, ℕ, List, [], ◌∷◌, ◌+◌, ◌-◌, ◌++◌, length, take, drop, ap, sym, ◌∙◌, subst, refl, append_assoc, append-nil}
use Rattle.std.proofs.Common.{inl, inr, arith, rules}
use Rattle.art_lines.specs.Lines.{whole_lines_of}
use Rattle.art_engine.specs.declared.read_ahead.line.Line.{Line}
use Rattle.art_engine.proofs.Terms.{AreNext, Carried, NoNewline, to_come, read_of, texts_of}
use Rattle.art_engine.proofs.LinesAhead.{landed_none, none_to_come}
use Rattle.art_engine.proofs.LineLemmas.{none_before, none_at_all, after_newline}
use Rattle.art_engine.proofs.Carrying.{carried_part}
use Rattle.art_lines.proofs.Common.{when_err}
use Rattle.art_engine.proofs.CutRuns.{cut_run-more}
use Rattle.art_engine.proofs.running.feed.Goals as goal

-- a line and what stands after it, in their place
in_place : (text done line following rest piece : List ℕ) → rest ≡ (line ++ 10 ∷ []) ++ following → piece ≡ done ++ rest → ((text ++ done) ++ line ++ 10 ∷ []) ++ following ≡ text ++ piece
in_place text done line following rest piece e all =
    ap (λ t. t ++ following) (append_assoc (text ++ done) line (10 ∷ [])) ∙ append_assoc (text ++ done) (line ++ 10 ∷ []) following
    ∙ ap (λ t. (text ++ done) ++ t) (sym e) ∙ append_assoc text done rest ∙ ap (λ t. text ++ t) (sym all)

pub finish_line-requires : goal.finish_line-requires
finish_line-requires g c =
    let i = c.lines.invariant in
    let rest : List ℕ = c.lines.rest.now in let at : ℕ = c.in-Some.at in let found = c.in-Some.ensures in
    (search rules, (i.fine, ((none_before rest at found.0.before, (take (length rest - (at + 1)) (drop (at + 1) rest), after_newline rest at _ refl found.0.high found.1)), (i.comes, (i.landed, i.cut)))))

pub lines-init : goal.lines-init
lines-init g c = record {
  carried = (
    [],
    refl,
    λ start text before h.
        subst (λ ls. Carried start c.args.index.now (text ++ []) c.args.held.now.items before (g.W.Sink.taken c.args.sink.now) ls) (sym c.requires.used_up)
        (subst (λ t. Carried start c.args.index.now t c.args.held.now.items before (g.W.Sink.taken c.args.sink.now) []) (sym (append-nil text)) h),
  );
  comes = subst (λ (ls : List Line). AreNext (texts_of ls) c.args.piece.now) (sym c.requires.used_up) (whole_lines_of c.args.piece.now, refl);
  landed = landed_none g.row.PREFIX_LEN c.args.index.now.records c.args.read_ahead.now c.requires.used_up;
  cut = inr c.requires.used_up;
  counted = let none = ap read_of c.requires.used_up in omega arith;
  fine = c.requires.open;
}

pub lines-preserved : goal.lines-preserved
lines-preserved g c =
    let i = c.lines.invariant.carried in let done : List ℕ = i.0 in
    let rest : List ℕ = c.lines.rest.now in let at : ℕ = c.in-Some.at in let found = c.in-Some.ensures in
    let line : List ℕ = take at rest in
    let none : NoNewline line = none_before rest at found.0.before in
    let e = c.in_ok-finish_line.ensures in
    record {
      carried = (
        done ++ (line ++ 10 ∷ []),
        i.1 ∙ ap (λ t. done ++ t) (after_newline rest at _ refl found.0.high found.1) ∙ sym (append_assoc done (line ++ 10 ∷ []) _),
        λ start text before h.
            let same : (text ++ done) ++ line ++ 10 ∷ [] ≡ text ++ (done ++ (line ++ 10 ∷ [])) =
            append_assoc (text ++ done) line (10 ∷ []) ∙ append_assoc text done (line ++ 10 ∷ []) in
            subst (λ t. Carried start c.finish_line.new.index t c.finish_line.new.held.items before (g.W.Sink.taken c.finish_line.new.sink) (to_come c.finish_line.new.read_ahead)) same
            (e.carried start (text ++ done) before none (i.2 start text before h)),
      );
      comes = e.comes (take (length rest - (at + 1)) (drop (at + 1) rest)) (after_newline rest at _ refl found.0.high found.1);
      landed = e.landed;
      cut = inl e.emptied;
      counted = let before = c.lines.invariant.counted in let now = e.counted in omega arith;
      fine = sym e.failed;
    }

pub returns-clause-carried : goal.returns-clause-carried
returns-clause-carried g c = λ start text before h.
    let i = c.lines.invariant.carried in let done : List ℕ = i.0 in let rest : List ℕ = c.lines.rest.now in
    let same : (text ++ done) ++ rest ≡ text ++ c.args.piece.now = append_assoc text done rest ∙ ap (λ t. text ++ t) (sym i.1) in
    let used = none_to_come (λ (l : Line). l.text.items) (to_come c.lines.read_ahead) rest (none_at_all rest c.in_default.ensures) c.lines.invariant.comes in
    subst (λ t. Carried start c.lines.index t c.append_capped.new.held.items before (g.W.Sink.taken c.lines.sink) []) same
    (carried_part start c.lines.index c.lines.index (text ++ done) rest c.lines.held.items c.append_capped.new.held.items before (g.W.Sink.taken c.lines.sink) (g.W.Sink.taken c.lines.sink) []
    (subst (λ ls. Carried start c.lines.index (text ++ done) c.lines.held.items before (g.W.Sink.taken c.lines.sink) ls) used (i.2 start text before h)) (none_at_all rest c.in_default.ensures) refl c.append_capped.ensures refl)

pub returns-clause-used_up : goal.returns-clause-used_up
returns-clause-used_up g c = none_to_come (λ (l : Line). l.text.items) (to_come c.lines.read_ahead) c.lines.rest.now (none_at_all c.lines.rest.now c.in_default.ensures) c.lines.invariant.comes

pub returns-clause-counted : goal.returns-clause-counted
returns-clause-counted g c =
    let none = none_to_come (λ (l : Line). l.text.items) (to_come c.lines.read_ahead) c.lines.rest.now (none_at_all c.lines.rest.now c.in_default.ensures) c.lines.invariant.comes in
    let left = ap read_of none in let counted = c.lines.invariant.counted in omega arith

pub returns-in_err-finish_line-clause-cut : goal.returns-in_err-finish_line-clause-cut
returns-in_err-finish_line-clause-cut g c = when_err c.from_residual.result (λ start text before h.
    let i = c.lines.invariant.carried in let done : List ℕ = i.0 in
    let rest : List ℕ = c.lines.rest.now in let at : ℕ = c.in-Some.at in let found = c.in-Some.ensures in
    let line : List ℕ = take at rest in let following : List ℕ = take (length rest - (at + 1)) (drop (at + 1) rest) in
    let none : NoNewline line = none_before rest at found.0.before in
    let all = in_place text done line following rest c.args.piece.now (after_newline rest at _ refl found.0.high found.1) i.1 in
    cut_run-more start c.finish_line.new.index ((text ++ done) ++ line ++ 10 ∷ []) following (text ++ c.args.piece.now) before (g.W.Sink.taken c.finish_line.new.sink) all
    (c.in_err-finish_line.ensures.cut start (text ++ done) before none (i.2 start text before h)))

pub returns-in_err-finish_line-clause-used_up : goal.returns-in_err-finish_line-clause-used_up
returns-in_err-finish_line-clause-used_up g c = c.in_err-finish_line.ensures.used_up

pub returns-in_err-finish_line-clause-counted : goal.returns-in_err-finish_line-clause-counted
returns-in_err-finish_line-clause-counted g c =
    let used = ap read_of c.in_err-finish_line.ensures.used_up in
    let before = c.lines.invariant.counted in let now = c.in_err-finish_line.ensures.counted in
    omega arith
