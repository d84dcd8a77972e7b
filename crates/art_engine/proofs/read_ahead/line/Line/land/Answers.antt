use Rattle.std.proofs.Common.{◌≡◌, Some, Bool, true, false, List, ℕ, length, ap, refl, inr, subst, sym, ◌∙◌}
use Rattle.std.specs.Global.{Vec}
use Rattle.std.specs.Prelude.{IfSome, option_map}
use Rattle.art_lines.specs.Parsed.{command_with}
use Rattle.art_lines.specs.Reading.{command_of}
use Rattle.art_engine.specs.Ahead.{IsWholeWay, finds_key}
use Rattle.art_engine.specs.ReadAhead.{IfEnded}
use Rattle.art_engine.proofs.WaysAhead.{finds_told}
use Rattle.art_engine.proofs.read_ahead.line.Line.land.Goals as goal

pub returns-in-Some-false-clause-way : goal.returns-in-Some-false-clause-way
returns-in-Some-false-clause-way g c = λ arena root reached way.
    let s = c.args.self.now in
    let spelled : Some (command_with c.in-Some-Some.word s.fields) ≡ command_of s.text.items = sym (ap (option_map (λ w. command_with w s.fields)) c.in-Some-Some.is-0) ∙ s.spelled in
    record {
      ahead = way.ahead;
      whole = subst (λ l. IfEnded l (IsWholeWay arena s.key.items root s.visited.items (s.node, s.depth))) c.in-Leaf.is way.whole;
      ends = inr (
        reached.0,
        reached.1,
        finds_told _ _ _ _ _ _ false spelled c.as_slice.ensures.value (c.as_bytes-stored.ensures.value ∙ ap g.K.AsBytes.bytes reached.2) (sym (c.in-Some-false.ensures s.fields) ∙ c.in-Some-false.field-0-test),
      );
    }

pub returns-then-set_bytes-clause-way : goal.returns-then-set_bytes-clause-way
returns-then-set_bytes-clause-way g c = λ arena root reached way.
    let s = c.args.self.now in
    let spelled : Some (command_with c.in-Some-Some.word s.fields) ≡ command_of s.text.items = sym (ap (option_map (λ w. command_with w s.fields)) c.in-Some-Some.is-0) ∙ s.spelled in
    let stored = c.as_bytes-stored.ensures.value ∙ ap g.K.AsBytes.bytes reached.2 in
    record {
      ahead = way.ahead;
      whole = subst (λ l. IfEnded l (IsWholeWay arena s.key.items root s.visited.items (s.node, s.depth))) c.in-Leaf.is way.whole;
      ends = (
        reached.0,
        reached.1,
        finds_told _ _ _ _ _ _ true spelled c.as_slice.ensures.value stored (sym (c.in-Some-true.ensures s.fields) ∙ c.in-Some-true.field-0-test),
        ap length (sym stored),
        ap (λ (v : Vec ℕ). v.items) (sym (subst (λ o. IfSome o (λ v. v.now ≡ reached.0.value)) c.in-Some-Some.is-1 reached.3)) ∙ sym c.deref.ensures.value ∙ sym (c.if-set_bytes.ensures refl),
      );
    }
