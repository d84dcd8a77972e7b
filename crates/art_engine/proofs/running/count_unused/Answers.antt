use Rattle.std.proofs.Common.{◌≡◌, ℕ, ◌+◌, List, [], ◌∷◌, ◌++◌, refl, ap, sym, ◌∙◌, append_assoc, append-nil, arith}
use Rattle.art_engine.proofs.Terms.{read_of, to_come, total}
use Rattle.art_engine.proofs.LinesAhead.{told_more}
use Rattle.art_engine.proofs.running.count_unused.Goals as goal

pub lines-init : goal.lines-init
lines-init g c = record { told = ([], sym (append-nil c.args.index.now.ahead), omega arith); kept = (refl, refl, refl) }

pub lines-preserved : goal.lines-preserved
lines-preserved g c =
    let i = c.lines.invariant.told in let k = c.lines.invariant.kept in
    let unused : List ℕ = i.0 in let n = c.in-Some.ahead in
    let e = c.count_ahead.ensures in let some = c.in-Some.ensures.some in
    let more = told_more unused n (unused ++ n ∷ []) refl in let all = i.2 in
    let whole : total (unused ++ n ∷ []) + read_of (to_come c.pass_next.new.self) ≡ read_of (to_come c.args.read_ahead.now) = omega arith in
    record {
      told = (unused ++ n ∷ [], e.counted ∙ ap (λ ns. ns ++ n ∷ []) i.1 ∙ append_assoc c.args.index.now.ahead unused (n ∷ []), whole);
      kept = (e.kept.0 ∙ k.0, e.kept.1 ∙ k.1, e.kept.2 ∙ k.2);
    }

pub returns-clause-told : goal.returns-clause-told
returns-clause-told g c =
    let i = c.lines.invariant.told in let all = i.2 in
    let none = ap read_of (c.pass_next.ensures.none c.in_default.is).0 in
    (i.0, i.1, omega arith)

pub returns-clause-used_up : goal.returns-clause-used_up
returns-clause-used_up g c = (c.pass_next.ensures.none c.in_default.is).1
