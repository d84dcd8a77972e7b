use Rattle.std.proofs.Common.{◌≡◌, ◌<◌, ◌≤◌, ◌+◌, ◌-◌, ◌++◌, ◌∷◌, [], suc, length, take, drop, ap, refl, ◌∙◌, subst, sym, arith, rules}
use Rattle.std.proofs.Math.ListN.{set}
use Rattle.std.proofs.lemmas.List.{length-take-le}
use Rattle.std.specs.List.{AllByRecursion}
use Rattle.art_engine.specs.ReadAhead.{IsAtStart}
use Rattle.art_engine.proofs.WaysAhead.{start_more}
use Rattle.art_engine.proofs.Terms.{read_of, texts_of}
use Rattle.art_engine.proofs.LineLemmas.{none_before, after_newline}
use Rattle.art_engine.proofs.LinesAhead.{next_more, read_more, texts_more}
use Rattle.art_engine.proofs.read_ahead.read_lines.Goals as goal

pub lines-preserved : goal.lines-preserved
lines-preserved c =
    let l = c.lines in let i = l.invariant in let found = c.in-Some.ensures in let rest = l.rest.now in let end = c.in-Some.end in let y = c.read.new.self in
    let low : l.len < length l.lines = search rules in
    let high : end < length rest = found.0.high in
    let inside : end ≤ length rest = omega arith in
    let short : length (take end rest) ≤ 256 = let is = length-take-le end rest inside in let few = c.if-end-gt-SHORT.false in omega arith in
    let on : l.len + 1 ≡ suc l.len = omega arith in
    record {
      long = search (rules, i.long);
      within = let long = i.long in omega arith;
      none = ap (λ n. read_of (take n (set l.lines l.len y))) on ∙ (let more = read_more l.lines l.len y low in let none = i.none in let read = c.read.ensures.none in omega arith);
      start = subst (λ n. AllByRecursion (IsAtStart c.args.roots.now.keys c.args.roots.now.numbers) (take n (set l.lines l.len y))) (sym on)
          (start_more c.args.roots.now.keys c.args.roots.now.numbers l.lines l.len y low i.start (record { unvisited = c.read.ensures.unvisited; unlanded = c.read.ensures.unlanded; starts = c.read.ensures.start }));
      next = next_more c.args.text.now rest (take end rest) (take (length rest - (end + 1)) (drop (end + 1) rest)) (texts_of (take l.len l.lines)) (texts_of (take (l.len + 1) (set l.lines l.len y)))
          i.next (after_newline rest end _ refl high found.1) (none_before rest end found.0.before)
          (ap (λ n. texts_of (take n (set l.lines l.len y))) on ∙ texts_more l.lines l.len y low ∙ ap (λ t. texts_of (take l.len l.lines) ++ t ∷ []) (c.read.ensures.text short));
    }
