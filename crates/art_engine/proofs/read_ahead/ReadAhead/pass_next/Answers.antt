use Rattle.std.proofs.Common.{◌≡◌, suc, ◌+◌, ◌<◌, length, drop, take, ap, ◌∙◌, arith}
use Rattle.std.proofs.lemmas.List.{length-drop, length-take}
use Rattle.art_engine.specs.declared.read_ahead.line.Line.{Line}
use Rattle.art_engine.proofs.Terms.{read_of}
use Rattle.art_engine.proofs.LinesAhead.{passed_after}
use Rattle.art_engine.proofs.read_ahead.ReadAhead.pass_next.Goals as goal

pub returns-then-at-len-clause-some : goal.returns-then-at-len-clause-some
returns-then-at-len-clause-some c =
    let s = c.args.self.now in
    let fits : s.at < length s.lines.items = let l = c.len.ensures in let i = c.if-at-len.true in omega arith in
    let on : s.at + 1 ≡ suc s.at = omega arith in
    let same = c.parsed.ensures.own ∙ ap (λ (l : Line). l.read) c.index.ensures in
    ap (λ n. c.parsed.result.ahead + read_of (drop n (take s.len s.lines.items))) on
    ∙ ap (λ n. n + read_of (drop (suc s.at) (take s.len s.lines.items))) same
    ∙ passed_after s.lines.items s.len s.at c.index.result.now c.if-at-self.true fits

pub returns-then-at-len-clause-fewer : goal.returns-then-at-len-clause-fewer
returns-then-at-len-clause-fewer c =
    let s = c.args.self.now in
    let fits : s.at < length s.lines.items = let l = c.len.ensures in let i = c.if-at-len.true in omega arith in
    let low = c.if-at-self.true in
    let before = length-drop s.at (take s.len s.lines.items) in
    let after = length-drop (s.at + 1) (take s.len s.lines.items) in
    let all = length-take s.len s.lines.items in
    omega arith
