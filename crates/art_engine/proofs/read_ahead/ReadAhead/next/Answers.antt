use Rattle.std.proofs.Common.{subst, ◌≡◌, suc, ◌+◌, ◌<◌, length, drop, take, Some, ap, sym, ◌∙◌, arith}
use Rattle.std.specs.Prelude.{slice_get}
use Rattle.std.specs.List.{AllByRecursion}
use Rattle.art_engine.specs.ReadAhead.{IsLandedLine, line_or, to_come}
use Rattle.art_engine.specs.declared.read_ahead.line.Line.{Line}
use Rattle.art_engine.proofs.Terms.{read_of}
use Rattle.art_engine.proofs.LinesAhead.{counted_after, few_there, found_there, landed_rest, landed_same, landed_there, next_there, own_there, read_there}
use Rattle.art_engine.proofs.read_ahead.ReadAhead.next.Goals as goal

pub returns-then-at-len-clause-read : goal.returns-then-at-len-clause-read
returns-then-at-len-clause-read c =
    let s = c.args.self.now in
    let fits : s.at < length s.lines.items = let l = c.len.ensures in let i = c.if-at-len.true in omega arith in
    let n = next_there s.lines.items s.len s.at c.args.line.now c.if-at-self.true fits c.requires.comes in
    let same : c.index.result.now ≡ n.0 = c.index.ensures ∙ found_there s.lines.items s.at n.0 c.index.result.now n.1 in
    read_there (slice_get s.lines.items s.at) s.word s.fields c.index.result.now c.args.line.now (n.1 ∙ ap Some (sym same)) (ap (λ (l : Line). l.text.items) same ∙ n.2) c.is_read.ensures.read

pub returns-then-at-len-clause-few : goal.returns-then-at-len-clause-few
returns-then-at-len-clause-few c =
    let s = c.args.self.now in
    let fits : s.at < length s.lines.items = let l = c.len.ensures in let i = c.if-at-len.true in omega arith in
    let n = next_there s.lines.items s.len s.at c.args.line.now c.if-at-self.true fits c.requires.comes in
    let same : c.index.result.now ≡ n.0 = c.index.ensures ∙ found_there s.lines.items s.at n.0 c.index.result.now n.1 in
    few_there (slice_get s.lines.items s.at) c.index.result.now c.args.line.now (n.1 ∙ ap Some (sym same)) (ap (λ (l : Line). l.text.items) same ∙ n.2) c.is_read.ensures.few

pub returns-then-at-len-clause-counted : goal.returns-then-at-len-clause-counted
returns-then-at-len-clause-counted c =
    let s = c.args.self.now in
    let fits : s.at < length s.lines.items = let l = c.len.ensures in let i = c.if-at-len.true in omega arith in
    let on : s.at + 1 ≡ suc s.at = omega arith in
    ap (λ n. line_or 0 (λ (l : Line). l.read) (slice_get s.lines.items s.at) + read_of (drop n (take s.len s.lines.items))) on ∙ counted_after s.lines.items s.len s.at c.if-at-self.true fits

pub returns-then-at-len-clause-own : goal.returns-then-at-len-clause-own
returns-then-at-len-clause-own c =
    let s = c.args.self.now in
    let fits : s.at < length s.lines.items = let l = c.len.ensures in let i = c.if-at-len.true in omega arith in
    let on : s.at + 1 ≡ suc s.at = omega arith in
    let own = own_there s.lines.items s.len s.at c.if-at-self.true fits in
    (own.0, ap (λ n. drop n (take s.len s.lines.items)) on ∙ own.1)

pub returns-then-at-len-clause-landed : goal.returns-then-at-len-clause-landed
returns-then-at-len-clause-landed c = λ P records all.
    let s = c.args.self.now in
    let fits : s.at < length s.lines.items = let l = c.len.ensures in let i = c.if-at-len.true in omega arith in
    let on : s.at + 1 ≡ suc s.at = omega arith in
    let own = own_there s.lines.items s.len s.at c.if-at-self.true fits in (
      λ now. subst (AllByRecursion (IsLandedLine P records)) (sym (ap (λ n. drop n (take s.len s.lines.items)) on ∙ own.1)) (landed_rest P records (to_come s) (all now)),
      landed_there P records s.lines.items s.len s.at s.fresh s.word s.fields c.if-at-self.true fits all,
    )

pub returns-clause-landed : goal.returns-clause-landed
returns-clause-landed c = λ P records all.
    let k = c.parse_now.ensures in (landed_same P records c.args.self.now c.parse_now.new.self k.kept.0 k.kept.1 all, k.unlanded P records)
