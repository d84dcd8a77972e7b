use Rattle.std.proofs.Common.{◌≡◌, ◌<◌, get_or, arith}
use Rattle.art_lines.proofs.Decimals.{natural_none, natural_zero, natural_great, natural_first}
use Rattle.art_lines.proofs.command.decimals.natural_of.Goals as goal
use Rattle.art_lines.proofs.command.decimals.natural_of.Goals.{else-len-gt1-via-then-len-gt1+else-text-eq48, else-len-gt1-via-else-len-gt1}

pub returns-then-len-eq0-clause-value : goal.returns-then-len-eq0-clause-value
returns-then-len-eq0-clause-value c = natural_none c.args.text.now c.args.len c.args.number c.requires c.if-len-eq0.true

pub returns-then-text-eq48-clause-value : goal.returns-then-text-eq48-clause-value
returns-then-text-eq48-clause-value c = natural_zero c.args.text.now c.args.len c.args.number c.requires c.if-text-eq48.true c.if-len-gt1.true

pub returns-then-number-clause-value : goal.returns-then-number-clause-value
returns-then-number-clause-value c = natural_great c.args.text.now c.args.len c.args.number c.requires c.if-number.true

pub returns-clause-value : goal.returns-clause-value
returns-clause-value c =
    let some : 0 < c.args.len = let h = c.if-len-eq0.false in omega arith in
    let front : get_or c.args.text.now 0 0 ≡ 48 → c.args.len ≡ 1 = elim c.else-len-gt1.branch [
      | else-len-gt1-via-then-len-gt1+else-text-eq48 w ↦ λ e. absurd (w.if-text-eq48.false e)
      | else-len-gt1-via-else-len-gt1 w ↦ λ _. let short = w.if-len-gt1.false in omega arith
    ] in
    natural_first c.args.text.now c.args.len c.args.number c.requires some front (let small = c.if-number.false in omega arith)
